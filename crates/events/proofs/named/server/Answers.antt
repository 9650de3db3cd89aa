use mathlib.Core.Path.{ap, ◌∙◌}
use Rattle.events.specs.Questions.{place_for}
use Rattle.events.proofs.named.server.Goals as goal

pub returns : goal.returns
returns c = c.place.ensures ∙ ap (place_for c.args.cfg.n) c.number-s.ensures
