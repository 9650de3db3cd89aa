use mathlib.Core.Path.{ap, ◌∙◌}
use Rattle.events.specs.Questions.{place_for}
use Rattle.events.proofs.named.client.Goals as goal

pub returns : goal.returns
returns c = c.place.ensures ∙ ap (place_for c.args.cfg.c) c.number-c.ensures
