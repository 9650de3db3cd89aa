use mathlib.Core.Path.{refl, ◌∙◌}
use Rattle.config.proofs.Valid.{rig_in_range}
use Rattle.config.proofs.Config.ask.Goals as goal

pub returns : goal.returns
returns c = c.ask_rig.ensures ∙ rig_in_range c.args.self 1 refl
