use mathlib.Core.Path.{refl}
use Rattle.boards.specs.View.{rig_with}
use Rattle.boards.proofs.outcome.one.Goals as goal

pub returns : goal.returns
unfolding rig_with
returns c = refl
