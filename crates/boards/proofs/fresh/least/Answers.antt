use mathlib.Core.Path.{ap}
use lib.ListN.{replicate}
use Rattle.events.specs.declared.Rig as one
use Rattle.boards.specs.declared.Rig.{Rig}
use Rattle.boards.specs.View.{board_by}
use Rattle.boards.proofs.Making.{least_refused}
use Rattle.boards.proofs.fresh.least.Goals as goal

pub returns : goal.returns
returns c =
    ap {B = Rig} (λ (x : one.Rig). record { boards = replicate 8 (board_by x); count = 0 })
    (c.make-made.ensures.refused (least_refused _ _))
