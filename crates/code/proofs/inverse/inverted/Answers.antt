-- `code::inverse::inverted` meets its contract.
use mathlib.Core.Path.{ap, ◌∙◌}
use native.Mathlib.Omega.{arith}
use lib.ListN.{get_or, replicate}
use Rattle.code.proofs.Filled.{filled_none, filled_at, turn}
use Rattle.field.specs.Field.{inverse_of}
use Rattle.code.proofs.inverse.inverted.Goals as goal

pub loop-r-init : goal.loop-r-init
loop-r-init c = filled_none _ _

pub loop-r-preserved : goal.loop-r-preserved
loop-r-preserved c =
    let at = c.loop-r in
    turn (λ i. inverse_of (get_or c.args.v i 0)) at.r (replicate 16 0) at.d _ at.invariant (omega arith) c.inverse.ensures

pub returns : goal.returns
returns c =
    let at = c.loop-r in
    let a = c.args in
    λ i h. ap (λ l. get_or l i 0) at.invariant ∙ filled_at (λ j. inverse_of (get_or a.v j 0)) at.r i (replicate 16 0) 0 (omega arith)
