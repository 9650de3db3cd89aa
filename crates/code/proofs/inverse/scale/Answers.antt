-- `code::inverse::scale` meets its contract: the rows before i are scaled.
use mathlib.Core.Path.{ap, ◌∙◌}
use mathlib.Core.List.{[]}
use native.Mathlib.Omega.{arith}
use lib.ListN.{get_or}
use Rattle.code.specs.inner.Lanes.{scaled_lanes}
use Rattle.code.proofs.Advanced.{multiplied_at}
use Rattle.code.proofs.Filled.{filled_none, filled_at, was, turn}
use Rattle.code.proofs.inverse.scale.Invariants.{each}
use Rattle.code.proofs.inverse.scale.Goals as goal

pub loop-i-init : goal.loop-i-init
loop-i-init c = filled_none _ _

pub loop-i-preserved : goal.loop-i-preserved
unfolding each
loop-i-preserved c =
    let at = c.loop-i in
    let a = c.args in
    let f = each a.rows.now a.d in
    turn f at.i a.rows.now at.rows _ at.invariant (omega arith)
    (c.multiply.ensures ∙ ap (λ l. scaled_lanes l a.d) (was f at.i a.rows.now at.rows [] at.invariant (omega arith)))

pub returns : goal.returns
unfolding each
returns c =
    let at = c.loop-i in
    let a = c.args in
    λ i t h l.
    ap (λ r. get_or (get_or r i []) t 0) at.invariant
    ∙ ap (λ r. get_or r t 0) (filled_at (each a.rows.now a.d) at.i i a.rows.now [] (omega arith))
    ∙ multiplied_at (get_or a.rows.now i []) a.d t l
