-- The board's are counted among those passed. Assumes nothing.
use mathlib.Core.Path.{refl, sym, ap, ◌∙◌}
use Prim.Native.Nat.{◌+◌}
use native.Mathlib.Omega.{arith}
use lib.ListN.{take}
use lib.Seq.{length-take-le, take_all}
use Rattle.laws.specs.Owners.{count_of}
use Rattle.laws.proofs.OwnersScan.{count_hit, count_le, count_miss}
use Rattle.flight.proofs.owners.count_of.Goals as goal
use Rattle.flight.proofs.owners.count_of.Goals.{then-board-owner, else-board-owner}

pub loop-owner-init : goal.loop-owner-init
unfolding count_of
loop-owner-init c = refl

pub overflow_add-n : goal.overflow_add-n
overflow_add-n c =
    let l = c.loop-owner in
    let os = c.used-used.result.now in
    omega (arith, l.invariant, count_le c.args.board (take l.owner-index os), length-take-le l.owner-index os (omega (arith, c.loop-owner-test.true)))

pub loop-owner-preserved : goal.loop-owner-preserved
loop-owner-preserved c =
    let l = c.loop-owner in
    let os = c.used-used.result.now in
    let b = c.args.board in
    elim c.if-board-owner.branch [
      | then-board-owner w ↦ w.n-is ∙ ap (λ n. n + 1) l.invariant ∙ sym (count_hit b os l.owner-index c.loop-owner-test.true (sym w.if-board-owner.true))
      | else-board-owner w ↦ w.n-is ∙ l.invariant ∙ sym (count_miss b os l.owner-index c.loop-owner-test.true (λ e. w.if-board-owner.false (sym e)))
    ]

pub returns : goal.returns
returns c =
    let l = c.loop-owner in
    let b = c.args.board in
    l.invariant ∙ ap (count_of b) (take_all l.owner-index c.used-used.result.now c.loop-owner-test.false ∙ c.used-used.ensures)
