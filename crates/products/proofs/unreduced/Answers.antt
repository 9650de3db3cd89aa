-- `products::unreduced` meets its contract: at term i, the terms below it were added. Assumes nothing.
use mathlib.Core.Path.{◌≡◌, refl, ap, ◌∙◌}
use native.Mathlib.Omega.{arith}
use borrow.Author.Tests.{eq-eqb, ne_eqb}
use Rattle.products.specs.Multiplier.{shifted}
use Rattle.products.proofs.Counted.{shifted_more, shifted_same}
use Rattle.products.proofs.unreduced.Goals as goal
use Rattle.products.proofs.unreduced.Goals.{then-b-i-eq1, else-b-i-eq1}

pub loop-i-init : goal.loop-i-init
unfolding shifted
loop-i-init c = (omega arith, refl)

pub overflow_shr-b : goal.overflow_shr-b
overflow_shr-b c = omega arith

pub overflow_shl-sum : goal.overflow_shl-sum
overflow_shl-sum c = omega arith

pub overflow_step-i : goal.overflow_step-i
overflow_step-i c = omega arith

pub loop-i-smaller : goal.loop-i-smaller
loop-i-smaller c = omega arith

pub loop-i-preserved : goal.loop-i-preserved
loop-i-preserved c =
    let at = c.loop-i in
    let a = c.args in (
      omega arith,
      elim c.if-b-i-eq1.branch [
        | then-b-i-eq1 w ↦
            w.sum-is ∙ shifted_more at.i a.a a.b at.sum at.invariant.1 (omega arith) c.requires (eq-eqb _ 1 w.if-b-i-eq1.true)
        | else-b-i-eq1 w ↦ w.sum-is ∙ shifted_same at.i a.a a.b at.sum at.invariant.1 (ne_eqb _ 1 w.if-b-i-eq1.false)
      ],
    )

pub returns : goal.returns
returns c =
    let at = c.loop-i in
    let a = c.args in
    let e : at.i ≡ 8 = omega arith in
    at.invariant.1 ∙ ap (λ n. shifted n a.a a.b) e
