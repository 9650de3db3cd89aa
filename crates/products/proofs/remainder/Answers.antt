-- `products::remainder` meets its contract: at i, the i highest terms were taken off. Assumes nothing.
use mathlib.Core.Path.{◌≡◌, refl, ap, ◌∙◌}
use native.Mathlib.Omega.{arith}
use borrow.Author.Tests.{eq-eqb, ne_eqb}
use Rattle.products.specs.Multiplier.{reduced}
use Rattle.products.proofs.Counted.{reduced_more, reduced_same}
use Rattle.products.proofs.remainder.Goals as goal
use Rattle.products.proofs.remainder.Goals.{then-rest-i-eq1, else-rest-i-eq1}

pub loop-i-init : goal.loop-i-init
unfolding reduced
loop-i-init c = (omega arith, refl)

pub overflow_sub-i : goal.overflow_sub-i
overflow_sub-i c = omega arith

pub overflow_shr-rest : goal.overflow_shr-rest
overflow_shr-rest c = omega arith

pub overflow_sub-rest : goal.overflow_sub-rest
overflow_sub-rest c = omega arith

pub overflow_shl-rest : goal.overflow_shl-rest
overflow_shl-rest c = omega arith

pub overflow_step-i : goal.overflow_step-i
overflow_step-i c = omega arith

pub loop-i-smaller : goal.loop-i-smaller
loop-i-smaller c = omega arith

pub loop-i-preserved : goal.loop-i-preserved
loop-i-preserved c =
    let at = c.loop-i in
    let p = c.args.p in (
      omega arith,
      elim c.if-rest-i-eq1.branch [
        | then-rest-i-eq1 w ↦ w.rest-is ∙ reduced_more at.i p at.rest at.invariant.1 (omega arith) (eq-eqb _ 1 w.if-rest-i-eq1.true)
        | else-rest-i-eq1 w ↦ w.rest-is ∙ reduced_same at.i p at.rest at.invariant.1 (ne_eqb _ 1 w.if-rest-i-eq1.false)
      ],
    )

pub returns : goal.returns
returns c =
    let at = c.loop-i in
    let e : at.i ≡ 7 = omega arith in
    at.invariant.1 ∙ ap (λ n. reduced n c.args.p) e
