-- `products::row` meets its contract: at byte b, b products of the row were compared. Assumes nothing.
use mathlib.Core.Path.{◌≡◌, sym, ap, ◌∙◌}
use Prim.Native.Nat.{◌+◌}
use native.Mathlib.Omega.{arith}
use Rattle.products.specs.Multiplier.{all_differ, row_differ}
use Rattle.products.proofs.Counted.{all_low, all_more, row_low, row_more, row_none}
use Rattle.products.proofs.row.Goals as goal

pub loop-b-init : goal.loop-b-init
loop-b-init c = omega (arith, row_none c.args.a)

pub differs-differ-requires : goal.differs-differ-requires
differs-differ-requires c = omega arith

pub overflow_add-differ : goal.overflow_add-differ
overflow_add-differ c =
    let at = c.loop-b in
    let a = c.args.a in
    omega (arith, all_low a, row_low a (at.b + 1), row_more a at.b)

pub overflow_add-compared : goal.overflow_add-compared
overflow_add-compared c = omega arith

pub overflow_step-b : goal.overflow_step-b
overflow_step-b c = omega arith

pub loop-b-smaller : goal.loop-b-smaller
loop-b-smaller c = omega arith

pub loop-b-preserved : goal.loop-b-preserved
loop-b-preserved c =
    let at = c.loop-b in
    omega (arith, row_more c.args.a at.b)

pub returns : goal.returns
returns c =
    let at = c.loop-b in
    let a = c.args.a in
    let e : at.b ≡ 256 = omega arith in
    (omega arith, at.invariant.3 ∙ ap (λ n. all_differ a + row_differ a n) e ∙ sym (all_more a))
