-- `products::all` meets its contract: at byte a, the products of a rows were compared. Assumes nothing.
use mathlib.Core.Path.{◌≡◌, sym, ap, ◌∙◌}
use native.Mathlib.Omega.{arith}
use Rattle.products.specs.Multiplier.{all_differ}
use Rattle.products.proofs.Counted.{all_none}
use Rattle.products.proofs.all.Goals as goal

pub loop-a-init : goal.loop-a-init
loop-a-init c = (omega arith, omega arith, sym all_none)

pub row-t-requires : goal.row-t-requires
row-t-requires c = let inv = c.loop-a.invariant in record { a_bound = omega arith; compared_value = (inv.1, inv.2) }

pub overflow_step-a : goal.overflow_step-a
overflow_step-a c = omega arith

pub loop-a-smaller : goal.loop-a-smaller
loop-a-smaller c = omega arith

pub loop-a-preserved : goal.loop-a-preserved
loop-a-preserved c = (omega arith, c.row-t.ensures.0, c.row-t.ensures.1)

pub returns : goal.returns
returns c =
    let at = c.loop-a in
    let e : at.a ≡ 256 = omega arith in
    (omega arith, at.invariant.2 ∙ ap all_differ e)
