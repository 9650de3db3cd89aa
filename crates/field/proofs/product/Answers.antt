-- `field::product` meets its contract: 0 times a byte is 0, and of two powers of 2 the exponents add. Assumes nothing.
use mathlib.Core.Path.{◌≡◌, sym, ap, ap₂, ◌∙◌}
use Prim.Native.Nat.{ℕ}
use lib.Dec.{lit<}
use Rattle.field.specs.Field.{times}
use Rattle.field.proofs.Laws.{times_zero_left, times_zero_right, power_add}
use Rattle.field.proofs.product.Goals as goal

zero_left : (a b : ℕ) → a ≡ 0 → 0 ≡ times a b
zero_left a b e = sym (ap (λ (x : ℕ). times x b) e ∙ times_zero_left b)

zero_right : (a b : ℕ) → b ≡ 0 → 0 ≡ times a b
zero_right a b e = sym (ap (times a) e ∙ times_zero_right a)

pub returns-then-a-eq0 : goal.returns-then-a-eq0
returns-then-a-eq0 c = search (zero_left, zero_right)

pub returns-then-b-eq0 : goal.returns-then-b-eq0
returns-then-b-eq0 c = search (zero_left, zero_right)

pub returns : goal.returns
returns c =
    let one = c.logarithm in
    let two = c.logarithm-2 in
    c.power_of_two.ensures
    ∙ power_add 2 one.result two.result (lit< tt)
    ∙ ap₂ times
    (one.ensures.exponent c.if-a-eq0.false)
    (two.ensures.exponent c.if-b-eq0.false)
