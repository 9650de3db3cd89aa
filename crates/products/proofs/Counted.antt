-- The multiplier's turns, and the counts. Assumes nothing.
use mathlib.Core.Path.{◌≡◌, refl, ap}
use mathlib.Core.Bool.{Bool, true, false, cond}
use Prim.Native.Nat.{ℕ, zero, suc, ◌+◌, ◌-◌, ◌*◌, ◌^◌, ◌%◌, ◌/◌, ◌≤◌, ◌<◌}
use native.Mathlib.Omega.{arith}
use native.Mathlib.Numerals.{add-one}
use native.Mathlib.Nat.{mod-eq_of_lt, mul-le-mul, pow-le-pow_right}
use borrow.Author.Tests.{eq-eqb, ne_eqb}
use lib.Dec.{eqb}
use Rattle.field.specs.Field.{plus, times}
use Rattle.products.specs.Multiplier.{all_differ, differ, reduced, row_differ, shifted}

-- a shift of a polynomial of degree 8 by at most 7 loses nothing
whole : (a i : ℕ) → a < 512 → i ≤ 7 → a * 2 ^ i % 4294967296 ≡ a * 2 ^ i
whole a i h l =
    let low : a ≤ 511 = omega arith in
    let high : 2 ^ i ≤ 128 = pow-le-pow_right (omega arith) l in
    mod-eq_of_lt (omega (arith, mul-le-mul low high))

-- a turn of the product
module _ (n a b sum : ℕ) (so_far : sum ≡ shifted n a b) where
  pub shifted_more : n < 8 → a < 256 → eqb (b / 2 ^ n % 2) 1 ≡ true → plus sum (a * 2 ^ n % 4294967296) ≡ shifted (n + 1) a b
  unfolding shifted
  shifted_more h l t = rw (add-one n, t, ← so_far) (ap (plus sum) (whole a n (omega arith) (omega arith)))

  pub shifted_same : eqb (b / 2 ^ n % 2) 1 ≡ false → sum ≡ shifted (n + 1) a b
  unfolding shifted
  shifted_same t = rw (add-one n, t) so_far

-- a turn of the remainder
module _ (n p rest : ℕ) (so_far : rest ≡ reduced n p) where
  pub reduced_more : n < 7 → eqb (rest / 2 ^ (14 - n) % 2) 1 ≡ true → plus rest (285 * 2 ^ (6 - n) % 4294967296) ≡ reduced (n + 1) p
  unfolding reduced
  reduced_more h t = rw (add-one n, ← so_far, t) (ap (plus rest) (whole 285 (6 - n) (omega arith) (omega arith)))

  pub reduced_same : eqb (rest / 2 ^ (14 - n) % 2) 1 ≡ false → rest ≡ reduced (n + 1) p
  unfolding reduced
  reduced_same t = rw (add-one n, ← so_far, t)

-- the comparison of two products
module _ (a b x y : ℕ) (table : x ≡ times a b) (shift-and-add : y ≡ reduced 7 (shifted 8 a b)) where
  pub equal : x ≡ y → 0 ≡ differ a b
  unfolding differ
  equal e = rw (← table, ← shift-and-add, eq-eqb x y e)

  pub other : (x ≡ y → ⊥) → 1 ≡ differ a b
  unfolding differ
  other n = rw (← table, ← shift-and-add, ne_eqb x y n)

-- a product counts for at most 1, a row for at most its products
differ_low : (a b : ℕ) → differ a b ≤ 1
unfolding differ
differ_low a b = go (eqb (times a b) (reduced 7 (shifted 8 a b)))
  where
    go : (t : Bool) → cond t 0 1 ≤ 1
    go true = omega arith
    go false = omega arith

pub row_none : (a : ℕ) → row_differ a 0 ≡ 0
unfolding row_differ
row_none a = refl

pub row_more : (a n : ℕ) → row_differ a (n + 1) ≡ row_differ a n + differ a n
unfolding row_differ
row_more a n = ap (row_differ a) (add-one n)

pub row_low : (a n : ℕ) → row_differ a n ≤ n
unfolding row_differ
row_low a zero = omega arith
row_low a (suc n) = omega (arith, row_low a n, differ_low a n)

pub all_none : all_differ 0 ≡ 0
unfolding all_differ
all_none = refl

pub all_more : (n : ℕ) → all_differ (n + 1) ≡ all_differ n + row_differ n 256
unfolding all_differ
all_more n = ap all_differ (add-one n)

pub all_low : (n : ℕ) → all_differ n ≤ n * 256
unfolding all_differ
all_low zero = omega arith
all_low (suc n) = omega (arith, all_low n, row_low n 256)
