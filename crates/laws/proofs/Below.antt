-- What is so of each place below n; sums over these places. Assumes nothing.
use Prim.Native.Nat.{ℕ, zero, suc, ◌+◌, ◌≤◌, ◌<◌}
use mathlib.Core.Path.{◌≡◌, refl, sym, ap, ap₂, subst, ◌∙◌}
use mathlib.Core.Bool.{Bool, true, false, ◌&&◌}
use native.Mathlib.Omega.{arith}
use native.Mathlib.Decide.{dec_lt, dec_le}
use native.Mathlib.Numerals.{add-one}
use Rattle.laws.specs.Below.{all_below, sum_below}
use Rattle.laws.proofs.Bools.{and_left, and_right}

pub below_at : (n : ℕ) (f : ℕ → Bool) → all_below n f ≡ true → (i : ℕ) → i < n → f i ≡ true
unfolding all_below
below_at zero f h i l = absurd (omega (arith, l))
below_at (suc n) f h i l = elim (dec_lt i n) as (λ _. f i ≡ true) [
  | yes s ↦ below_at n f (and_left (all_below n f) (f n) h) i s
  | no s ↦ let e : n ≡ i = omega (arith, l, s) in subst (λ j. f j ≡ true) e (and_right (all_below n f) (f n) h)
]

pub below_all : (n : ℕ) (f : ℕ → Bool) → ((i : ℕ) → i < n → f i ≡ true) → all_below n f ≡ true
unfolding all_below
below_all zero f h = refl
below_all (suc n) f h = rw (below_all n f (λ i l. h i (omega (arith, l))), h n (omega arith))

-- it is not so of all if of one it is not
pub below_no : (n : ℕ) (f : ℕ → Bool) (i : ℕ) → i < n → f i ≡ false → all_below n f ≡ false
below_no n f i l e = go (all_below n f) refl
  where
    go : (b : Bool) → all_below n f ≡ b → b ≡ false
    go true h = sym (below_at n f h i l) ∙ e
    go false h = refl

-- what is the same of each place is the same of all
pub below_same : (n : ℕ) (f g : ℕ → Bool) → ((i : ℕ) → i < n → f i ≡ g i) → all_below n f ≡ all_below n g
unfolding all_below
below_same zero f g h = refl
below_same (suc n) f g h = ap₂ ◌&&◌ (below_same n f g (λ i l. h i (omega (arith, l)))) (h n (omega arith))

-- a scan goes on past a place of which it is so
pub below_next : (i : ℕ) (f : ℕ → Bool) → all_below i f ≡ true → f i ≡ true → all_below (i + 1) f ≡ true
unfolding all_below
below_next i f h e = ap (λ n. all_below n f) (add-one i) ∙ ap₂ ◌&&◌ h e

-- ---- sums

pub sum_next : (i : ℕ) (f : ℕ → ℕ) → sum_below (i + 1) f ≡ sum_below i f + f i
unfolding sum_below
sum_next i f = ap (λ n. sum_below n f) (add-one i)

-- a sum over more places is no less
pub sum_grows : (m n : ℕ) (f : ℕ → ℕ) → m ≤ n → sum_below m f ≤ sum_below n f
unfolding sum_below
sum_grows m zero f h = let e : m ≡ 0 = omega (arith, h) in subst (λ k. sum_below k f ≤ 0) (sym e) (omega arith)
sum_grows m (suc n) f h = elim (dec_le m n) as (λ _. sum_below m f ≤ sum_below n f + f n) [
  | yes l ↦ omega (arith, sum_grows m n f l)
  | no l ↦ let e : m ≡ suc n = omega (arith, h, l) in subst (λ k. sum_below k f ≤ sum_below n f + f n) (sym e) (omega arith)
]

pub sum_same : (n : ℕ) (f g : ℕ → ℕ) → ((i : ℕ) → i < n → f i ≡ g i) → sum_below n f ≡ sum_below n g
unfolding sum_below
sum_same zero f g h = refl
sum_same (suc n) f g h = ap₂ ◌+◌ (sum_same n f g (λ i l. h i (omega (arith, l)))) (h n (omega arith))

pub sum_le : (n : ℕ) (f g : ℕ → ℕ) → ((i : ℕ) → i < n → f i ≤ g i) → sum_below n f ≤ sum_below n g
unfolding sum_below
sum_le zero f g h = omega arith
sum_le (suc n) f g h = omega (arith, sum_le n f g (λ i l. h i (omega (arith, l))), h n (omega arith))

pub sum_both : (n : ℕ) (f g : ℕ → ℕ) → sum_below n (λ i. f i + g i) ≡ sum_below n f + sum_below n g
unfolding sum_below
sum_both zero f g = refl
sum_both (suc n) f g = omega (arith, sum_both n f g)

pub sum_zero : (n : ℕ) → sum_below n (λ i. 0) ≡ 0
unfolding sum_below
sum_zero zero = refl
sum_zero (suc n) = omega (arith, sum_zero n)

-- two sums that differ at one place
pub sum_but : (n : ℕ) (f g : ℕ → ℕ) (j : ℕ) → j < n → ((i : ℕ) → i < n → (i ≡ j → ⊥) → f i ≡ g i)
    → sum_below n f + g j ≡ sum_below n g + f j
unfolding sum_below
sum_but zero f g j l h = absurd (omega (arith, l))
sum_but (suc n) f g j l h = elim (dec_lt j n) as (λ _. sum_below n f + f n + g j ≡ sum_below n g + g n + f j) [
  | yes s ↦ omega (arith, sum_but n f g j s (λ i b. h i (omega (arith, b))), h n (omega arith) (λ e. omega (arith, s, e)))
  | no s ↦
      let e : j ≡ n = omega (arith, l, s) in
      subst (λ k. sum_below n f + f n + g k ≡ sum_below n g + g n + f k) (sym e)
      (omega (arith, sum_same n f g (λ i b. h i (omega (arith, b)) (λ x. omega (arith, b, x, e)))))
]

-- one place's part of a sum
pub sum_one : (n : ℕ) (f : ℕ → ℕ) (j : ℕ) → j < n → f j ≤ sum_below n f
unfolding sum_below
sum_one n f j l = omega (arith, sum_grows (suc j) n f (omega (arith, l)))
