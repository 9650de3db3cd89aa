-- Exclusive or and the product are a field on the bytes, and 2 generates it. Laws of linearity hold of all numbers; a law
-- that asks that a number is a byte says so. Each byte other than 0 is 1 doubled some number of times, so the laws of the
-- product are those of adding these numbers. Assumes nothing.
use mathlib.Core.Path.{◌≡◌, refl, sym, ap, ◌∙◌, subst}
use mathlib.Core.Bool.{Bool, true, false, cond}
use Prim.Native.Nat.{ℕ, zero, suc, ◌+◌, ◌-◌, ◌<◌}
use native.Mathlib.Nat.{le_refl, le_of_suc-le-suc, not-suc-le-zero, zero-add, suc-add}
use native.Mathlib.Decide.{ℕ_discrete}
use native.Mathlib.Omega.{arith}
use lib.Arith.{lt_of_le-ne}
use lib.Bits.{xor_zero_r, xor_self, xor_comm, xor_lt}
use lib.Dec.{eqb, lit<}
use borrow.Author.Tests.{eqb-true, eqb-false}
use Rattle.laws.proofs.Xor.{xor_assoc}
use Rattle.field.specs.Field.{plus, double, doubled, times, power, inverse_below, inverse_of}
use Rattle.field.proofs.Generator.{generated, period}
pub use Rattle.field.proofs.Linear.{
  double_plus,
  double_lt,
  doubled_plus,
  doubled_lt,
  doubled_add,
  doubled_comm,
  times_plus_left,
  times_plus_right,
  times_zero_left,
  times_zero_right,
  times_double,
  times_doubled,
  times_one_left,
}

-- what holds of 0 and of 1 doubled any number of times holds of each byte
pub by_byte : (P : ℕ → Type 0) → P 0 → ((i : ℕ) → P (doubled i 1)) → (a : ℕ) → a < 256 → P a
by_byte P p q a h = go (ℕ_discrete a 0)
  where
    go : Dec (a ≡ 0) → P a
    go (yes e) = subst P (sym e) p
    go (no n) = let g = generated a h n in subst P g.2 (q g.0)

one_lt : 1 < 256
one_lt = lit< tt

-- ---- the sum

pub plus_assoc : (a b c : ℕ) → plus (plus a b) c ≡ plus a (plus b c)
plus_assoc = xor_assoc

pub plus_comm : (a b : ℕ) → plus a b ≡ plus b a
plus_comm = xor_comm

pub plus-zero : (a : ℕ) → plus a 0 ≡ a
plus-zero = xor_zero_r

pub plus_self : (a : ℕ) → plus a a ≡ 0
plus_self = xor_self

pub plus_lt : (a b : ℕ) → a < 256 → b < 256 → plus a b < 256
plus_lt a b h k = xor_lt 8 a b h k

-- ---- the product

doubled_times : (i b : ℕ) → b < 256 → times (doubled i 1) b ≡ doubled i b
doubled_times i b h = times_doubled i 1 b ∙ ap (doubled i) (times_one_left b h)

pub times_lt : (a b : ℕ) → a < 256 → b < 256 → times a b < 256
times_lt a b h k =
    by_byte (λ (x : ℕ). times x b < 256) (rw times_zero_left (lit< tt)) (λ i. rw (doubled_times i b k) (doubled_lt i b k)) a h

pub times_comm : (a b : ℕ) → a < 256 → b < 256 → times a b ≡ times b a
times_comm a b h k =
    by_byte (λ (x : ℕ). times x b ≡ times b x) (times_zero_left b ∙ sym (times_zero_right b))
    (λ i. by_byte (λ (y : ℕ). times (doubled i 1) y ≡ times y (doubled i 1))
    (times_zero_right (doubled i 1) ∙ sym (times_zero_left (doubled i 1)))
    (λ j. doubled_times i (doubled j 1) (doubled_lt j 1 one_lt)
    ∙ doubled_comm i j 1
    ∙ sym (doubled_times j (doubled i 1) (doubled_lt i 1 one_lt)))
    b k)
    a h

pub times_assoc : (a b c : ℕ) → a < 256 → b < 256 → c < 256 → times (times a b) c ≡ times a (times b c)
times_assoc a b c h k l =
    by_byte (λ (x : ℕ). times (times x b) c ≡ times x (times b c))
    (ap (λ (x : ℕ). times x c) (times_zero_left b) ∙ times_zero_left c ∙ sym (times_zero_left (times b c)))
    (λ i. ap (λ (x : ℕ). times x c) (doubled_times i b k)
    ∙ times_doubled i b c
    ∙ sym (doubled_times i (times b c) (times_lt b c k l)))
    a h

pub times_one : (a : ℕ) → a < 256 → times a 1 ≡ a
times_one a h = times_comm a 1 h one_lt ∙ times_one_left a h

-- ---- the inverse

inverted : (a : ℕ) → a < 256 → (a ≡ 0 → ⊥) → (b : ℕ) × (b < 256) × (times a b ≡ 1)
inverted a h n =
    let g = generated a h n in (
      doubled (255 - g.0) 1,
      doubled_lt (255 - g.0) 1 one_lt,
      ap (λ (x : ℕ). times x (doubled (255 - g.0) 1)) (sym g.2)
          ∙ doubled_times g.0 (doubled (255 - g.0) 1) (doubled_lt (255 - g.0) 1 one_lt)
          ∙ sym (doubled_add g.0 (255 - g.0) 1)
          ∙ ap (λ (x : ℕ). doubled x 1) (omega (arith, g.1))
          ∙ period,
    )

-- no other byte is an inverse
one_inverse : (a b c : ℕ) → a < 256 → b < 256 → c < 256 → times a b ≡ 1 → times a c ≡ 1 → c ≡ b
one_inverse a b c h k l e f =
    sym (times_one_left c l)
    ∙ ap (λ (x : ℕ). times x c) (sym e ∙ times_comm a b h k)
    ∙ times_assoc b a c k h l
    ∙ ap (times b) f
    ∙ times_one b k

below_none : (n : ℕ) → inverse_below n 0 ≡ 0
unfolding inverse_below
below_none zero = refl
below_none (suc n) = rw times_zero_left (below_none n)

below_only : (n a r : ℕ) → r < n → times a r ≡ 1 → ((b : ℕ) → b < n → times a b ≡ 1 → b ≡ r) → inverse_below n a ≡ r
unfolding inverse_below
below_only zero a r h e u = absurd (not-suc-le-zero h)
below_only (suc n) a r h e u = go (below_only n a r) (eqb (times a n) 1) refl
  where
    go : (r < n → times a r ≡ 1 → ((b : ℕ) → b < n → times a b ≡ 1 → b ≡ r) → inverse_below n a ≡ r)
        → (t : Bool) → eqb (times a n) 1 ≡ t → cond t n (inverse_below n a) ≡ r
    go ih true f = u n (le_refl (suc n)) (eqb-true (times a n) 1 f)
    go ih false f =
        ih (lt_of_le-ne (le_of_suc-le-suc h) (λ q. eqb-false (times a n) 1 f (ap (times a) (sym q) ∙ e))) e
        (λ b k. u b (omega arith))

pub inverse_zero : inverse_of 0 ≡ 0
unfolding inverse_of
inverse_zero = below_none _

-- a byte whose product with a is 1 is the inverse
pub inverse_only : (a b : ℕ) → a < 256 → b < 256 → times a b ≡ 1 → inverse_of a ≡ b
unfolding inverse_of
inverse_only a b h k e = below_only _ a b k e (λ c l f. one_inverse a b c h k l e f)

inverse_other : (a : ℕ) → a < 256 → (a ≡ 0 → ⊥) → (inverse_of a < 256) × (times a (inverse_of a) ≡ 1)
inverse_other a h n =
    let v = inverted a h n in
    let e = sym (inverse_only a v.0 h v.1 v.2) in
    (subst (λ (x : ℕ). x < 256) e v.1, subst (λ (x : ℕ). times a x ≡ 1) e v.2)

pub inverse_lt : (a : ℕ) → a < 256 → inverse_of a < 256
inverse_lt a h = go (ℕ_discrete a 0)
  where
    go : Dec (a ≡ 0) → inverse_of a < 256
    go (yes e) = rw (e, inverse_zero) (lit< tt)
    go (no n) = (inverse_other a h n).0

pub times_inverse : (a : ℕ) → a < 256 → (a ≡ 0 → ⊥) → times a (inverse_of a) ≡ 1
times_inverse a h n = (inverse_other a h n).1

pub no_zero_divisors : (a b : ℕ) → a < 256 → b < 256 → times a b ≡ 0 → (a ≡ 0 → ⊥) → b ≡ 0
no_zero_divisors a b h k e n =
    sym (times_one_left b k)
    ∙ ap (λ (x : ℕ). times x b) (sym (times_inverse a h n) ∙ times_comm a (inverse_of a) h (inverse_lt a h))
    ∙ times_assoc (inverse_of a) a b (inverse_lt a h) h k
    ∙ ap (times (inverse_of a)) e
    ∙ times_zero_right (inverse_of a)

-- ---- powers

pub power_lt : (a i : ℕ) → a < 256 → power a i < 256
unfolding power
power_lt a zero h = one_lt
power_lt a (suc i) h = times_lt a (power a i) h (power_lt a i h)

pub power_add : (a i j : ℕ) → a < 256 → power a (i + j) ≡ times (power a i) (power a j)
unfolding power
power_add a zero j h = ap (power a) (zero-add j) ∙ sym (times_one_left (power a j) (power_lt a j h))
power_add a (suc i) j h =
    ap (power a) (suc-add i j)
    ∙ ap (times a) (power_add a i j h)
    ∙ sym (times_assoc a (power a i) (power a j) h (power_lt a i h) (power_lt a j h))

-- a power of 2 is 1 doubled
pub power_two : (i : ℕ) → power 2 i ≡ doubled i 1
unfolding power doubled double
power_two zero = refl
power_two (suc i) = ap (times 2) (power_two i) ∙ doubled_times 1 (doubled i 1) (doubled_lt i 1 one_lt)

pub power_period : power 2 255 ≡ 1
power_period = power_two 255 ∙ period

-- 2 generates the bytes other than 0
pub generates : (a : ℕ) → a < 256 → (a ≡ 0 → ⊥) → (i : ℕ) × (i < 255) × (power 2 i ≡ a)
generates a h n = let g = generated a h n in (g.0, g.1, power_two g.0 ∙ g.2)
