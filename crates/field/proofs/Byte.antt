-- The field, for algebra over any field: its elements are the bytes, each with the fact that it is one, so its laws ask
-- nothing. A byte's number is `.0`, and the operations' numbers are those of specs/Field. Assumes nothing.
use mathlib.Core.Path.{◌≡◌, refl, ap}
use mathlib.Core.HLevel.{Σ_prop_path}
use Prim.Native.Nat.{ℕ, suc, ◌<◌}
use native.Mathlib.Bridge.{le_prop}
use native.Mathlib.Omega.{arith}
use lib.Dec.{lit<}
use Rattle.laws.specs.Algebra.{FieldLaws}
use Rattle.field.specs.Field.{plus, times, power, inverse_of}
use Rattle.field.proofs.Laws as law

abbrev pub Byte : Type 0
Byte = (n : ℕ) × (n < 256)

-- bytes of one number are equal
pub same : {a b : Byte} → a.0 ≡ b.0 → a ≡ b
same e = Σ_prop_path (λ n. le_prop) e

unfoldable pub zero : Byte
zero = (0, lit< tt)

unfoldable pub one : Byte
one = (1, lit< tt)

unfoldable pub add : Byte → Byte → Byte
add a b = (plus a.0 b.0, law.plus_lt a.0 b.0 a.1 b.1)

unfoldable pub mul : Byte → Byte → Byte
mul a b = (times a.0 b.0, law.times_lt a.0 b.0 a.1 b.1)

unfoldable pub inv : Byte → Byte
inv a = (inverse_of a.0, law.inverse_lt a.0 a.1)

unfoldable pub pow : Byte → ℕ → Byte
pow a ℕ.zero = one
pow a (suc i) = mul a (pow a i)

-- ---- the numbers

pub zero_number : zero.0 ≡ 0
unfolding zero
zero_number = refl

pub one-number : one.0 ≡ 1
unfolding one
one-number = refl

pub add_number : (a b : Byte) → (add a b).0 ≡ plus a.0 b.0
unfolding add
add_number a b = refl

pub mul_number : (a b : Byte) → (mul a b).0 ≡ times a.0 b.0
unfolding mul
mul_number a b = refl

pub inv_number : (a : Byte) → (inv a).0 ≡ inverse_of a.0
unfolding inv
inv_number a = refl

pub pow_number : (a : Byte) (i : ℕ) → (pow a i).0 ≡ power a.0 i
unfolding pow power mul one
pow_number a ℕ.zero = refl
pow_number a (suc i) = ap (times a.0) (pow_number a i)

-- ---- the laws

one_other : one ≡ zero → ⊥
unfolding one zero
one_other e = let n : ◌≡◌ {A = ℕ} 1 0 = ap (λ (a : Byte). a.0) e in omega arith

pub laws : FieldLaws Byte zero one add mul inv
unfolding zero one add mul inv
laws = record {
  add_assoc = λ a b c. same (law.plus_assoc a.0 b.0 c.0);
  add_comm = λ a b. same (law.plus_comm a.0 b.0);
  add-zero = λ a. same (law.plus-zero a.0);
  add_self = λ a. same (law.plus_self a.0);
  mul_assoc = λ a b c. same (law.times_assoc a.0 b.0 c.0 a.1 b.1 c.1);
  mul_comm = λ a b. same (law.times_comm a.0 b.0 a.1 b.1);
  mul_one = λ a. same (law.times_one a.0 a.1);
  mul_add = λ a b c. same (law.times_plus_right a.0 b.0 c.0);
  mul_inv = λ a n. same (law.times_inverse a.0 a.1 (λ e. n (same e)));
  one_ne_zero = one_other;
}
