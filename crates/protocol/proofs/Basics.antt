-- Tests, functions changed at one number, and how many `to_each` gives.
use Prim.Native.Nat.{ℕ, zero, suc}
use mathlib.Core.Path.{◌≡◌, refl, sym, ◌∙◌, ap, fun_ext}
use mathlib.Core.Bool.{Bool, true, false, cond, ◌&&◌, ◌||◌, false≢true}
use mathlib.Core.List.{[], ◌∷◌}
use mathlib.Core.Logic.{◌⊎◌, inl, inr}
use mathlib.Core.Option
use mathlib.Core.Option.{none, some, none-ne-some}
use native.Mathlib.Omega.{arith}
use lib.Dec.{eqb}
use lib.ListN.{length, length-append}
use borrow.Author.Tests.{eqb-true, eqb-false, eq-eqb, ne_eqb}
use Rattle.protocol.specs.Number.{upd, to_each}

-- a choice by a test, shown for both outcomes
pub cond_elim : {A : Type 0} (P : A → Type 0) (b : Bool) (x y : A) → (b ≡ true → P x) → (b ≡ false → P y) → P (cond b x y)
cond_elim P true x y h k = h refl
cond_elim P false x y h k = k refl

pub either : (b : Bool) → (b ≡ true) ⊎ (b ≡ false)
either true = inl refl
either false = inr refl

pub and-true : (a b : Bool) → (a && b) ≡ true → (a ≡ true) × (b ≡ true)
and-true true b e = (refl, e)
and-true false b e = absurd (false≢true e)

pub or_left : (a b : Bool) → (a || b) ≡ false → a ≡ false
or_left true b h = h
or_left false b h = refl

pub or_right : (a b : Bool) → (a || b) ≡ false → b ≡ false
or_right true b h = absurd (false≢true (sym h))
or_right false b h = h

-- a function changed at n, shown at m: m is n, or m is another
pub upd_elim : {A : Type 0} (P : A → Type 0) (f : ℕ → A) (n : ℕ) (a : A) (m : ℕ) → (m ≡ n → P a) → ((m ≡ n → ⊥) → P (f m)) → P (upd f n a m)
unfolding upd
upd_elim P f n a m h k =
    cond_elim P (eqb m n) a (f m) (λ e. h (eqb-true m n e)) (λ e. k (eqb-false m n e))

pub upd_same : {A : Type 0} (f : ℕ → A) (n : ℕ) (a : A) → upd f n a n ≡ a
unfolding upd
upd_same f n a = rw (eq-eqb n n refl)

pub upd_other : {A : Type 0} (f : ℕ → A) (n : ℕ) (a : A) (m : ℕ) → (m ≡ n → ⊥) → upd f n a m ≡ f m
unfolding upd
upd_other f n a m h = rw (ne_eqb m n h)

pub upd_own : {A : Type 0} (f : ℕ → A) (n : ℕ) → upd f n (f n) ≡ f
upd_own {A} f n = fun_ext (λ m. upd_elim (λ (x : A). x ≡ f m) f n (f n) m (λ e. ap f (sym e)) (λ e. refl))

pub upd_twice : {A : Type 0} (f : ℕ → A) (n : ℕ) (a b : A) → upd (upd f n a) n b ≡ upd f n b
upd_twice {A} f n a b =
    fun_ext (λ m. upd_elim (λ (x : A). x ≡ upd f n b m) (upd f n a) n b m (λ e. sym (ap (upd f n b) e ∙ upd_same f n b)) (λ e. upd_other f n a m e ∙ sym (upd_other f n b m e)))

pub none≢some : {A : Type 0} {a : A} → none ≡ some a → ⊥
none≢some {a = a} e = none-ne-some a e

pub some-injective : {A : Type 0} {a b : A} → some a ≡ some b → a ≡ b
some-injective {a = a} {b = b} e = Option.some-injective a b e

-- one to each of n is n
pub length_to_each : {A : Type 0} (n : ℕ) (f : ℕ → A) → length (to_each n f) ≡ n
unfolding to_each
length_to_each zero f = refl
length_to_each (suc n) f = length-append (to_each n f) (f (suc n) ∷ []) ∙ omega (arith, length_to_each n f)
