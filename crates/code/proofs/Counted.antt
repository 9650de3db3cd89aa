-- Whether `count` elements of e bytes have `total` bytes, told by division.
use Prim.Native.Nat.{ℕ, ◌+◌, ◌*◌, ◌/◌, ◌%◌, ◌≤◌}
use mathlib.Core.Path.{◌≡◌, sym, ap, ◌∙◌}
use mathlib.Core.Bool.{false}
use native.Mathlib.Omega.{arith}
use native.Mathlib.Nat.{div-add-mod'}
use native.Mathlib.Decide.{ℕ_discrete}
use borrow.Author.Tests.{eq-eqb, ne_eqb}
use lib.Arith.{digits_div}
use lib.Dec.{eqb}

quotient : (count e : ℕ) → 1 ≤ e → count * e / e ≡ count
quotient count e l = ap (λ n. n / e) (omega arith) ∙ digits_div count {m = e} {r = 0} l

pub other_quotient : (count e total : ℕ) → 1 ≤ e → (total / e ≡ count → ⊥) → false ≡ eqb total (count * e)
other_quotient count e total l n = sym (ne_eqb total (count * e) (λ z. n (ap (λ m. m / e) z ∙ quotient count e l)))

pub same_quotient : (count e total : ℕ) → total / e ≡ count → eqb (total % e) 0 ≡ eqb total (count * e)
same_quotient count e total q = go (ℕ_discrete (total % e) 0)
  where
    parts : count * e + total % e ≡ total
    parts = ap (λ n. n * e + total % e) (sym q) ∙ div-add-mod' total e

    go : Dec (total % e ≡ 0) → eqb (total % e) 0 ≡ eqb total (count * e)
    go (yes z) = eq-eqb (total % e) 0 z ∙ sym (eq-eqb total (count * e) (omega (arith, parts)))
    go (no z) = ne_eqb (total % e) 0 z ∙ sym (ne_eqb total (count * e) (λ w. z (omega (arith, parts))))
