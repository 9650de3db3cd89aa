-- The factor theorem, by synthetic division: a polynomial is its value at s plus (x + s) times its quotient by (x + s).
use Prim.Native.Nat.{ℕ, zero, suc, ◌<◌}
use mathlib.Core.Path.{◌≡◌, refl, ap, ◌∙◌}
use mathlib.Core.List.{List, [], ◌∷◌}
use native.Mathlib.Omega.{arith}
use lib.ListN.{length, get_or, drop}
use Rattle.code.specs.Polynomial.{Operations, value, divided}
use Rattle.code.proofs.Ring.{Laws, normal}

pub length_divided : {F : Type 0} (o : Operations F) (s c : F) (p : List F) → length (divided o s (c ∷ p)) ≡ length p
unfolding divided
length_divided o s c [] = refl
length_divided o s c (d ∷ p) = ap suc (length_divided o s d p)

-- the quotient's coefficients are the values of Horner's rule on the way
pub divided_at : {F : Type 0} (o : Operations F) (s : F) (p : List F) (i : ℕ) → suc i < length p
    → get_or (divided o s p) i o.nought ≡ value o (drop (suc i) p) s
unfolding divided
divided_at o s [] i h = absurd (omega arith)
divided_at o s (c ∷ []) i h = absurd (omega arith)
divided_at o s (c ∷ d ∷ p) zero h = refl
divided_at o s (c ∷ d ∷ p) (suc i) h = divided_at o s (d ∷ p) i (omega arith)

module _ {F : Type 0} (o : Operations F) (L : Laws o) where
  constant : (c s x : F) → o.add c (o.mul x o.nought)
      ≡ o.add (o.add c (o.mul s o.nought)) (o.mul (o.add x s) o.nought)
  constant c s x = simp (normal, L)

  step : (c s x v q : F) → o.add c (o.mul x (o.add v (o.mul (o.add x s) q)))
      ≡ o.add (o.add c (o.mul s v)) (o.mul (o.add x s) (o.add v (o.mul x q)))
  step c s x v q = simp (normal, L)

  zeros : (s x : F) → o.nought ≡ o.add o.nought (o.mul (o.add x s) o.nought)
  zeros s x = simp (normal, L)

  pub factor : (p : List F) (s x : F)
      → value o p x ≡ o.add (value o p s) (o.mul (o.add x s) (value o (divided o s p) x))
  unfolding value divided
  factor [] s x = zeros s x
  factor (c ∷ []) s x = constant c s x
  factor (c ∷ d ∷ p) s x =
      ap (λ y. o.add c (o.mul x y)) (factor (d ∷ p) s x)
      ∙ step c s x (value o (d ∷ p) s) (value o (divided o s (d ∷ p)) x)
