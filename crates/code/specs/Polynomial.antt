-- Polynomials over any field: a list of coefficients, that of power 0 first. The definitions ask for the operations alone, so
-- that they are read at numbers and proved at whatever has the laws of a field. In characteristic two x + s is x - s.
use Rattle.std.specs.Prelude.{ℕ, zero, suc, List, [], ◌∷◌, map, length, get_or}

pub record Operations (F : Type 0) : Type 0 where
  pub nought : F
  pub unit : F
  pub add : F → F → F
  pub mul : F → F → F
  pub inverse : F → F

module _ {F : Type 0} (o : Operations F) where
  -- the sum of f i over i from 0 to n - 1
  unfoldable pub sum : ℕ → (ℕ → F) → F
  sum zero f = o.nought
  sum (suc n) f = o.add (sum n f) (f n)

  -- x to the power i; power 0 is 1
  unfoldable pub power_in : F → ℕ → F
  power_in x zero = o.unit
  power_in x (suc i) = o.mul x (power_in x i)

  -- the value of a polynomial at x, by Horner's rule
  unfoldable pub value : List F → F → F
  value [] x = o.nought
  value (c ∷ p) x = o.add c (o.mul x (value p x))

  -- c + (x + s) p, with c the coefficient of the power below p's
  unfoldable pub carried : F → F → List F → List F
  carried s c [] = c ∷ []
  carried s c (d ∷ p) = o.add c (o.mul s d) ∷ carried s d p

  -- p times (x + s) for each s
  unfoldable pub rooted : List F → List F → List F
  rooted p [] = p
  rooted p (s ∷ ss) = rooted (carried s o.nought p) ss

  -- the product of (x + s) over all s
  unfoldable pub roots : List F → List F
  roots ss = rooted (o.unit ∷ []) ss

  -- p divided by (x + s), the remainder left out: synthetic division
  unfoldable pub divided : F → List F → List F
  divided s [] = []
  divided s (c ∷ []) = []
  divided s (c ∷ d ∷ p) = value (d ∷ p) s ∷ divided s (d ∷ p)

  -- a times p
  unfoldable pub scaled : F → List F → List F
  scaled a p = map (o.mul a) p

  -- Lagrange's polynomial of s among the points: 1 at s, 0 at the others
  unfoldable pub lagrange : List F → F → List F
  lagrange points s = scaled (o.inverse (value (divided s (roots points)) s)) (divided s (roots points))

  -- coefficient i of the polynomial that has the value v r at point r, for each r
  unfoldable pub interpolated : List F → (ℕ → F) → ℕ → F
  interpolated points v i =
      sum (length points) (λ r. o.mul (get_or (lagrange points (get_or points r o.nought)) i o.nought) (v r))
