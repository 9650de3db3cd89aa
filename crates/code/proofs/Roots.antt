-- The root bound: a polynomial of k coefficients that is 0 at k distinct points has all coefficients 0. So two polynomials of
-- k coefficients that agree at k distinct points are one.
use Prim.Native.Nat.{ℕ, zero, suc, ◌<◌, ◌≤◌}
use mathlib.Core.Path.{◌≡◌, refl, sym, ap, ap₂, ◌∙◌}
use mathlib.Core.List.{List, [], ◌∷◌}
use native.Mathlib.Omega.{arith}
use native.Mathlib.Decide.{dec_lt}
use lib.ListN.{length, get_or, drop, drop_of_length-le}
use lib.Seq.{ext_get_or}
use Rattle.code.specs.Polynomial.{Operations, value, divided}
use Rattle.code.proofs.Ring.{Laws, normal, same, no_divisor, not_zero, zero-add, add_self, mul-zero}
use Rattle.code.proofs.Value.{value_drop}
use Rattle.code.proofs.Factor.{factor, length_divided, divided_at}

-- no two of the points are one
abbrev pub Distinct : {F : Type 0} → F → List F → Type 0
Distinct d xs = (i j : ℕ) → i < j → j < length xs → get_or xs i d ≡ get_or xs j d → ⊥

-- the polynomial is 0 at each of the points
abbrev pub Vanishes : {F : Type 0} → Operations F → List F → List F → Type 0
Vanishes o p xs = (i : ℕ) → i < length xs → value o p (get_or xs i o.nought) ≡ o.nought

-- the sums of the coefficients of each power
unfoldable pub summed : {F : Type 0} → Operations F → List F → List F → List F
summed o [] q = []
summed o (c ∷ p) [] = []
summed o (c ∷ p) (d ∷ q) = o.add c d ∷ summed o p q

pub length_summed : {F : Type 0} (o : Operations F) (p q : List F) → length p ≡ length q → length (summed o p q) ≡ length p
unfolding summed
length_summed o [] q e = refl
length_summed o (c ∷ p) [] e = absurd (omega arith)
length_summed o (c ∷ p) (d ∷ q) e = ap suc (length_summed o p q (omega arith))

pub summed_at : {F : Type 0} (o : Operations F) (p q : List F) → length p ≡ length q → (i : ℕ) → i < length p
    → get_or (summed o p q) i o.nought ≡ o.add (get_or p i o.nought) (get_or q i o.nought)
unfolding summed
summed_at o [] q e i h = absurd (omega arith)
summed_at o (c ∷ p) [] e i h = absurd (omega arith)
summed_at o (c ∷ p) (d ∷ q) e zero h = refl
summed_at o (c ∷ p) (d ∷ q) e (suc i) h = summed_at o p q (omega arith) i (omega arith)

module _ {F : Type 0} (o : Operations F) (L : Laws o) where
  summed_step : (c d x v w : F) → o.add (o.add c d) (o.mul x (o.add v w)) ≡ o.add (o.add c (o.mul x v)) (o.add d (o.mul x w))
  summed_step c d x v w = simp (normal, L)

  -- where Horner's rule gives 0 at every step, every coefficient is 0
  zero_steps : (p : List F) (x : F) → ((i : ℕ) → i ≤ length p → value o (drop i p) x ≡ o.nought)
      → (i : ℕ) → i < length p → get_or p i o.nought ≡ o.nought
  zero_steps p x h i l =
      same o L (get_or p i o.nought) o.nought
      (ap₂ o.add refl (sym (ap (o.mul x) (h (suc i) (omega arith)) ∙ mul-zero o L x))
      ∙ sym (value_drop o p i x l) ∙ h i (omega arith))

  -- a root s of p is no root of the quotient's value elsewhere but where it is p's
  pub quotient_vanishes : (p : List F) (s x : F) → value o p s ≡ o.nought → value o p x ≡ o.nought → (x ≡ s → ⊥)
      → value o (divided o s p) x ≡ o.nought
  quotient_vanishes p s x hs hx n =
      no_divisor o L (o.add x s) (value o (divided o s p) x) (not_zero o L x s n)
      (sym (zero-add o L (o.mul (o.add x s) (value o (divided o s p) x)))
      ∙ ap (λ v. o.add v (o.mul (o.add x s) (value o (divided o s p) x))) (sym hs)
      ∙ sym (factor o L p s x) ∙ hx)

  steps : (c : F) (p : List F) (s : F) → value o (c ∷ p) s ≡ o.nought
      → ((i : ℕ) → i < length (divided o s (c ∷ p)) → get_or (divided o s (c ∷ p)) i o.nought ≡ o.nought)
      → (i : ℕ) → i ≤ length (c ∷ p) → value o (drop i (c ∷ p)) s ≡ o.nought
  unfolding value
  steps c p s hs h zero l = hs
  steps c p s hs h (suc i) l = go (dec_lt i (length p))
    where
      go : Dec (i < length p) → value o (drop i p) s ≡ o.nought
      go (yes m) = sym (divided_at o s (c ∷ p) i (omega arith)) ∙ h i (rw length_divided m)
      go (no m) = ap (λ q. value o q s) (drop_of_length-le p {i = i} (omega arith))

  pub root_bound : (xs p : List F) → length p ≤ length xs → Distinct o.nought xs → Vanishes o p xs
      → (i : ℕ) → i < length p → get_or p i o.nought ≡ o.nought
  root_bound [] [] l n h i m = absurd (omega arith)
  root_bound [] (c ∷ p) l n h i m = absurd (omega arith)
  root_bound (x ∷ xs) [] l n h i m = absurd (omega arith)
  root_bound (x ∷ xs) (c ∷ p) l n h i m =
      zero_steps (c ∷ p) x
      (steps c p x (h 0 (omega arith))
      (root_bound xs (divided o x (c ∷ p)) (rw length_divided (omega arith)) (λ a b e f. n (suc a) (suc b) (omega arith) (omega arith))
      (λ j e. quotient_vanishes (c ∷ p) x (get_or xs j o.nought) (h 0 (omega arith)) (h (suc j) (omega arith))
      (λ z. n 0 (suc j) (omega arith) (omega arith) (sym z)))))
      i m

  value_summed : (p q : List F) → length p ≡ length q → (x : F) → value o (summed o p q) x ≡ o.add (value o p x) (value o q x)
  unfolding value summed
  value_summed [] [] e x = sym (zero-add o L o.nought)
  value_summed [] (d ∷ q) e x = absurd (omega arith)
  value_summed (c ∷ p) [] e x = absurd (omega arith)
  value_summed (c ∷ p) (d ∷ q) e x =
      ap (λ y. o.add (o.add c d) (o.mul x y)) (value_summed p q (omega arith) x)
      ∙ summed_step c d x (value o p x) (value o q x)

  -- two polynomials of k coefficients that agree at k distinct points are one
  pub unique : (xs p q : List F) → length p ≡ length q → length p ≤ length xs → Distinct o.nought xs
      → ((i : ℕ) → i < length xs → value o p (get_or xs i o.nought) ≡ value o q (get_or xs i o.nought)) → p ≡ q
  unique xs p q e l n h = ext_get_or o.nought p q e (λ i m.
      same o L (get_or p i o.nought) (get_or q i o.nought)
      (sym (summed_at o p q e i m)
      ∙ root_bound xs (summed o p q) (rw (length_summed o p q e) l) n
      (λ j f. value_summed p q e (get_or xs j o.nought)
      ∙ ap (λ v. o.add v (value o q (get_or xs j o.nought))) (h j f)
      ∙ add_self o L (value o q (get_or xs j o.nought)))
      i (rw (length_summed o p q e) m)))
