-- Interpolation: Lagrange's polynomial of a point is 1 there and 0 at the others, so the polynomial of k coefficients with given
-- values at k distinct points is the sum of value times Lagrange's polynomial, and no other.
use Prim.Native.Nat.{ℕ, zero, suc, ◌+◌, ◌<◌, ◌≤◌}
use mathlib.Core.Path.{◌≡◌, refl, sym, ap, ◌∙◌}
use mathlib.Core.List.{List, [], ◌∷◌}
use native.Mathlib.Omega.{arith}
use native.Mathlib.Nat.{add-zero as plus-zero}
use native.Mathlib.Decide.{ℕ_discrete, dec_lt}
use lib.ListN.{length, get_or, length-map}
use Rattle.laws.specs.Bytes.{tabulate}
use Rattle.code.specs.Polynomial.{Operations, sum, power_in, value, carried, rooted, roots, divided, scaled, lagrange, interpolated}
use Rattle.laws.proofs.Bytes.{length_tabulate}
use Rattle.code.proofs.Ring.{Laws, normal, add-zero, mul-zero, mul_one, zero-mul, mul_comm, zero-add, add_self}
use Rattle.code.proofs.Sums.{sum_cong, sum_mul, sum_mul_right, sum_swap, sum_only}
use Rattle.code.proofs.Value.{value_tabulate, value_scaled, value_sum}
use Rattle.code.proofs.Factor.{length_divided}
use Rattle.code.proofs.Roots.{Distinct, quotient_vanishes, root_bound, unique}

-- the coefficient of the highest power, or d where there is none
unfoldable pub leading : {F : Type 0} → F → List F → F
leading d [] = d
leading d (c ∷ p) = leading c p

pub divided_length : {F : Type 0} (o : Operations F) (s : F) (p : List F) (n : ℕ) → length p ≡ suc n → length (divided o s p) ≡ n
divided_length o s [] n e = absurd (omega arith)
divided_length o s (c ∷ p) n e = length_divided o s c p ∙ omega arith

pub length_carried : {F : Type 0} (o : Operations F) (s c : F) (p : List F) → length (carried o s c p) ≡ suc (length p)
unfolding carried
length_carried o s c [] = refl
length_carried o s c (d ∷ p) = ap suc (length_carried o s d p)

pub length_rooted : {F : Type 0} (o : Operations F) (p ss : List F) → length (rooted o p ss) ≡ length p + length ss
unfolding rooted
length_rooted o p [] = sym (plus-zero (length p))
length_rooted o p (s ∷ ss) =
    length_rooted o (carried o s o.nought p) ss
    ∙ ap (λ n. n + length ss) (length_carried o s o.nought p)
    ∙ omega arith

leading_carried : {F : Type 0} (o : Operations F) (s c e : F) (p : List F) → leading e (carried o s c p) ≡ leading c p
unfolding carried leading
leading_carried o s c e [] = refl
leading_carried o s c e (d ∷ p) = leading_carried o s d (o.add c (o.mul s d)) p

leading_rooted : {F : Type 0} (o : Operations F) (p ss : List F) → leading o.nought (rooted o p ss) ≡ leading o.nought p
unfolding rooted
leading_rooted o p [] = refl
leading_rooted o p (s ∷ ss) =
    leading_rooted o (carried o s o.nought p) ss ∙ leading_carried o s o.nought o.nought p

leading_zero : {F : Type 0} (z d : F) (p : List F) → d ≡ z → ((i : ℕ) → i < length p → get_or p i z ≡ z) → leading d p ≡ z
unfolding leading
leading_zero z d [] e h = e
leading_zero z d (c ∷ p) e h = leading_zero z c p (h 0 (omega arith)) (λ i l. h (suc i) (omega arith))

pub interpolated_cong : {F : Type 0} (o : Operations F) (xs : List F) (v w : ℕ → F) → ((r : ℕ) → r < length xs → v r ≡ w r)
    → (i : ℕ) → interpolated o xs v i ≡ interpolated o xs w i
unfolding interpolated
interpolated_cong {F} o xs v w h i =
    sum_cong o (length xs) (λ r. o.mul (c r) (v r)) (λ r. o.mul (c r) (w r)) (λ r l. ap (o.mul (c r)) (h r l))
  where
    c : ℕ → F
    c r = get_or (lagrange o xs (get_or xs r o.nought)) i o.nought

module _ {F : Type 0} (o : Operations F) (L : Laws o) where
  leading_quotient : (c s : F) (p : List F) → leading (value o (c ∷ p) s) (divided o s (c ∷ p)) ≡ leading c p
  unfolding value divided leading
  leading_quotient c s [] = ap (o.add c) (mul-zero o L s) ∙ add-zero o L c
  leading_quotient c s (d ∷ p) = leading_quotient d s p

  leading_divided : (s : F) (p : List F) → 2 ≤ length p → leading o.nought (divided o s p) ≡ leading o.nought p
  unfolding divided leading
  leading_divided s [] h = absurd (omega arith)
  leading_divided s (c ∷ []) h = absurd (omega arith)
  leading_divided s (c ∷ d ∷ p) h = leading_quotient d s p

  carried_step : (s c d x v : F) → o.add (o.add c (o.mul s d)) (o.mul x (o.add d (o.mul (o.add x s) v)))
      ≡ o.add c (o.mul (o.add x s) (o.add d (o.mul x v)))
  carried_step s c d x v = simp (normal, L)

  carried_last : (s c x : F) → o.add c (o.mul x o.nought) ≡ o.add c (o.mul (o.add x s) o.nought)
  carried_last s c x = simp (normal, L)

  pub value_carried : (s c : F) (p : List F) (x : F) → value o (carried o s c p) x ≡ o.add c (o.mul (o.add x s) (value o p x))
  unfolding value carried
  value_carried s c [] x = carried_last s c x
  value_carried s c (d ∷ p) x =
      ap (λ y. o.add (o.add c (o.mul s d)) (o.mul x y)) (value_carried s d p x) ∙ carried_step s c d x (value o p x)

  root_carried : (s : F) (p : List F) → value o (carried o s o.nought p) s ≡ o.nought
  root_carried s p =
      value_carried s o.nought p s
      ∙ ap (λ y. o.add o.nought (o.mul y (value o p s))) (add_self o L s)
      ∙ zero-add o L (o.mul o.nought (value o p s))
      ∙ zero-mul o L (value o p s)

  stays_carried : (s : F) (p : List F) (x : F) → value o p x ≡ o.nought → value o (carried o s o.nought p) x ≡ o.nought
  stays_carried s p x e =
      value_carried s o.nought p x
      ∙ zero-add o L (o.mul (o.add x s) (value o p x))
      ∙ ap (o.mul (o.add x s)) e
      ∙ mul-zero o L (o.add x s)

  stays_rooted : (p ss : List F) (x : F) → value o p x ≡ o.nought → value o (rooted o p ss) x ≡ o.nought
  unfolding rooted
  stays_rooted p [] x e = e
  stays_rooted p (s ∷ ss) x e = stays_rooted (carried o s o.nought p) ss x (stays_carried s p x e)

  root_rooted : (p ss : List F) (i : ℕ) → i < length ss → value o (rooted o p ss) (get_or ss i o.nought) ≡ o.nought
  unfolding rooted
  root_rooted p [] i h = absurd (omega arith)
  root_rooted p (s ∷ ss) zero h = stays_rooted (carried o s o.nought p) ss s (root_carried s p)
  root_rooted p (s ∷ ss) (suc i) h = root_rooted (carried o s o.nought p) ss i (omega arith)

  pub length_roots : (ss : List F) → length (roots o ss) ≡ suc (length ss)
  unfolding roots
  length_roots ss = length_rooted o (o.unit ∷ []) ss ∙ omega arith

  leading_roots : (ss : List F) → leading o.nought (roots o ss) ≡ o.unit
  unfolding roots leading
  leading_roots ss = leading_rooted o (o.unit ∷ []) ss

  pub length_lagrange : (xs : List F) (s : F) → length (lagrange o xs s) ≡ length xs
  unfolding lagrange scaled
  length_lagrange xs s =
      length-map (divided o s (roots o xs)) (o.mul (o.inverse (value o (divided o s (roots o xs)) s)))
      ∙ divided_length o s (roots o xs) (length xs) (length_roots xs)

  swapped : (a b c : F) → o.mul (o.mul a b) c ≡ o.mul b (o.mul a c)
  swapped a b c = simp (normal, L)

  module _ (xs : List F) (n : Distinct o.nought xs) where
    apart : (i j : ℕ) → i < length xs → j < length xs → (i ≡ j → ⊥) → get_or xs i o.nought ≡ get_or xs j o.nought → ⊥
    apart i j hi hj d e = go (dec_lt i j)
      where
        go : Dec (i < j) → ⊥
        go (yes l) = n i j l hj e
        go (no l) = n j i (omega arith) hi (sym e)

    -- the quotient by (x + s) is 0 at every other point
    other : (r t : ℕ) → r < length xs → t < length xs → (t ≡ r → ⊥)
        → value o (divided o (get_or xs r o.nought) (roots o xs)) (get_or xs t o.nought) ≡ o.nought
    unfolding roots
    other r t hr ht d =
        quotient_vanishes o L (roots o xs) (get_or xs r o.nought) (get_or xs t o.nought)
        (root_rooted (o.unit ∷ []) xs r hr) (root_rooted (o.unit ∷ []) xs t ht) (apart t r ht hr d)

    -- and not at s: its leading coefficient is 1, so it has fewer roots than there are points
    own : (r : ℕ) → r < length xs → value o (divided o (get_or xs r o.nought) (roots o xs)) (get_or xs r o.nought) ≡ o.nought → ⊥
    own r hr e = L.one_ne_zero
        (sym (leading_roots xs)
        ∙ sym (leading_divided s (roots o xs) (rw length_roots (omega arith)))
        ∙ leading_zero o.nought o.nought q refl (root_bound o L xs q (rw size (omega arith)) n all))
      where
        s : F
        s = get_or xs r o.nought

        q : List F
        q = divided o s (roots o xs)

        size : length q ≡ length xs
        size = divided_length o s (roots o xs) (length xs) (length_roots xs)

        at : (t : ℕ) → t < length xs → Dec (t ≡ r) → value o q (get_or xs t o.nought) ≡ o.nought
        at t l (yes z) = ap (λ i. value o q (get_or xs i o.nought)) z ∙ e
        at t l (no z) = other r t hr l z

        all : (t : ℕ) → t < length xs → value o q (get_or xs t o.nought) ≡ o.nought
        all t l = at t l (ℕ_discrete t r)

    pub lagrange_own : (r : ℕ) → r < length xs
        → value o (lagrange o xs (get_or xs r o.nought)) (get_or xs r o.nought) ≡ o.unit
    unfolding lagrange
    lagrange_own r hr =
        value_scaled o L (o.inverse v) q s ∙ mul_comm o L (o.inverse v) v ∙ L.mul_inv v (own r hr)
      where
        s : F
        s = get_or xs r o.nought

        q : List F
        q = divided o s (roots o xs)

        v : F
        v = value o q s

    pub lagrange_other : (r t : ℕ) → r < length xs → t < length xs → (t ≡ r → ⊥)
        → value o (lagrange o xs (get_or xs r o.nought)) (get_or xs t o.nought) ≡ o.nought
    unfolding lagrange
    lagrange_other r t hr ht d =
        value_scaled o L (o.inverse (value o q s)) q (get_or xs t o.nought)
        ∙ ap (o.mul (o.inverse (value o q s))) (other r t hr ht d)
        ∙ mul-zero o L (o.inverse (value o q s))
      where
        s : F
        s = get_or xs r o.nought

        q : List F
        q = divided o s (roots o xs)

    -- value times Lagrange's polynomial, at x, summed power by power
    term : (v : ℕ → F) (x : F) (r : ℕ)
        → sum o (length xs) (λ i. o.mul (o.mul (get_or (lagrange o xs (get_or xs r o.nought)) i o.nought) (v r)) (power_in o x i))
        ≡ o.mul (v r) (value o (lagrange o xs (get_or xs r o.nought)) x)
    term v x r =
        sum_cong o (length xs)
        (λ i. o.mul (o.mul (c i) (v r)) (power_in o x i))
        (λ i. o.mul (v r) (o.mul (c i) (power_in o x i)))
        (λ i h. swapped (c i) (v r) (power_in o x i))
        ∙ sym (sum_mul o L (v r) (length xs) (λ i. o.mul (c i) (power_in o x i)))
        ∙ ap (λ n. o.mul (v r) (sum o n (λ i. o.mul (c i) (power_in o x i)))) (sym (length_lagrange xs (get_or xs r o.nought)))
        ∙ ap (o.mul (v r)) (sym (value_sum o L (lagrange o xs (get_or xs r o.nought)) x))
      where
        c : ℕ → F
        c i = get_or (lagrange o xs (get_or xs r o.nought)) i o.nought

    -- the value of the interpolated polynomial anywhere
    pub interpolated_anywhere : (v : ℕ → F) (x : F)
        → value o (tabulate (length xs) (interpolated o xs v)) x
        ≡ sum o (length xs) (λ r. o.mul (v r) (value o (lagrange o xs (get_or xs r o.nought)) x))
    unfolding interpolated
    interpolated_anywhere v x =
        value_tabulate o L (length xs) (interpolated o xs v) x
        ∙ sum_cong o (length xs)
        (λ i. o.mul (interpolated o xs v i) (power_in o x i))
        (λ i. sum o (length xs) (λ r. o.mul (o.mul (c r i) (v r)) (power_in o x i)))
        (λ i h. sum_mul_right o L (length xs) (λ r. o.mul (c r i) (v r)) (power_in o x i))
        ∙ sum_swap o L (length xs) (length xs) (λ i r. o.mul (o.mul (c r i) (v r)) (power_in o x i))
        ∙ sum_cong o (length xs)
        (λ r. sum o (length xs) (λ i. o.mul (o.mul (c r i) (v r)) (power_in o x i)))
        (λ r. o.mul (v r) (value o (lagrange o xs (get_or xs r o.nought)) x))
        (λ r h. term v x r)
      where
        c : ℕ → ℕ → F
        c r i = get_or (lagrange o xs (get_or xs r o.nought)) i o.nought

    -- at the points it has the given values
    pub interpolated_value : (v : ℕ → F) (t : ℕ) → t < length xs
        → value o (tabulate (length xs) (interpolated o xs v)) (get_or xs t o.nought) ≡ v t
    interpolated_value v t h =
        interpolated_anywhere v (get_or xs t o.nought)
        ∙ sum_only o L (length xs)
        (λ r. o.mul (v r) (value o (lagrange o xs (get_or xs r o.nought)) (get_or xs t o.nought))) t h
        (λ r l d. ap (o.mul (v r)) (lagrange_other r t l h (λ e. d (sym e))) ∙ mul-zero o L (v r))
        ∙ ap (o.mul (v t)) (lagrange_own t h)
        ∙ mul_one o L (v t)

    -- a polynomial of as many coefficients is interpolated from its values
    pub interpolated_back : (p : List F) → length p ≡ length xs
        → tabulate (length xs) (interpolated o xs (λ r. value o p (get_or xs r o.nought))) ≡ p
    interpolated_back p e =
        unique o L xs (tabulate (length xs) (interpolated o xs v)) p (length_tabulate (length xs) (interpolated o xs v) ∙ sym e)
        (rw length_tabulate (omega arith)) n (λ i h. interpolated_value v i h)
      where
        v : ℕ → F
        v r = value o p (get_or xs r o.nought)
