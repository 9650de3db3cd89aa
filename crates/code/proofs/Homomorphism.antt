-- A homomorphism carries all that polynomials are made of, and so the laws of one field's polynomials to another's.
use Prim.Native.Nat.{ℕ, zero, suc}
use mathlib.Core.Path.{◌≡◌, refl, sym, ap, ap₂, ◌∙◌}
use mathlib.Core.List.{List, [], ◌∷◌, map}
use lib.ListN.{length, get_or, length-map, get_or-map}
use Rattle.code.specs.Polynomial.{Operations, sum, power_in, value, carried, rooted, roots, divided, scaled, lagrange, interpolated}
use Rattle.code.proofs.Sums.{sum_cong}

-- h goes with the operations
pub record Homomorphism {F G : Type 0} (o : Operations F) (u : Operations G) (h : F → G) : Type 0 where
  pub nought : h o.nought ≡ u.nought
  pub unit : h o.unit ≡ u.unit
  pub add : (a b : F) → h (o.add a b) ≡ u.add (h a) (h b)
  pub mul : (a b : F) → h (o.mul a b) ≡ u.mul (h a) (h b)
  pub inverse : (a : F) → h (o.inverse a) ≡ u.inverse (h a)

module _ {F G : Type 0} (o : Operations F) (u : Operations G) (h : F → G) (K : Homomorphism o u h) where
  pub hom_sum : (n : ℕ) (f : ℕ → F) → h (sum o n f) ≡ sum u n (λ i. h (f i))
  unfolding sum
  hom_sum zero f = K.nought
  hom_sum (suc n) f = K.add (sum o n f) (f n) ∙ ap (λ x. u.add x (h (f n))) (hom_sum n f)

  pub hom_power : (x : F) (i : ℕ) → h (power_in o x i) ≡ power_in u (h x) i
  unfolding power_in
  hom_power x zero = K.unit
  hom_power x (suc i) = K.mul x (power_in o x i) ∙ ap (u.mul (h x)) (hom_power x i)

  pub hom_value : (p : List F) (x : F) → h (value o p x) ≡ value u (map h p) (h x)
  unfolding value
  hom_value [] x = K.nought
  hom_value (c ∷ p) x =
      K.add c (o.mul x (value o p x))
      ∙ ap (u.add (h c)) (K.mul x (value o p x) ∙ ap (u.mul (h x)) (hom_value p x))

  pub hom_carried : (s c : F) (p : List F) → map h (carried o s c p) ≡ carried u (h s) (h c) (map h p)
  unfolding carried
  hom_carried s c [] = refl
  hom_carried s c (d ∷ p) =
      ap₂ ◌∷◌ (K.add c (o.mul s d) ∙ ap (u.add (h c)) (K.mul s d)) (hom_carried s d p)

  pub hom_rooted : (p ss : List F) → map h (rooted o p ss) ≡ rooted u (map h p) (map h ss)
  unfolding rooted
  hom_rooted p [] = refl
  hom_rooted p (s ∷ ss) =
      hom_rooted (carried o s o.nought p) ss
      ∙ ap (λ q. rooted u q (map h ss))
      (hom_carried s o.nought p ∙ ap (λ c. carried u (h s) c (map h p)) K.nought)

  pub hom_roots : (ss : List F) → map h (roots o ss) ≡ roots u (map h ss)
  unfolding roots
  hom_roots ss = hom_rooted (o.unit ∷ []) ss ∙ ap (λ c. rooted u (c ∷ []) (map h ss)) K.unit

  pub hom_divided : (s : F) (p : List F) → map h (divided o s p) ≡ divided u (h s) (map h p)
  unfolding divided
  hom_divided s [] = refl
  hom_divided s (c ∷ []) = refl
  hom_divided s (c ∷ d ∷ p) = ap₂ ◌∷◌ (hom_value (d ∷ p) s) (hom_divided s (d ∷ p))

  pub hom_scaled : (a : F) (p : List F) → map h (scaled o a p) ≡ scaled u (h a) (map h p)
  unfolding scaled
  hom_scaled a [] = refl
  hom_scaled a (c ∷ p) = ap₂ ◌∷◌ (K.mul a c) (hom_scaled a p)

  pub hom_lagrange : (xs : List F) (s : F) → map h (lagrange o xs s) ≡ lagrange u (map h xs) (h s)
  unfolding lagrange
  hom_lagrange xs s =
      hom_scaled (o.inverse (value o q s)) q
      ∙ ap₂ (scaled u)
      (K.inverse (value o q s) ∙ ap u.inverse (hom_value q s ∙ ap (λ p. value u p (h s)) quotient))
      quotient
    where
      q : List F
      q = divided o s (roots o xs)

      quotient : map h q ≡ divided u (h s) (roots u (map h xs))
      quotient = hom_divided s (roots o xs) ∙ ap (divided u (h s)) (hom_roots xs)

  -- what stands at an index, 0 past the end
  pub hom_at : (p : List F) (i : ℕ) → h (get_or p i o.nought) ≡ get_or (map h p) i u.nought
  hom_at p i = sym (get_or-map h p i o.nought) ∙ ap (get_or (map h p) i) K.nought

  pub hom_interpolated : (xs : List F) (v : ℕ → F) (i : ℕ)
      → h (interpolated o xs v i) ≡ interpolated u (map h xs) (λ r. h (v r)) i
  unfolding interpolated
  hom_interpolated xs v i =
      hom_sum (length xs) (λ r. o.mul (c r) (v r))
      ∙ sum_cong u (length xs)
      (λ r. h (o.mul (c r) (v r)))
      (λ r. u.mul (d r) (h (v r)))
      (λ r l. K.mul (c r) (v r) ∙ ap (λ x. u.mul x (h (v r))) (same r))
      ∙ ap (λ n. sum u n (λ r. u.mul (d r) (h (v r)))) (sym (length-map xs h))
    where
      c : ℕ → F
      c r = get_or (lagrange o xs (get_or xs r o.nought)) i o.nought

      d : ℕ → G
      d r = get_or (lagrange u (map h xs) (get_or (map h xs) r u.nought)) i u.nought

      same : (r : ℕ) → h (c r) ≡ d r
      same r =
          hom_at (lagrange o xs (get_or xs r o.nought)) i
          ∙ ap (λ p. get_or p i u.nought)
          (hom_lagrange xs (get_or xs r o.nought) ∙ ap (lagrange u (map h xs)) (hom_at xs r))
