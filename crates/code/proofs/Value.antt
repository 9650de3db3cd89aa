-- The value of a polynomial: Horner's rule gives the sum of coefficient times power.
use Prim.Native.Nat.{ℕ, zero, suc, ◌<◌}
use mathlib.Core.Path.{◌≡◌, refl, sym, ap, ap₂, ◌∙◌}
use mathlib.Core.List.{List, [], ◌∷◌}
use native.Mathlib.Omega.{arith}
use lib.ListN.{length, get_or, drop}
use Rattle.laws.specs.Bytes.{tabulate}
use Rattle.code.specs.Polynomial.{Operations, sum, power_in, value, scaled}
use Rattle.laws.proofs.Bytes.{length_tabulate, get_d_tabulate}
use Rattle.code.proofs.Ring.{Laws, normal, mul_one, mul-zero, mul_left_comm}
use Rattle.code.proofs.Sums.{sum_cong, sum_front, sum_mul}

-- one step of Horner's rule, from the top
pub value_drop : {F : Type 0} (o : Operations F) (p : List F) (i : ℕ) (x : F) → i < length p
    → value o (drop i p) x ≡ o.add (get_or p i o.nought) (o.mul x (value o (drop (suc i) p) x))
unfolding value
value_drop o [] i x h = absurd (omega arith)
value_drop o (c ∷ p) zero x h = refl
value_drop o (c ∷ p) (suc i) x h = value_drop o p i x (omega arith)

module _ {F : Type 0} (o : Operations F) (L : Laws o) where
  pub value_sum : (p : List F) (x : F) → value o p x ≡ sum o (length p) (λ i. o.mul (get_or p i o.nought) (power_in o x i))
  unfolding value power_in sum
  value_sum [] x = refl
  value_sum (c ∷ p) x =
      ap₂ o.add (sym (mul_one o L c))
      (ap (o.mul x) (value_sum p x)
      ∙ sum_mul o L x (length p) (λ i. o.mul (get_or p i o.nought) (power_in o x i))
      ∙ sum_cong o (length p)
      (λ i. o.mul x (o.mul (get_or p i o.nought) (power_in o x i)))
      (λ i. o.mul (get_or p i o.nought) (o.mul x (power_in o x i)))
      (λ i h. mul_left_comm o L x (get_or p i o.nought) (power_in o x i))
      )
      ∙ sym (sum_front o L (length p) (λ i. o.mul (get_or (c ∷ p) i o.nought) (power_in o x i)))

  pub value_tabulate : (n : ℕ) (f : ℕ → F) (x : F) → value o (tabulate n f) x ≡ sum o n (λ i. o.mul (f i) (power_in o x i))
  value_tabulate n f x =
      value_sum (tabulate n f) x
      ∙ ap (λ m. sum o m (λ i. o.mul (get_or (tabulate n f) i o.nought) (power_in o x i))) (length_tabulate n f)
      ∙ sum_cong o n
      (λ i. o.mul (get_or (tabulate n f) i o.nought) (power_in o x i))
      (λ i. o.mul (f i) (power_in o x i))
      (λ i h. ap (λ c. o.mul c (power_in o x i)) (get_d_tabulate n f i o.nought h))

  scaled_step : (a c x y : F) → o.add (o.mul a c) (o.mul x (o.mul a y)) ≡ o.mul a (o.add c (o.mul x y))
  scaled_step a c x y = simp (normal, L)

  pub value_scaled : (a : F) (p : List F) (x : F) → value o (scaled o a p) x ≡ o.mul a (value o p x)
  unfolding value scaled
  value_scaled a [] x = sym (mul-zero o L a)
  value_scaled a (c ∷ p) x =
      ap (λ y. o.add (o.mul a c) (o.mul x y)) (value_scaled a p x)
      ∙ scaled_step a c x (value o p x)
