-- Sums over an index, in any field of characteristic two.
use Prim.Native.Nat.{ℕ, zero, suc, ◌<◌}
use mathlib.Core.Path.{◌≡◌, refl, sym, ap, ap₂, ◌∙◌}
use native.Mathlib.Omega.{arith}
use native.Mathlib.Decide.{ℕ_discrete}
use Rattle.code.specs.Polynomial.{Operations, sum}
use Rattle.code.proofs.Ring.{Laws, normal, zero-add, add-zero, mul-zero, mul_add, mul_comm, add_assoc}

pub sum_cong : {F : Type 0} (o : Operations F) (n : ℕ) (f g : ℕ → F) → ((i : ℕ) → i < n → f i ≡ g i) → sum o n f ≡ sum o n g
unfolding sum
sum_cong o zero f g h = refl
sum_cong o (suc n) f g h = ap₂ o.add (sum_cong o n f g (λ i l. h i (omega arith))) (h n (omega arith))

module _ {F : Type 0} (o : Operations F) (L : Laws o) where
  pub sum_front : (n : ℕ) (f : ℕ → F) → sum o (suc n) f ≡ o.add (f 0) (sum o n (λ i. f (suc i)))
  unfolding sum
  sum_front zero f = zero-add o L (f 0) ∙ sym (add-zero o L (f 0))
  sum_front (suc n) f =
      ap (λ x. o.add x (f (suc n))) (sum_front n f)
      ∙ add_assoc o L (f 0) (sum o n (λ i. f (suc i))) (f (suc n))

  pub sum_mul : (a : F) (n : ℕ) (f : ℕ → F) → o.mul a (sum o n f) ≡ sum o n (λ i. o.mul a (f i))
  unfolding sum
  sum_mul a zero f = mul-zero o L a
  sum_mul a (suc n) f = mul_add o L a (sum o n f) (f n) ∙ ap (λ x. o.add x (o.mul a (f n))) (sum_mul a n f)

  pub sum_mul_right : (n : ℕ) (f : ℕ → F) (a : F) → o.mul (sum o n f) a ≡ sum o n (λ i. o.mul (f i) a)
  sum_mul_right n f a =
      mul_comm o L (sum o n f) a ∙ sum_mul a n f
      ∙ sum_cong o n (λ i. o.mul a (f i)) (λ i. o.mul (f i) a) (λ i h. mul_comm o L a (f i))

  add_step : (a b c d : F) → o.add (o.add a b) (o.add c d) ≡ o.add (o.add a c) (o.add b d)
  add_step a b c d = simp (normal, L)

  pub sum_add : (n : ℕ) (f g : ℕ → F) → sum o n (λ i. o.add (f i) (g i)) ≡ o.add (sum o n f) (sum o n g)
  unfolding sum
  sum_add zero f g = sym (add-zero o L o.nought)
  sum_add (suc n) f g = ap (λ x. o.add x (o.add (f n) (g n))) (sum_add n f g)
      ∙ add_step (sum o n f) (sum o n g) (f n) (g n)

  pub sum_zero : (n : ℕ) (f : ℕ → F) → ((i : ℕ) → i < n → f i ≡ o.nought) → sum o n f ≡ o.nought
  unfolding sum
  sum_zero zero f h = refl
  sum_zero (suc n) f h = ap₂ o.add (sum_zero n f (λ i l. h i (omega arith))) (h n (omega arith)) ∙ add-zero o L o.nought

  only_step : (n : ℕ) (f : ℕ → F) (r : ℕ) → r < suc n → ((i : ℕ) → i < suc n → (i ≡ r → ⊥) → f i ≡ o.nought)
      → (r < n → ((i : ℕ) → i < n → (i ≡ r → ⊥) → f i ≡ o.nought) → sum o n f ≡ f r) → Dec (r ≡ n) → o.add (sum o n f) (f n) ≡ f r
  only_step n f r l h below (yes e) =
      ap₂ o.add (sum_zero n f (λ i m. h i (omega arith) (λ x. omega arith))) (ap f (sym e)) ∙ zero-add o L (f r)
  only_step n f r l h below (no d) =
      ap₂ o.add (below (omega arith) (λ i m. h i (omega arith))) (h n (omega arith) (λ x. d (sym x)))
      ∙ add-zero o L (f r)

  -- a sum of which one term alone is not 0 is that term
  pub sum_only : (n : ℕ) (f : ℕ → F) (r : ℕ) → r < n → ((i : ℕ) → i < n → (i ≡ r → ⊥) → f i ≡ o.nought) → sum o n f ≡ f r
  unfolding sum
  sum_only zero f r l h = absurd (omega arith)
  sum_only (suc n) f r l h = only_step n f r l h (λ m k. sum_only n f r m k) (ℕ_discrete r n)

  pub sum_swap : (n m : ℕ) (f : ℕ → ℕ → F)
      → sum o n (λ i. sum o m (λ j. f i j)) ≡ sum o m (λ j. sum o n (λ i. f i j))
  unfolding sum
  sum_swap zero m f = sym (sum_zero m (λ j. o.nought) (λ i l. refl))
  sum_swap (suc n) m f =
      ap (λ x. o.add x (sum o m (f n))) (sum_swap n m f)
      ∙ sym (sum_add m (λ j. sum o n (λ i. f i j)) (f n))
