-- Places put into order by a rank, and by the places themselves where the rank is the same: each stands once, and in order.
use Prim.Native.Nat.{ℕ, zero, suc, ◌≤◌, ◌<◌}
use mathlib.Core.Path.{◌≡◌, refl, sym, ◌∙◌, subst}
use mathlib.Core.Bool.{Bool, true, cond, false≢true}
use mathlib.Core.Logic.{◌⊎◌, inl, inr, ⊎_elim, ⊎_map}
use mathlib.Core.List.Memᴰ
use mathlib.Core.List.{List, [], ◌∷◌, Memᴰ}
use lib.Dec.{leb}
use borrow.Author.Tests.{leb-true, leb-false}
use native.Mathlib.Omega.{arith}
use Rattle.protocol.specs.Board.{Once, StandsFirst}
use Rattle.protocol.proofs.Basics.{cond_elim, either}

module _ (rank : ℕ → ℕ) where
  -- x is to stand before y
  abbrev pub Precedes : ℕ → ℕ → Type 0
  Precedes x y = (rank x < rank y) ⊎ ((rank x ≡ rank y) × (x < y))

  unfoldable pub Sorted : List ℕ → Type 0
  Sorted [] = Unit {0}
  Sorted (x ∷ xs) = ((y : ℕ) → Memᴰ y xs → Precedes x y) × Sorted xs

  -- p goes behind all of its rank or below
  unfoldable pub insert : ℕ → List ℕ → List ℕ
  insert p [] = p ∷ []
  insert p (x ∷ xs) = cond (leb (rank x) (rank p)) (x ∷ insert p xs) (p ∷ x ∷ xs)

  insert_mem : (p y : ℕ) (xs : List ℕ) → Memᴰ y (insert p xs) → (y ≡ p) ⊎ Memᴰ y xs
  unfolding insert
  insert_mem p y [] i = Memᴰ.cases_cons i
  insert_mem p y (x ∷ xs) i =
      cond_elim (λ (l : List ℕ). Memᴰ y l → (y ≡ p) ⊎ Memᴰ y (x ∷ xs)) (leb (rank x) (rank p)) (x ∷ insert p xs) (p ∷ x ∷ xs)
      (λ e j. ⊎_elim (λ h. inr (Memᴰ.head h)) (λ h. ⊎_map (λ l. l) Memᴰ.tail (insert_mem p y xs h)) (Memᴰ.cases_cons j))
      (λ e j. Memᴰ.cases_cons j)
      i

  insert_new : (p : ℕ) (xs : List ℕ) → Memᴰ p (insert p xs)
  unfolding insert
  insert_new p [] = Memᴰ.head refl
  insert_new p (x ∷ xs) =
      cond_elim (λ (l : List ℕ). Memᴰ p l) (leb (rank x) (rank p)) (x ∷ insert p xs) (p ∷ x ∷ xs) (λ e. Memᴰ.tail (insert_new p xs)) (λ e. Memᴰ.head refl)

  insert_old : (p y : ℕ) (xs : List ℕ) → Memᴰ y xs → Memᴰ y (insert p xs)
  unfolding insert
  insert_old p y [] i = absurd (Memᴰ.not-nil i)
  insert_old p y (x ∷ xs) i =
      cond_elim (λ (l : List ℕ). Memᴰ y l) (leb (rank x) (rank p)) (x ∷ insert p xs) (p ∷ x ∷ xs)
      (λ e. ⊎_elim Memᴰ.head (λ j. Memᴰ.tail (insert_old p y xs j)) (Memᴰ.cases_cons i))
      (λ e. Memᴰ.tail i)

  rank_below : (x y : ℕ) → Precedes x y → rank x ≤ rank y
  rank_below x y (inl h) = omega arith
  rank_below x y (inr h) = omega arith

  insert_sorted : (p : ℕ) (xs : List ℕ) → ((y : ℕ) → Memᴰ y xs → y < p) → Sorted xs → Sorted (insert p xs)
  unfolding insert Sorted
  insert_sorted p [] low a = (λ y i. absurd (Memᴰ.not-nil i), tt)
  insert_sorted p (x ∷ xs) low a =
      cond_elim Sorted (leb (rank x) (rank p)) (x ∷ insert p xs) (p ∷ x ∷ xs)
      (λ e. (λ y i. ⊎_elim (behind e y) (a.0 y) (insert_mem p y xs i), insert_sorted p xs (λ y i. low y (Memᴰ.tail i)) a.1))
      (λ e. (λ y i. ⊎_elim (λ h. inl (subst (λ (z : ℕ). rank p < rank z) (sym h) (leb-false (rank x) (rank p) e))) (λ h. inl (omega (arith, leb-false (rank x) (rank p) e, rank_below x y (a.0 y h)))) (Memᴰ.cases_cons i), a))
    where
      -- x has p's rank or a lower one, and is the smaller place
      equal_or_below : (n m : ℕ) → n ≤ m → (n < m) ⊎ (n ≡ m)
      equal_or_below n m h = ⊎_elim (λ e. inr (omega (arith, leb-true m n e))) (λ e. inl (leb-false m n e)) (either (leb m n))

      behind : leb (rank x) (rank p) ≡ true → (y : ℕ) → y ≡ p → Precedes x y
      behind e y h =
          subst (Precedes x) (sym h)
          (⊎_map (λ l. l) (λ l. (l, low x (Memᴰ.head refl))) (equal_or_below (rank x) (rank p) (leb-true (rank x) (rank p) e)))

  pub precedes_irreflexive : (x : ℕ) → Precedes x x → ⊥
  precedes_irreflexive x (inl h) = omega arith
  precedes_irreflexive x (inr h) = omega arith

  pub precedes_asymmetric : (x y : ℕ) → Precedes x y → Precedes y x → ⊥
  precedes_asymmetric x y (inl h) (inl i) = omega arith
  precedes_asymmetric x y (inl h) (inr i) = omega arith
  precedes_asymmetric x y (inr h) (inl i) = omega arith
  precedes_asymmetric x y (inr h) (inr i) = omega arith

  pub sorted_once : (xs : List ℕ) → Sorted xs → Once xs
  unfolding Sorted Once
  sorted_once [] a = tt
  sorted_once (x ∷ xs) a = (λ i. precedes_irreflexive x (a.0 x i), sorted_once xs a.1)

  -- of two in it, the one that precedes stands first
  pub sorted_first : (xs : List ℕ) → Sorted xs → (p r : ℕ) → Memᴰ p xs → Memᴰ r xs → Precedes p r → StandsFirst p r xs
  unfolding Sorted StandsFirst
  sorted_first [] a p r i j h = absurd (Memᴰ.not-nil i)
  sorted_first (x ∷ xs) a p r i j h =
      ⊎_elim
      (λ e. ⊎_elim (λ f. absurd (precedes_irreflexive x (subst (Precedes x) f (subst (λ (z : ℕ). Precedes z r) e h)))) (λ f. inl (e, f)) (Memᴰ.cases_cons j))
      (λ e. ⊎_elim (λ f. absurd (precedes_asymmetric p x (subst (Precedes p) f h) (a.0 p e))) (λ f. inr (sorted_first xs a.1 p r e f h)) (Memᴰ.cases_cons j))
      (Memᴰ.cases_cons i)

  -- and what stands first precedes
  pub first_precedes : (xs : List ℕ) → Sorted xs → (p r : ℕ) → StandsFirst p r xs → Precedes p r
  unfolding Sorted StandsFirst
  first_precedes [] a p r h = absurd h
  first_precedes (x ∷ xs) a p r (inl h) = subst (λ (z : ℕ). Precedes z r) (sym h.0) (a.0 r h.1)
  first_precedes (x ∷ xs) a p r (inr h) = first_precedes xs a.1 p r h

  -- the places below n that are listed
  module _ (listed : ℕ → Bool) where
    unfoldable pub arranged : ℕ → List ℕ
    arranged zero = []
    arranged (suc n) = cond (listed n) (insert n (arranged n)) (arranged n)

    pub arranged_mem : (n y : ℕ) → Memᴰ y (arranged n) → (y < n) × (listed y ≡ true)
    unfolding arranged
    arranged_mem zero y i = absurd (Memᴰ.not-nil i)
    arranged_mem (suc n) y i =
        cond_elim (λ (l : List ℕ). Memᴰ y l → (y < suc n) × (listed y ≡ true)) (listed n) (insert n (arranged n)) (arranged n)
        (λ e j. ⊎_elim (λ h. (omega arith, subst (λ (z : ℕ). listed z ≡ true) (sym h) e)) (λ h. widen (arranged_mem n y h)) (insert_mem n y (arranged n) j))
        (λ e j. widen (arranged_mem n y j))
        i
      where
        widen : (y < n) × (listed y ≡ true) → (y < suc n) × (listed y ≡ true)
        widen h = (omega arith, h.1)

    pub arranged_all : (n y : ℕ) → y < n → listed y ≡ true → Memᴰ y (arranged n)
    unfolding arranged
    arranged_all zero y h e = absurd (omega arith)
    arranged_all (suc n) y h e =
        ⊎_elim
        (λ i. cond_elim (λ (l : List ℕ). Memᴰ y l) (listed n) (insert n (arranged n)) (arranged n) (λ f. insert_old n y (arranged n) (arranged_all n y (leb-true (suc y) n i) e)) (λ f. arranged_all n y (leb-true (suc y) n i) e))
        (λ i.
        let last : y ≡ n = omega (arith, leb-false (suc y) n i) in
        cond_elim (λ (l : List ℕ). Memᴰ y l) (listed n) (insert n (arranged n)) (arranged n) (λ f. subst (λ (z : ℕ). Memᴰ z (insert n (arranged n))) (sym last) (insert_new n (arranged n))) (λ f. absurd (false≢true (sym f ∙ subst (λ (z : ℕ). listed z ≡ true) last e))))
        (either (leb (suc y) n))

    pub arranged_sorted : (n : ℕ) → Sorted (arranged n)
    unfolding arranged Sorted
    arranged_sorted zero = tt
    arranged_sorted (suc n) =
        cond_elim Sorted (listed n) (insert n (arranged n)) (arranged n) (λ e. insert_sorted n (arranged n) (λ y i. (arranged_mem n y i).0) (arranged_sorted n)) (λ e. arranged_sorted n)
