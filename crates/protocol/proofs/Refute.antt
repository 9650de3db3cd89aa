-- What the orders that fit have in common, by which a history is shown to have none; and orders of one or two operations.
use Prim.Native.Nat.{ℕ}
use mathlib.Core.Path.{◌≡◌, refl, sym, subst}
use mathlib.Core.Logic.{◌⊎◌, inl, inr, ⊎_elim}
use mathlib.Core.List.Memᴰ
use mathlib.Core.List.{List, [], ◌∷◌, Memᴰ}
use Rattle.protocol.specs.Board.{Operation, after, ShowsState, Shown, MayStand, MustStand, EndedBefore, Once, StandsFirst, Fits}

-- both of two, one of which stands first, stand in the order
pub first_left : (p r : ℕ) (xs : List ℕ) → StandsFirst p r xs → Memᴰ p xs
unfolding StandsFirst
first_left p r [] h = absurd h
first_left p r (x ∷ xs) (inl h) = Memᴰ.head h.0
first_left p r (x ∷ xs) (inr h) = Memᴰ.tail (first_left p r xs h)

pub first_right : (p r : ℕ) (xs : List ℕ) → StandsFirst p r xs → Memᴰ r xs
unfolding StandsFirst
first_right p r [] h = absurd h
first_right p r (x ∷ xs) (inl h) = Memᴰ.tail h.1
first_right p r (x ∷ xs) (inr h) = Memᴰ.tail (first_right p r xs h)

-- only one of two stands first
pub first_one : (p r : ℕ) (xs : List ℕ) → Once xs → StandsFirst p r xs → StandsFirst r p xs → ⊥
unfolding StandsFirst Once
first_one p r [] once h i = h
first_one p r (x ∷ xs) once (inl h) (inl i) = once.0 (subst (λ (z : ℕ). Memᴰ z xs) i.0 h.1)
first_one p r (x ∷ xs) once (inl h) (inr i) = once.0 (subst (λ (z : ℕ). Memᴰ z xs) h.0 (first_right r p xs i))
first_one p r (x ∷ xs) once (inr h) (inl i) = once.0 (subst (λ (z : ℕ). Memᴰ z xs) i.0 (first_right p r xs h))
first_one p r (x ∷ xs) once (inr h) (inr i) = first_one p r xs once.1 h i

module _ {Value : Type 0} (operations : ℕ → Operation Value) where
  -- What holds of the state at first, and is kept by all that stand in an order, holds of what a read in it shows; what holds of the state
  -- behind an operation w, and is kept by all that stand behind w, holds of what a read behind w shows.
  module _ (Q : Value → Type 0) where
    pub held : (xs : List ℕ) (s : Value) → Q s → ((p : ℕ) → Memᴰ p xs → (z : Value) → Q z → Q (after (operations p) z)) → Shown operations s xs → (r : ℕ) → Memᴰ r xs → (z : Value) × Q z × ShowsState (operations r) z
    unfolding Shown
    held [] s q kept shown r i = absurd (Memᴰ.not-nil i)
    held (x ∷ xs) s q kept shown r i =
        ⊎_elim (λ e. (s, q, subst (λ (y : ℕ). ShowsState (operations y) s) (sym e) shown.0))
        (held xs (after (operations x) s) (kept x (Memᴰ.head refl) s q) (λ p j. kept p (Memᴰ.tail j)) shown.1 r)
        (Memᴰ.cases_cons i)

    pub carried : (xs : List ℕ) (s : Value) (w r : ℕ) → ((z : Value) → ShowsState (operations w) z → Q (after (operations w) z)) → ((p : ℕ) → StandsFirst w p xs → (z : Value) → Q z → Q (after (operations p) z)) → StandsFirst w r xs → Shown operations s xs → (z : Value) × Q z × ShowsState (operations r) z
    unfolding Shown StandsFirst
    carried [] s w r at kept first shown = absurd first
    carried (x ∷ xs) s w r at kept (inl first) shown =
        held xs (after (operations x) s)
        (subst (λ (y : ℕ). Q (after (operations y) s)) first.0 (at s (subst (λ (y : ℕ). ShowsState (operations y) s) (sym first.0) shown.0)))
        (λ p i. kept p (inl (first.0, i)))
        shown.1
        r
        first.1
    carried (x ∷ xs) s w r at kept (inr first) shown =
        carried xs (after (operations x) s) w r at (λ p h. kept p (inr h)) first shown.1

  -- an order of one operation
  pub fits_one : (start : Value) (a : ℕ) → ((p : ℕ) → MustStand (operations p) → p ≡ a) → MayStand (operations a) → (EndedBefore (operations a) a → ⊥) → Shown operations start (a ∷ []) → Fits operations start (a ∷ [])
  unfolding Once StandsFirst
  fits_one start a all may early shown =
      record {
        once = (Memᴰ.not-nil, tt);
        ended = λ p m. Memᴰ.head (all p m);
        nothing_else = λ p i. subst (λ (y : ℕ). MayStand (operations y)) (sym (Memᴰ.eq_of_singleton i)) may;
        in_time = λ p r i j e.
            absurd (early (subst (EndedBefore (operations a)) (Memᴰ.eq_of_singleton j) (subst (λ (y : ℕ). EndedBefore (operations y) r) (Memᴰ.eq_of_singleton i) e)));
        shown = shown;
      }

  -- an order of two
  pub fits_two : (start : Value) (a b : ℕ) → (a ≡ b → ⊥) → ((p : ℕ) → MustStand (operations p) → (p ≡ a) ⊎ (p ≡ b)) → MayStand (operations a) → MayStand (operations b) → (EndedBefore (operations a) a → ⊥) → (EndedBefore (operations b) b → ⊥) → (EndedBefore (operations b) a → ⊥) → Shown operations start (a ∷ b ∷ []) → Fits operations start (a ∷ b ∷ [])
  unfolding Once StandsFirst
  fits_two start a b other all mayA mayB earlyA earlyB late shown =
      record {
        once = (λ i. other (Memᴰ.eq_of_singleton i), (Memᴰ.not-nil, tt));
        ended = λ p m. ⊎_elim Memᴰ.head (λ e. Memᴰ.tail (Memᴰ.head e)) (all p m);
        nothing_else = λ p i. ⊎_elim (λ e. subst (λ (y : ℕ). MayStand (operations y)) (sym e) mayA) (λ e. subst (λ (y : ℕ). MayStand (operations y)) (sym e) mayB) (one_of p i);
        in_time = λ p r i j e.
            ⊎_elim
            (λ h. ⊎_elim (λ k. absurd (earlyA (at h k e))) (λ k. inl (h, Memᴰ.head k)) (one_of r j))
            (λ h. ⊎_elim (λ k. absurd (late (at h k e))) (λ k. absurd (earlyB (at h k e))) (one_of r j))
            (one_of p i);
        shown = shown;
      }
    where
      one_of : (p : ℕ) → Memᴰ p (a ∷ b ∷ []) → (p ≡ a) ⊎ (p ≡ b)
      one_of p i = ⊎_elim inl (λ j. inr (Memᴰ.eq_of_singleton j)) (Memᴰ.cases_cons i)

      at : {p r x y : ℕ} → p ≡ x → r ≡ y → EndedBefore (operations p) r → EndedBefore (operations x) y
      at {r = r} {x = x} h k e = subst (EndedBefore (operations x)) k (subst (λ (z : ℕ). EndedBefore (operations z) r) h e)
