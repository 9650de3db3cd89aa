-- A list of events with one more: what stands at a place, and what is the first to name a client.
use Prim.Native.Nat.{ℕ, zero, suc, ◌+◌, ◌<◌}
use mathlib.Core.Path.{◌≡◌, refl, sym, ◌∙◌, ap}
use mathlib.Core.Bool.{cond}
use mathlib.Core.Logic.{◌⊎◌, inl, inr, ⊎_elim, ⊎_map}
use mathlib.Core.Option.{none, some}
use mathlib.Core.List.{List, [], ◌∷◌, ◌++◌}
use lib.ListN.{length, get_elem?}
use native.Mathlib.Omega.{arith}
use Rattle.protocol.specs.Board.{Answer, Event, names, first_naming}
use Rattle.protocol.proofs.Basics.{either, none≢some, some-injective}

module _ {A : Type 0} where
  pub at_within : (xs : List A) (p : ℕ) (y : A) → get_elem? xs p ≡ some y → p < length xs
  at_within [] p y e = absurd (none≢some e)
  at_within (x ∷ xs) zero y e = omega arith
  at_within (x ∷ xs) (suc p) y e = omega (arith, at_within xs p y e)

  pub at_before : (xs : List A) (x : A) (p : ℕ) (y : A) → get_elem? xs p ≡ some y → get_elem? (xs ++ (x ∷ [])) p ≡ some y
  at_before [] x p y e = absurd (none≢some e)
  at_before (z ∷ zs) x zero y e = e
  at_before (z ∷ zs) x (suc p) y e = at_before zs x p y e

  pub at_last : (xs : List A) (x : A) → get_elem? (xs ++ (x ∷ [])) (length xs) ≡ some x
  at_last [] x = refl
  at_last (z ∷ zs) x = at_last zs x

  pub at_cases : (xs : List A) (x : A) (p : ℕ) (y : A) → get_elem? (xs ++ (x ∷ [])) p ≡ some y → (get_elem? xs p ≡ some y) ⊎ ((p ≡ length xs) × (x ≡ y))
  at_cases [] x zero y e = inr (refl, some-injective e)
  at_cases [] x (suc p) y e = absurd (none≢some e)
  at_cases (z ∷ zs) x zero y e = inl e
  at_cases (z ∷ zs) x (suc p) y e = ⊎_map (λ h. h) (λ h. (ap suc h.0, h.1)) (at_cases zs x p y e)

module _ {Value : Type 0} where
  -- it stays the first
  pub first_stays : (c p : ℕ) (xs : List (Event Value)) (x : Event Value) (z : ℕ × Answer Value) → first_naming c p xs ≡ some z → first_naming c p (xs ++ (x ∷ [])) ≡ some z
  unfolding first_naming
  first_stays c p [] x z e = absurd (none≢some e)
  first_stays c p (y ∷ ys) x z e =
      ⊎_elim (λ h. rw h (rw h at e)) (λ h. rw h (first_stays c (p + 1) ys x z (rw h at e))) (either (names c y.answer))

  -- where there was none, it is the new event or still none
  pub first_new : (c p : ℕ) (xs : List (Event Value)) (x : Event Value) → first_naming c p xs ≡ none → first_naming c p (xs ++ (x ∷ [])) ≡ cond (names c x.answer) (some (p + length xs, x.answer)) none
  unfolding first_naming
  first_new c p [] x e = ap (λ (n : ℕ). cond (names c x.answer) (some (n, x.answer)) none) (omega arith)
  first_new c p (y ∷ ys) x e =
      ⊎_elim (λ h. absurd (none≢some (sym (rw h at e))))
      (λ h. rw h (first_new c (p + 1) ys x (rw h at e) ∙ ap (λ (n : ℕ). cond (names c x.answer) (some (n, x.answer)) none) (omega arith)))
      (either (names c y.answer))
