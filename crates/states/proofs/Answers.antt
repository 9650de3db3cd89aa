-- The verdict of unpacking and the state that it gives, by the question that decides. Assumes nothing.
use mathlib.Core.Path.{◌≡◌, sym, ◌∙◌}
use mathlib.Core.Bool.{Bool, true, false, cond}
use mathlib.Core.List.{[], ◌∷◌, ◌++◌}
use Prim.Native.Nat.{ℕ}
use native.Mathlib.Omega.{arith}
use borrow.Author.Tests.{eq-eqb, ne_eqb}
use lib.Dec.{eqb}
use Rattle.config.specs.declared.Config.{Config}
use Rattle.config.specs.Config.{questions}
use Rattle.config.specs.Questions.{ask, first_no}
use Rattle.config.specs.declared.Refusal.{Refusal}
use Rattle.config.specs.Refusal.{refusal_number}
use Rattle.config.proofs.Refusals.{refusal_some}
use Rattle.config.proofs.Questions.{first_no_stop, last_no, last_yes, questions_numbered}

-- question 6 of the bytes, and the states that they and zeros tell
module _ {A : Type 0} (cfg : Config) (holds : Bool) (told blank : A) where
  abbrev refusal : ℕ
  refusal = first_no (questions cfg ++ ask 6 holds ∷ [])

  -- what is answered
  abbrev Answer : ℕ → A → Type 0
  Answer number state = (number ≡ refusal) × (state ≡ cond (eqb refusal 0) told blank)

  refused : (n : ℕ) → refusal ≡ n → (n ≡ 0 → ⊥) → Answer n blank
  refused n e some = (sym e, rw (ne_eqb refusal 0 (λ z. some (sym e ∙ z))))

  pub not_asked : (why : Refusal) → {number : ℕ} → refusal_number why ≡ first_no (questions cfg) → number ≡ refusal_number why → Answer number blank
  not_asked why {number} e h =
      let some = refusal_some why e in
      rw h (refused (refusal_number why) (first_no_stop (questions cfg) (ask 6 holds ∷ []) some.1 ∙ sym e) some.0)

  module _ (passed : first_no (questions cfg) ≡ 0) where
    pub not-state : holds ≡ false → Answer 6 blank
    not-state h = refused 6 (last_no (questions cfg) 6 holds (questions_numbered cfg) passed h) (λ z. omega arith)

    pub state_told : holds ≡ true → Answer 0 told
    state_told h = let e = last_yes (questions cfg) 6 holds (questions_numbered cfg) passed h in (sym e, rw (eq-eqb refusal 0 e))
