-- A call's questions, as the code asks them: 1 to 5, 21 and 6 of the configuration and the state first, then 6 of the buffers lent, then the
-- others. Assumes nothing.
use mathlib.Core.Path.{◌≡◌, refl, sym, ◌∙◌}
use mathlib.Core.Bool.{Bool, true, false, cond, ◌&&◌}
use mathlib.Core.List.{List, [], ◌∷◌, ◌++◌}
use Prim.Native.Nat.{ℕ}
use native.Mathlib.Omega.{arith}
use Rattle.laws.proofs.Bools.{and_left, and_right}
use Rattle.config.specs.declared.Config.{Config}
use Rattle.config.specs.declared.Refusal.{Refusal}
use Rattle.config.specs.Config.{questions, Valid}
use Rattle.config.specs.Questions.{Question, ask, first_no}
use Rattle.config.specs.Refusal.{refusal_number}
use Rattle.config.proofs.Questions.{early, first_no_pass, none_first, none_rest, questions_numbered, yes_next}
use Rattle.config.proofs.Refusals.{refusal_some}
use Rattle.config.proofs.Valid.{valid, valid_asked}
use Rattle.client.specs.declared.State.{State}
use Rattle.client.specs.Questions.{call_questions, state_questions}
use Rattle.client.specs.State.{state_within}

-- ---- question 6 behind others

-- one of them is answered no, of the state alone: no matter what else is asked
six_no : (first rest : List Question) (sized b : Bool) → (first_no (first ++ ask 6 b ∷ []) ≡ 0 → ⊥)
    → first_no (first ++ ask 6 b ∷ []) ≡ first_no (first ++ ask 6 (sized && b) ∷ rest)
unfolding first_no
six_no [] rest sized true h = absurd (h refl)
six_no [] rest true false h = refl
six_no [] rest false false h = refl
six_no (ask n true ∷ first) rest sized b h = six_no first rest sized b h
six_no (ask n false ∷ first) rest sized b h = refl

six : (sized b : Bool) (rest : List Question) → b ≡ true → first_no (ask 6 (sized && b) ∷ rest) ≡ cond sized (first_no rest) 6
unfolding first_no
six true b rest h = rw h
six false b rest h = refl

-- ---- a call

module _ (cfg : Config) (x : State) where
  abbrev within : Bool
  within = state_within cfg x

  call : Valid cfg → (sized : Bool) (rest : List Question) → first_no (call_questions cfg sized x rest) ≡ first_no (ask 6 (sized && within) ∷ rest)
  unfolding call_questions
  call v sized rest = first_no_pass (questions cfg) (ask 6 (sized && within) ∷ rest) (questions_numbered cfg) (valid_asked cfg v)

  -- the first six are answered yes: what is left
  pub call_rest : Valid cfg → within ≡ true → (sized : Bool) (rest : List Question) → first_no (call_questions cfg sized x rest) ≡ cond sized (first_no rest) 6
  call_rest v w sized rest = call v sized rest ∙ six sized within rest w

  -- all are answered yes
  pub call_passed : (sized : Bool) (rest : List Question) → first_no (call_questions cfg sized x rest) ≡ 0
      → Valid cfg × (sized ≡ true) × (within ≡ true) × (first_no rest ≡ 0)
  unfolding call_questions
  call_passed sized rest h =
      let v = valid cfg (none_first (questions cfg) (ask 6 (sized && within) ∷ rest) h) in
      let p = yes_next 6 (sized && within) rest (omega arith) (none_rest (questions cfg) (ask 6 (sized && within) ∷ rest) (questions_numbered cfg) h) in
      (v, and_left sized within p.0, and_right sized within p.0, p.1)

  -- the state alone, as the code asks it: the configuration's are asked first
  pub state_stopped : (why : Refusal) → refusal_number why ≡ first_no (questions cfg) → refusal_number why ≡ first_no (state_questions cfg x)
  unfolding call_questions
  state_stopped why e = early cfg e (refusal_some why e).0 (ask 6 within ∷ [])

  pub state_asked : 0 ≡ first_no (questions cfg) → first_no (state_questions cfg x) ≡ cond within 0 6
  unfolding first_no
  state_asked e = call (valid cfg (sym e)) true []

  -- ---- the state's questions are asked first

  -- one of them is answered no
  pub stopped : (why : Refusal) → refusal_number why ≡ first_no (state_questions cfg x) → (sized : Bool) (rest : List Question)
      → refusal_number why ≡ first_no (call_questions cfg sized x rest)
  unfolding call_questions
  stopped why e sized rest = e ∙ six_no (questions cfg) rest sized within (refusal_some why e).1

  -- none is: the buffers are not of their lengths, or they are
  module _ (none : 0 ≡ first_no (state_questions cfg x)) where
    pub passed : Valid cfg × (within ≡ true)
    passed = let p = call_passed true [] (sym none) in (p.0, p.2)

    module _ {sized : Bool} where
      pub short : sized ≡ false → (rest : List Question) → 6 ≡ first_no (call_questions cfg sized x rest)
      short h rest = sym (call_rest passed.0 passed.1 sized rest ∙ rw h)

      pub others : sized ≡ true → {n : ℕ} (rest : List Question) → n ≡ first_no rest → n ≡ first_no (call_questions cfg sized x rest)
      others h rest e = e ∙ sym (call_rest passed.0 passed.1 sized rest ∙ rw h)
