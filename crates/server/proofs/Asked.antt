-- A server's questions: which is the first that is answered no. Assumes nothing.
use Rattle.std.proofs.Common.{◌≡◌, ℕ, Bool, true, false, cond, ◌&&◌, eqb, List, [], ◌∷◌, ◌++◌, length, sym, refl, ap, ◌∙◌, arith, eq-eqb, ne_eqb, eqb-true}
use native.Mathlib.Decide.{ℕ_discrete}
use Rattle.config.specs.declared.Config.{Config}
use Rattle.config.specs.Config.{Valid, questions, store_length}
use Rattle.config.specs.Number.{server_number}
use Rattle.config.specs.Questions.{Question, ask, first_no, numbered}
use Rattle.config.proofs.Questions.{first_no_pass, first_no_stop, last_all, none_first, none_rest, questions_numbered, yes_next}
use Rattle.config.proofs.Valid.{valid, valid_asked}
use Rattle.laws.proofs.Bools.{and_left, and_right}
use Rattle.record.specs.Record.{message_of, well_formed}
use Rattle.server.specs.declared.State.{State}
use Rattle.server.specs.Calls.{for_server, state_questions, step_questions}
use Rattle.server.specs.Within.{ValidState, state_within}
use Rattle.server.specs.inner.Receive.{Passed}

-- after questions 1 to 5 and 21
pub six : (cfg : Config) (holds : Bool) (rest : List Question) → first_no (questions cfg) ≡ 0
    → first_no (questions cfg ++ ask 6 holds ∷ rest) ≡ cond holds (first_no rest) 6
unfolding first_no
six cfg holds rest passed = first_no_pass (questions cfg) (ask 6 holds ∷ rest) (questions_numbered cfg) passed

-- the questions of a state, by what stops them
module _ (cfg : Config) (s : State) (long : ℕ) where
  module _ (passed : first_no (questions cfg) ≡ 0) where
    pub no_length : (long ≡ store_length cfg → ⊥) → 6 ≡ first_no (state_questions cfg s long)
    unfolding state_questions
    no_length h = sym (six cfg (eqb long (store_length cfg) && state_within cfg s) [] passed ∙ rw (ne_eqb long (store_length cfg) h))

    pub by_state : (b : Bool) → long ≡ store_length cfg → state_within cfg s ≡ b → first_no (ask 6 b ∷ []) ≡ first_no (state_questions cfg s long)
    unfolding state_questions first_no
    by_state b e h = sym (six cfg (eqb long (store_length cfg) && state_within cfg s) [] passed ∙ rw (eq-eqb long (store_length cfg) e, h))

-- questions 1 to 6 and 21 of a state are answered yes
abbrev pub Holds : Config → State → ℕ → Type 0
Holds cfg s long = Valid cfg × (state_within cfg s ≡ true) × (long ≡ store_length cfg)

pub state_holds : (cfg : Config) (s : State) (long : ℕ) → first_no (state_questions cfg s long) ≡ 0 → Holds cfg s long
unfolding state_questions
state_holds cfg s long h =
    let same = eqb long (store_length cfg) in
    let y = last_all (questions cfg) 6 (same && state_within cfg s) (questions_numbered cfg) (omega arith) h in
    (valid cfg y.0, and_right same (state_within cfg s) y.1, eqb-true long (store_length cfg) (and_left same (state_within cfg s) y.1))

pub state_valid : (cfg : Config) (s : State) (store : List ℕ) → first_no (state_questions cfg s (length store)) ≡ 0 → ValidState cfg s store
state_valid cfg s store h = let y = state_holds cfg s (length store) h in record { valid = y.0; within = y.1; long = y.2 }

-- A step asks that, and the lengths of record and answer, before the rest.
-- of four, where the second or the last fails all do
both_no : (a b c d : Bool) → b && d ≡ false → a && b && c && d ≡ false
both_no true true true true h = h
both_no true true true false h = refl
both_no true true false d h = refl
both_no true false c d h = refl
both_no false b c d h = refl

not_six : (b : Bool) → (cond {A = ℕ} b 0 6 ≡ 0 → ⊥) → b ≡ false
not_six true h = absurd (h refl)
not_six false h = refl

module _ (cfg : Config) (s : State) (handed : List ℕ) (store answer : ℕ) where
  abbrev lengths : Bool
  lengths = eqb (length handed) 80 && eqb store (store_length cfg) && eqb answer 80 && state_within cfg s

  abbrev mine : Bool
  mine = for_server (server_number s.me) (message_of cfg handed)

  abbrev later : List Question
  later = ask 12 (well_formed cfg handed) ∷ ask 16 mine ∷ []

  abbrev number : ℕ
  number = first_no (step_questions cfg s handed store answer)

  pub step_numbered : numbered (step_questions cfg s handed store answer) ≡ true
  unfolding numbered step_questions questions
  step_numbered = refl

  pub step_stops : (first : ℕ) → first ≡ first_no (state_questions cfg s store) → (first ≡ 0 → ⊥) → first ≡ number
  unfolding state_questions step_questions first_no
  step_stops first e refuses = elim (ℕ_discrete (first_no (questions cfg)) 0) as (λ _. first ≡ first_no (questions cfg ++ ask 6 lengths ∷ later)) [
    | yes passed ↦
        let asked : Bool = eqb store (store_length cfg) && state_within cfg s in
        let k : first ≡ cond asked 0 6 = e ∙ six cfg asked [] passed in
        let b : asked ≡ false = not_six asked (λ z. refuses (k ∙ z)) in
        k ∙ ap (λ (x : Bool). cond x 0 6) b
        ∙ sym (six cfg lengths later passed
        ∙ ap (λ (x : Bool). cond x (first_no later) 6)
        (both_no (eqb (length handed) 80) (eqb store (store_length cfg)) (eqb answer 80) (state_within cfg s) b))
    | no some ↦
        e ∙ first_no_stop (questions cfg) (ask 6 (eqb store (store_length cfg) && state_within cfg s) ∷ []) some
        ∙ sym (first_no_stop (questions cfg) (ask 6 lengths ∷ later) some)
  ]

  -- none is answered no: the record is also for this server and of a kind that it receives
  pub step_accepted : number ≡ 0 → Passed cfg s handed store answer × (mine ≡ true)
  unfolding step_questions
  step_accepted z =
      let one = eqb (length handed) 80 in
      let two = eqb store (store_length cfg) in
      let three = eqb answer 80 in
      let y6 = yes_next 6 lengths later (omega arith) (none_rest (questions cfg) (ask 6 lengths ∷ later) (questions_numbered cfg) z) in
      let y12 = yes_next 12 (well_formed cfg handed) (ask 16 mine ∷ []) (omega arith) y6.1 in
      let sized = and_left (one && two && three) (state_within cfg s) y6.0 in
      let front = and_left (one && two) three sized in
      let passed : Passed cfg s handed store answer = record {
        valid = valid cfg (none_first (questions cfg) (ask 6 lengths ∷ later) z);
        within = and_right (one && two && three) (state_within cfg s) y6.0;
        long = eqb-true store (store_length cfg) (and_right one two front);
        eighty = eqb-true (length handed) 80 (and_left one two front);
        answer_eighty = eqb-true answer 80 (and_right (one && two) three sized);
        well-formed = y12.0;
      } in
      (passed, (yes_next 16 mine [] (omega arith) y12.1).0)

  module _ (held : Holds cfg s store) where
    from_six : number ≡ cond lengths (first_no later) 6
    unfolding step_questions
    from_six = six cfg lengths later (valid_asked cfg held.0)

    pub step_handed : (length handed ≡ 80 → ⊥) → 6 ≡ number
    step_handed h = sym (from_six ∙ rw (ne_eqb (length handed) 80 h))

    module _ (eighty : length handed ≡ 80) where
      pub step_answer : (answer ≡ 80 → ⊥) → 6 ≡ number
      step_answer h = sym (from_six ∙ rw (eq-eqb (length handed) 80 eighty, eq-eqb store (store_length cfg) held.2, ne_eqb answer 80 h))

      pub step_later : answer ≡ 80 → number ≡ cond (well_formed cfg handed) (cond mine 0 16) 12
      unfolding first_no
      step_later h =
          from_six
          ∙ rw (eq-eqb (length handed) 80 eighty, eq-eqb store (store_length cfg) held.2, eq-eqb answer 80 h, held.1)

-- what passes has a valid state
pub passed_valid : {cfg : Config} {s : State} {handed store : List ℕ} {answer : ℕ} → Passed cfg s handed (length store) answer → ValidState cfg s store
passed_valid p = record { valid = p.valid; within = p.within; long = p.long }
