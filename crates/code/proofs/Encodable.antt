-- The questions of `encode`: which is the first no, and what is known where there is none.
use Prim.Native.Nat.{ℕ, ◌≤◌}
use mathlib.Core.Path.{◌≡◌, refl, sym, ◌∙◌}
use mathlib.Core.Bool.{Bool, true, false, ◌&&◌}
use mathlib.Core.List.{[], ◌∷◌}
use native.Mathlib.Omega.{arith}
use borrow.Author.Tests.{eq-eqb, ne_eqb, eqb-true}
use lib.Dec.{eqb}
use Rattle.laws.proofs.Bools.{and_left, and_right}
use Rattle.config.specs.declared.Config.{Config}
use Rattle.config.specs.Config.{questions, board_length}
use Rattle.config.specs.Questions.{ask, within, first_no}
use Rattle.config.proofs.Questions.{early, first_no_pass, none_first, questions_numbered, first_no_yes, first_no_no, within_low, within_high, within_true}
use Rattle.config.proofs.Valid.{valid}
use Rattle.code.specs.Encode.{encode_questions}
use Rattle.code.specs.inner.Calls.{EncodePre}
use Rattle.code.proofs.Asked.{left_no, right_no, both_yes}

all_yes : (a b : Bool) → first_no (ask 6 a ∷ ask 18 b ∷ []) ≡ 0 → (a ≡ true) × (b ≡ true)
unfolding first_no
all_yes true true h = (refl, refl)
all_yes true false h = absurd (omega arith)
all_yes false b h = absurd (omega arith)

module _ (cfg : Config) (board s part : ℕ) where
  abbrev answer : ℕ
  answer = first_no (encode_questions cfg board s part)

  abbrev shape : Bool
  shape = eqb board (board_length cfg) && eqb part cfg.e

  abbrev server : Bool
  server = within 1 cfg.n s

  pub refused : (got : ℕ) → got ≡ first_no (questions cfg) → (got ≡ 0 → ⊥) → got ≡ answer
  unfolding encode_questions
  refused got e some = early cfg e some (ask 6 shape ∷ ask 18 server ∷ [])

  passes : first_no (questions cfg) ≡ 0 → answer ≡ first_no (ask 6 shape ∷ ask 18 server ∷ [])
  unfolding encode_questions
  passes = first_no_pass (questions cfg) (ask 6 shape ∷ ask 18 server ∷ []) (questions_numbered cfg)

  pub encodable : answer ≡ 0 → EncodePre cfg board s part
  unfolding encode_questions
  encodable h =
      let none : first_no (questions cfg) ≡ 0 = none_first (questions cfg) (ask 6 shape ∷ ask 18 server ∷ []) h in
      let y = all_yes shape server (sym (passes none) ∙ h) in
      record {
        valid = valid cfg none;
        board-length = eqb-true board (board_length cfg) (and_left (eqb board (board_length cfg)) (eqb part cfg.e) y.0);
        part_length = eqb-true part cfg.e (and_right (eqb board (board_length cfg)) (eqb part cfg.e) y.0);
        server_low = within_low 1 cfg.n s y.1;
        server_high = within_high 1 cfg.n s y.1;
      }

  module _ (none : first_no (questions cfg) ≡ 0) where
    misshaped : shape ≡ false → 6 ≡ answer
    misshaped h = sym (passes none ∙ first_no_no 6 shape (ask 18 server ∷ []) h)

    pub wrong_board : (board ≡ board_length cfg → ⊥) → 6 ≡ answer
    wrong_board n = misshaped (left_no (eqb board (board_length cfg)) (eqb part cfg.e) (ne_eqb board (board_length cfg) n))

    pub wrong_part : (part ≡ cfg.e → ⊥) → 6 ≡ answer
    wrong_part n = misshaped (right_no (eqb board (board_length cfg)) (eqb part cfg.e) (ne_eqb part cfg.e n))

    module _ (lb : board ≡ board_length cfg) (le : part ≡ cfg.e) where
      last : answer ≡ first_no (ask 18 server ∷ [])
      last =
          passes none
          ∙ first_no_yes 6 shape (ask 18 server ∷ [])
          (both_yes (eqb board (board_length cfg)) (eqb part cfg.e) (eq-eqb board (board_length cfg) lb) (eq-eqb part cfg.e le))

      pub no-server : server ≡ false → 18 ≡ answer
      no-server h = sym (last ∙ first_no_no 18 server [] h)

      pub some_server : server ≡ true → 0 ≡ answer
      unfolding first_no
      some_server h = sym (last ∙ first_no_yes 18 server [] h)

      pub accepted : 1 ≤ s → s ≤ cfg.n → 0 ≡ answer
      accepted h l = some_server (within_true 1 cfg.n s h l)
