-- The questions of `encode_all`: which is the first no, and what is known where there is none.
use Prim.Native.Nat.{ℕ, ◌+◌, ◌*◌, ◌<◌, ◌≤◌}
use mathlib.Core.Path.{◌≡◌, sym}
use mathlib.Core.Bool.{Bool, true, false, ◌&&◌}
use mathlib.Core.List.{[], ◌∷◌}
use native.Mathlib.Omega.{arith}
use borrow.Author.Tests.{eq-eqb, ne_eqb, eqb-true, le-leb, lt-leb, leb-true}
use lib.Dec.{eqb, leb}
use Rattle.laws.proofs.Bools.{and_left, and_right}
use Rattle.config.specs.declared.Config.{Config}
use Rattle.config.specs.Config.{questions, board_length}
use Rattle.config.specs.Questions.{ask, first_no}
use Rattle.config.proofs.Questions.{early, last_all, last_no, last_yes, questions_numbered}
use Rattle.config.proofs.Valid.{valid}
use Rattle.code.specs.EncodeAll.{encode_all_questions}
use Rattle.code.specs.inner.Calls.{EncodeAllPre}
use Rattle.code.proofs.Asked.{left_no, right_no, both_yes}

module _ (cfg : Config) (board offset distance buffer : ℕ) where
  abbrev answer : ℕ
  answer = first_no (encode_all_questions cfg board offset distance buffer)

  abbrev full : Bool
  full = eqb board (board_length cfg)

  abbrev within_record : Bool
  within_record = leb (offset + cfg.e) distance

  abbrev whole : Bool
  whole = eqb buffer (distance * cfg.n)

  abbrev places : Bool
  places = within_record && whole

  abbrev shape : Bool
  shape = full && places

  pub refused : (got : ℕ) → got ≡ first_no (questions cfg) → (got ≡ 0 → ⊥) → got ≡ answer
  unfolding encode_all_questions
  refused got e some = early cfg e some (ask 6 shape ∷ [])

  pub encodable_all : answer ≡ 0 → EncodeAllPre cfg board offset distance buffer
  unfolding encode_all_questions
  encodable_all h =
      let y = last_all (questions cfg) 6 shape (questions_numbered cfg) (omega arith) h in
      let p = and_right full places y.1 in
      record {
        valid = valid cfg y.0;
        board-length = eqb-true board (board_length cfg) (and_left full places y.1);
        fits = leb-true (offset + cfg.e) distance (and_left within_record whole p);
        buffer_length = eqb-true buffer (distance * cfg.n) (and_right within_record whole p);
      }

  module _ (none : first_no (questions cfg) ≡ 0) where
    misshaped : shape ≡ false → 6 ≡ answer
    unfolding encode_all_questions
    misshaped h = sym (last_no (questions cfg) 6 shape (questions_numbered cfg) none h)

    pub wrong_board : (board ≡ board_length cfg → ⊥) → 6 ≡ answer
    wrong_board n = misshaped (left_no full places (ne_eqb board (board_length cfg) n))

    pub wrong_offset : distance < offset + cfg.e → 6 ≡ answer
    wrong_offset h = misshaped (right_no full places (left_no within_record whole (lt-leb (offset + cfg.e) distance h)))

    pub wrong_buffer : whole ≡ false → 6 ≡ answer
    wrong_buffer h = misshaped (right_no full places (right_no within_record whole h))

    pub accepted : board ≡ board_length cfg → offset + cfg.e ≤ distance → whole ≡ true → 0 ≡ answer
    unfolding encode_all_questions
    accepted lb l h =
        sym (last_yes (questions cfg) 6 shape (questions_numbered cfg) none
        (both_yes full places (eq-eqb board (board_length cfg) lb) (both_yes within_record whole (le-leb (offset + cfg.e) distance l) h)))
