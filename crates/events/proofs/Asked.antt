-- What it shows that no question of an event is answered no. Assumes nothing.
use Prim.Native.Nat.{ℕ}
use mathlib.Core.Path.{◌≡◌, refl, sym}
use mathlib.Core.Bool.{Bool, true, false, cond, ◌&&◌}
use mathlib.Core.Option.{none, some}
use mathlib.Core.List.{List, [], ◌∷◌, ◌++◌}
use native.Mathlib.Omega.{arith}
use borrow.Author.Tests.{eqb-true}
use lib.Dec.{eqb}
use lib.ListN.{length}
use Rattle.laws.proofs.Bools.{and_left}
use Rattle.config.specs.declared.Config.{Config}
use Rattle.config.specs.Config.{Valid, board_length, rig_questions}
use Rattle.config.specs.Questions.{Question, ask, first_no}
use Rattle.config.proofs.Questions.{first_no_no, first_no_pass, first_no_yes, none_first, none_rest, rig_later, rig_questions_numbered, yes_next}
use Rattle.config.proofs.Valid.{rig_valid}
use Rattle.protocol.specs.Boards.{BoardCall, BoardRig, questions, write_fits}
use Rattle.protocol.specs.Rig as protocol
use Rattle.protocol.specs.Rig.{Code, code_of, questions_to11}
use Rattle.events.specs.declared.Rig.{Rig}
use Rattle.events.specs.View.{Lent}
use Rattle.events.specs.Questions.{event_questions, later_questions, rig_within, sized}

-- questions 1 to 5 and 21 were asked and none is answered no: the refusal is 6, or none
module _ (cfg : Config) (m : ℕ) {asked : ℕ} (e : asked ≡ first_no (rig_questions cfg m)) (none_yet : asked ≡ 0) (holds : Bool) where
  pub six_no : holds ≡ false → 6 ≡ first_no (rig_questions cfg m ++ ask 6 holds ∷ [])
  six_no h = rig_later cfg m e none_yet (ask 6 holds ∷ []) (sym (first_no_no 6 holds [] h))

  pub six_yes : holds ≡ true → 0 ≡ first_no (rig_questions cfg m ++ ask 6 holds ∷ [])
  unfolding first_no
  six_yes h = rig_later cfg m e none_yet (ask 6 holds ∷ []) (sym (first_no_yes 6 holds [] h))

-- 1 to 5 and 21, and 6 with what is behind it, are all answered yes
module _ (cfg : Config) (m : ℕ) (holds : Bool) (rest : List Question) (h : first_no (rig_questions cfg m ++ ask 6 holds ∷ rest) ≡ 0) where
  pub is_valid : Valid cfg
  is_valid = rig_valid cfg m refl (none_first (rig_questions cfg m) (ask 6 holds ∷ rest) h)

  pub six : (holds ≡ true) × (first_no rest ≡ 0)
  six = yes_next 6 holds rest (omega arith) (none_rest (rig_questions cfg m) (ask 6 holds ∷ rest) (rig_questions_numbered cfg m) h)

-- an event
module _ (cfg : Config) (m : ℕ) (r : Rig) (a : BoardCall) (read : List ℕ) (l : Lent) where
  abbrev board_is : Bool
  board_is = eqb (length a.board.bytes) (board_length cfg)

  abbrev read_is : Bool
  read_is = eqb (length read) (board_length cfg)

  abbrev shape : Bool
  shape = board_is && read_is && sized cfg m l && rig_within cfg m r

  abbrev fits : Bool
  fits = write_fits cfg a (code_of a.code)

  -- where 1 to 5 and 21 are answered yes, the refusal is 6, or 19, or that of 7 to 13
  pub asked_six : first_no (rig_questions cfg m) ≡ 0
      → first_no (event_questions cfg m r a read l) ≡ cond shape (first_no (ask 19 (write_fits cfg a (code_of a.code)) ∷ later_questions cfg m r a l)) 6
  unfolding event_questions first_no
  asked_six five = first_no_pass (rig_questions cfg m) _ (rig_questions_numbered cfg m) five

  -- where it was not refused
  module _ (h : first_no (event_questions cfg m r a read l) ≡ 0) where
    shaped : shape ≡ true
    unfolding event_questions
    shaped = (six cfg m shape (ask 19 fits ∷ later_questions cfg m r a l) h).0

    after-six : (write_fits cfg a (code_of a.code) ≡ true) × (first_no (later_questions cfg m r a l) ≡ 0)
    unfolding event_questions
    after-six = yes_next 19 fits (later_questions cfg m r a l) (omega arith) (six cfg m shape (ask 19 fits ∷ later_questions cfg m r a l) h).1

    pub event_fits : write_fits cfg a (code_of a.code) ≡ true
    event_fits = after-six.0

    pub event_later : first_no (later_questions cfg m r a l) ≡ 0
    event_later = after-six.1

    lengths : (board_is && read_is && sized cfg m l) ≡ true
    lengths = and_left (board_is && read_is && sized cfg m l) (rig_within cfg m r) shaped

    handed : (board_is && read_is) ≡ true
    handed = and_left (board_is && read_is) (sized cfg m l) lengths

    pub event_board : length a.board.bytes ≡ board_length cfg
    event_board = eqb-true (length a.board.bytes) (board_length cfg) (and_left board_is read_is handed)

-- of an event that was not refused there is a code, and 8 to 11 are answered yes
module _ (cfg : Config) (m : ℕ) (v : BoardRig) (a : BoardCall) (formed : Bool) where
  pub no_code : first_no (questions cfg m v a formed none) ≡ 0 → ⊥
  unfolding protocol.questions first_no
  no_code h = omega (arith, h)

  pub to_11 : (w : Code) → first_no (questions cfg m v a formed (some w)) ≡ 0 → first_no (questions_to11 cfg v a w) ≡ 0
  unfolding protocol.questions first_no
  to_11 w h = none_first (questions_to11 cfg v a w) _ h
