-- Questions 1 to 6 and 21 of an event are answered yes: what they show, and the number of the event's first no, which is then 19 or one of 7 to 13.
-- Assumes nothing.
use Prim.Native.Nat.{ℕ, ◌≤◌}
use mathlib.Core.Path.{◌≡◌, refl, ◌∙◌}
use mathlib.Core.Bool.{Bool, true, ◌&&◌}
use mathlib.Core.List.{List, ◌∷◌}
use native.Mathlib.Omega.{arith}
use borrow.Author.Tests.{eqb-true}
use lib.Dec.{eqb}
use lib.ListN.{length}
use Rattle.laws.proofs.Bools.{and_left, and_right}
use Rattle.config.specs.declared.Config.{Config}
use Rattle.config.specs.Config.{Valid, board_length, rig_questions}
use Rattle.config.specs.Questions.{ask, first_no}
use Rattle.config.proofs.Questions.{first_no_pass, first_no_yes, last_all, rig_questions_numbered}
use Rattle.config.proofs.Valid.{rig_most, rig_valid}
use Rattle.protocol.specs.Boards.{BoardCall, write_fits}
use Rattle.protocol.specs.Rig.{code_of}
use Rattle.events.specs.declared.Rig.{Rig}
use Rattle.events.specs.View.{Lent}
use Rattle.events.specs.Questions.{event_questions, later_questions, rig_within, sized}
use Rattle.events.specs.Calls.{event_no}
use Rattle.events.specs.inner.Turn.{first_six}

module _ (cfg : Config) (m : ℕ) (r : Rig) (a : BoardCall) (read : List ℕ) (l : Lent) (yes : first_six cfg m r a read l ≡ 0) where
  abbrev board : Bool
  board = eqb (length a.board.bytes) (board_length cfg)

  abbrev reads : Bool
  reads = eqb (length read) (board_length cfg)

  -- question 6
  abbrev shape : Bool
  shape = board && reads && sized cfg m l && rig_within cfg m r

  both : (first_no (rig_questions cfg m) ≡ 0) × (shape ≡ true)
  both = last_all (rig_questions cfg m) 6 shape (rig_questions_numbered cfg m) (omega arith) yes

  lengths : (board && reads && sized cfg m l) ≡ true
  lengths = and_left (board && reads && sized cfg m l) (rig_within cfg m r) both.1

  pub six_valid : Valid cfg
  six_valid = rig_valid cfg m refl both.0

  pub six_most : m ≤ 512
  six_most = (rig_most cfg m refl both.0).1

  pub six_within : rig_within cfg m r ≡ true
  six_within = and_right (board && reads && sized cfg m l) (rig_within cfg m r) both.1

  pub six_sized : sized cfg m l ≡ true
  six_sized = and_right (board && reads) (sized cfg m l) lengths

  pub six_board : length a.board.bytes ≡ board_length cfg
  six_board = eqb-true (length a.board.bytes) (board_length cfg) (and_left board reads (and_left (board && reads) (sized cfg m l) lengths))

  pub six_read : length read ≡ board_length cfg
  six_read = eqb-true (length read) (board_length cfg) (and_right board reads (and_left (board && reads) (sized cfg m l) lengths))

  pub six_number : event_no cfg m r a read l ≡ first_no (ask 19 (write_fits cfg a (code_of a.code)) ∷ later_questions cfg m r a l)
  unfolding event_questions
  six_number = first_no_pass (rig_questions cfg m) _ (rig_questions_numbered cfg m) both.0 ∙ first_no_yes 6 shape _ both.1
