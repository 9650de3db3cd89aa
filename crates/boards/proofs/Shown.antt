-- What it shows that no question of a making, or of an event, of a rig of several boards is answered no. Assumes nothing.
use Prim.Native.Nat.{ℕ, ◌*◌}
use mathlib.Core.Path.{◌≡◌}
use mathlib.Core.Bool.{Bool, true, cond, ◌&&◌}
use mathlib.Core.Option.{none, some}
use mathlib.Core.List.{List, ◌∷◌}
use native.Mathlib.Omega.{arith}
use borrow.Author.Tests.{eqb-true}
use lib.Dec.{eqb}
use lib.ListN.{length}
use Rattle.laws.proofs.Bools.{and_left, and_right}
use Rattle.config.specs.declared.Config.{Config}
use Rattle.config.specs.declared.Room.{Room}
use Rattle.config.specs.Config.{board_length}
use Rattle.config.specs.Questions.{Question, ask, first_no}
use Rattle.config.specs.Room.{room_questions}
use Rattle.config.proofs.Questions.{first_no_pass, last_all, none_first, none_rest, yes_next}
use Rattle.config.proofs.Rooms.{room_questions_numbered}
use Rattle.protocol.specs.Boards.{BoardCall, BoardNetwork, network_after6, network_from7, write_fits}
use Rattle.protocol.specs.Network as network
use Rattle.protocol.specs.Network.{On, board_exists, network_to11}
use Rattle.protocol.specs.Rig.{Code, code_of}
use Rattle.boards.specs.declared.Rig.{Rig}
use Rattle.boards.specs.View.{Lent, view}
use Rattle.boards.specs.Questions.{all_sized, event_questions, formed_at, rig_within, sized}
use Rattle.boards.specs.Calls.{event_no, make_no, make_questions}
use Rattle.boards.proofs.Whole.{Passed, passed}

-- a making that got no number
module _ (cfg : Config) (room : Room) (start : List ℕ) (l : Lent) (h : make_no cfg room start l ≡ 0) where
  abbrev start_is : Bool
  start_is = eqb (length start) (room.boards * board_length cfg)

  both : (first_no (room_questions cfg room) ≡ 0) × ((start_is && sized cfg room l) ≡ true)
  unfolding make_questions
  both = last_all (room_questions cfg room) 6 (start_is && sized cfg room l) (room_questions_numbered cfg room) (omega arith) h

  pub make_accepted : first_no (room_questions cfg room) ≡ 0
  make_accepted = both.0

  pub make_long : length start ≡ room.boards * board_length cfg
  make_long = eqb-true (length start) (room.boards * board_length cfg) (and_left start_is (sized cfg room l) both.1)

  pub make_sized : sized cfg room l ≡ true
  make_sized = and_right start_is (sized cfg room l) both.1

-- an event
module _ (cfg : Config) (room : Room) (r : Rig) (a : On BoardCall) (read : List ℕ) (l : Lent) where
  -- the board that it names exists
  abbrev pub there : Bool
  there = board_exists room a.board (code_of a.it.code)

  -- 19, and 7 to 13
  abbrev pub after : List Question
  after = network_after6 cfg room (view cfg room r l) a.board a.it (formed_at cfg r a l) (code_of a.it.code)

  abbrev long : Bool
  long = all_sized cfg room a.it.board.bytes read l

  abbrev shape : Bool
  shape = long && rig_within cfg room r l.owners

  abbrev fits : Bool
  fits = write_fits cfg a.it (code_of a.it.code)

  abbrev later : List Question
  later = network_from7 cfg room (view cfg room r l) a.board a.it (formed_at cfg r a l) (code_of a.it.code)

  -- where 1 to 5, 21 and 22 of the configuration are answered yes, the refusal is 22, or 6, or that of 19 and 7 to 13
  pub asked_six : first_no (room_questions cfg room) ≡ 0
      → event_no cfg room r a read l ≡ cond there (cond (all_sized cfg room a.it.board.bytes read l && rig_within cfg room r l.owners) (first_no after) 6) 22
  unfolding event_questions first_no
  asked_six accepted = first_no_pass (room_questions cfg room) _ (room_questions_numbered cfg room) accepted

  -- where it was not refused
  module _ (h : event_no cfg room r a read l ≡ 0) where
    pub event_accepted : first_no (room_questions cfg room) ≡ 0
    unfolding event_questions
    event_accepted = none_first (room_questions cfg room) _ h

    named : (there ≡ true) × (first_no (ask 6 shape ∷ after) ≡ 0)
    unfolding event_questions
    named = yes_next 22 there (ask 6 shape ∷ after) (omega arith) (none_rest (room_questions cfg room) _ (room_questions_numbered cfg room) h)

    shaped : (shape ≡ true) × (first_no after ≡ 0)
    shaped = yes_next 6 shape after (omega arith) named.1

    after-six : (fits ≡ true) × (first_no later ≡ 0)
    after-six = yes_next 19 fits later (omega arith) shaped.1

    pub event_exists : board_exists room a.board (code_of a.it.code) ≡ true
    event_exists = named.0

    pub event_fits : write_fits cfg a.it (code_of a.it.code) ≡ true
    event_fits = after-six.0

    pub event_later : first_no (network_from7 cfg room (view cfg room r l) a.board a.it (formed_at cfg r a l) (code_of a.it.code)) ≡ 0
    event_later = after-six.1

    abbrev board_is : Bool
    board_is = eqb (length a.it.board.bytes) (board_length cfg)

    abbrev read_is : Bool
    read_is = eqb (length read) (board_length cfg)

    sizes : long ≡ true
    sizes = and_left long (rig_within cfg room r l.owners) shaped.0

    pub event_board : length a.it.board.bytes ≡ board_length cfg
    event_board =
        eqb-true (length a.it.board.bytes) (board_length cfg) (and_left board_is read_is (and_left (board_is && read_is) (sized cfg room l) sizes))

    pub event_passed : Passed cfg room r l
    event_passed =
        passed cfg room r l event_accepted (and_right (board_is && read_is) (sized cfg room l) sizes)
        (and_right long (rig_within cfg room r l.owners) shaped.0)

-- of an event that was not refused there is a code, and 8 to 11 are answered yes
module _ (cfg : Config) (room : Room) (n : BoardNetwork) (b : ℕ) (a : BoardCall) (formed : Bool) where
  pub no_event : first_no (network_from7 cfg room n b a formed none) ≡ 0 → ⊥
  unfolding network.network_from7 first_no
  no_event h = omega (arith, h)

  pub to_11 : (w : Code) → first_no (network_from7 cfg room n b a formed (some w)) ≡ 0 → first_no (network_to11 cfg n b a w) ≡ 0
  unfolding network.network_from7 first_no
  to_11 w h = none_first (network_to11 cfg n b a w) _ h
