-- The event of the board that is named. Its parties with the messages of all boards are a rig of one board; the event of that rig, at the place of
-- the message that is named and with room for M less what is kept free for the others, is the network's. Assumes nothing.
use Prim.Native.Nat.{ℕ, ◌-◌, ◌*◌, ◌≤◌, ◌<◌}
use mathlib.Core.Path.{◌≡◌, refl, sym, ap, ap₂, ◌∙◌}
use mathlib.Core.Bool.{Bool, true, cond, ◌&&◌, false≢true}
use mathlib.Core.Option.{some}
use mathlib.Core.List.{List, [], ◌∷◌, ◌++◌}
use native.Mathlib.Omega.{arith}
use borrow.Author.Tests.{eq-eqb, eqb-true, le-leb}
use lib.Dec.{eqb, leb, ltb}
use lib.ListN.{length, take, drop, take-append-drop}
use lib.Seq.{length-take-le}
use Rattle.laws.specs.Owners.{place_of}
use Rattle.laws.proofs.Bools.{and_left, and_right}
use Rattle.laws.proofs.Owners.{own_length, place_there}
use Rattle.laws.proofs.Parts.{part_length}
use Rattle.config.specs.declared.Config.{Config}
use Rattle.config.specs.declared.Room.{Room}
use Rattle.config.specs.Config.{board_length, elements_length, questions_to5, ranks_within, record_length, rig_questions, store_length}
use Rattle.config.specs.Questions.{Question, ask, first_no, within}
use Rattle.config.specs.Room.{fits_room, kept_free, owners_within, room_questions, room_within}
use Rattle.config.proofs.Questions.{first_no_behind, first_no_pass, first_no_yes, rig_questions_numbered, within_high, within_low, within_true}
use Rattle.config.proofs.Rooms.{room_five, room_is, room_left, room_limit, room_most, room_questions_numbered}
use Rattle.config.proofs.Valid.{rig_most}
use Rattle.record.proofs.Records.{records_front}
use Rattle.flight.specs.Flight.{records}
use Rattle.protocol.specs.Boards.{BoardCall, BoardNetwork, BoardRig, BoardTurn, decode, encode, fits_in, move, network_after6, network_move, order, questions_after6}
use Rattle.protocol.specs.Network.{among_all, asked_board, board_exists, board_move, names_board, network_from7, network_to11, placed, rig_of, turned_on}
use Rattle.protocol.specs.Rig as protocol
use Rattle.protocol.specs.Rig.{Code, begin_write, begin_read, handOver, lose, double, crash_server, crash_client, restart_server, code_of, position_questions, questions_to11, write_fits}
use Rattle.protocol.proofs.NetworkMoves.{counts_stay, lengths_stay, named_move, owners_stay_within}
use Rattle.events.specs.declared.Call.{Call as OneCall}
use Rattle.events.specs.declared.Rig as one
use Rattle.events.specs.Calls as oneCalls
use Rattle.events.specs.Questions as oneQuestions
use Rattle.events.specs.View as oneView
use Rattle.events.specs.View.{messages_of, parties_of}
use Rattle.events.proofs.Entry.{cut_sized}
use Rattle.boards.specs.declared.Call.{Call}
use Rattle.boards.specs.declared.Rig.{Rig}
use Rattle.boards.specs.Calls.{called, event_no}
use Rattle.boards.specs.Questions.{all_sized, due, event_questions, formed_at, sized, sizes}
use Rattle.boards.specs.View.{Lent, lent_at, owners_of, parties_on, rig_at, view}
use Rattle.boards.specs.inner.Named.{NamedPre, bare, cut_to}
use Rattle.boards.proofs.EachSize.{SameSizes}
use Rattle.boards.proofs.Whole as whole
use Rattle.boards.proofs.Whole.{Passed, many, passed}
use Rattle.boards.proofs.OneOf.{counting, same_parties}
use Rattle.protocol.proofs.Cut.{length_cut}

-- ---- lists of questions

-- another number of messages that is in range
rig_other : (cfg : Config) (m k : ℕ) → first_no (rig_questions cfg m) ≡ 0 → 1 ≤ k → k ≤ 512 → first_no (rig_questions cfg k) ≡ 0
unfolding rig_questions
rig_other cfg m k h low high =
    let was = rig_most cfg m refl h in
    ap (λ b. first_no (questions_to5 cfg ++ ask 5 b ∷ ask 21 (ranks_within cfg) ∷ []))
    (within_true 1 512 k low high ∙ sym (within_true 1 512 m was.0 was.1))
    ∙ h

-- 12, and 13 where all before it are answered yes
same_ends : (qs : List Question) (formed x y : Bool) → (first_no qs ≡ 0 → x ≡ y)
    → first_no (qs ++ ask 12 formed ∷ ask 13 x ∷ []) ≡ first_no (qs ++ ask 12 formed ∷ ask 13 y ∷ [])
same_ends qs formed x y h = first_no_behind qs 12 formed (ask 13 x ∷ []) (ask 13 y ∷ []) (λ none _. ap (λ b. first_no (ask 13 b ∷ [])) (h none))

-- ---- a board of a network

module _ (cfg : Config) (room : Room) (n : BoardNetwork) (same : length n.owners ≡ length n.in_flight) (b : ℕ) (a : BoardCall) where
  -- the position that is named is there exactly if it is there among the board's own
  at_place : position_questions (among_all b n).in_flight (placed b n a).position ≡ position_questions (rig_of b n).in_flight a.position
  unfolding position_questions among_all placed rig_of
  at_place =
      ap (λ x. ask 8 x ∷ [])
      (ap (ltb (place_of b a.position n.owners)) (sym same)
      ∙ place_there b a.position n.owners
      ∙ ap (ltb a.position) (sym (own_length b n.owners n.in_flight same)))

  -- 8 to 11 ask the same of the board by itself
  pub to_11_same : (w : Code) → names_board (some w) ≡ true → questions_to11 cfg (among_all b n) (placed b n a) w ≡ network_to11 cfg n b a w
  unfolding questions_to11 network_to11 asked_board names_board among_all placed rig_of
  to_11_same begin_write named = refl
  to_11_same begin_read named = refl
  to_11_same handOver named = at_place
  to_11_same lose named = at_place
  to_11_same double named = at_place
  to_11_same crash_server named = absurd (false≢true named)
  to_11_same crash_client named = absurd (false≢true named)
  to_11_same restart_server named = absurd (false≢true named)

  module _ (w : Code) (named : names_board (some w) ≡ true) where
    -- the board's event among the messages of all
    abbrev moved : BoardTurn
    moved = move cfg (among_all b n) (placed b n a) w

    abbrev after : BoardNetwork
    after = (network_move cfg room n b a w).network

    flight_after : after.in_flight ≡ moved.rig.in_flight
    unfolding board_move turned_on
    flight_after = ap (λ t. t.network.in_flight) (named_move (order cfg) (encode cfg) (decode cfg) cfg room n b a w named)

    pub owners_long : length after.owners ≡ length moved.rig.in_flight
    owners_long = lengths_stay (order cfg) (encode cfg) (decode cfg) cfg room n same b a w named ∙ ap length flight_after

    -- 13: M less what is kept free for the others is the most that may be in flight
    module _ (is_room : room_within room ≡ true) (exists : within 1 room.boards b ≡ true) (owners_in : owners_within room n.owners ≡ true) (roomy : fits_room room n.owners ≡ true) where
      pub thirteen : fits_room room after.owners ≡ leb (length moved.rig.in_flight) (room.m - kept_free room b n.owners)
      thirteen =
          room_limit room b n.owners after.owners is_room exists owners_in
          (owners_stay_within (order cfg) (encode cfg) (decode cfg) cfg room n same b a w named exists owners_in)
          (counts_stay (order cfg) (encode cfg) (decode cfg) cfg room n same b a w named) roomy
          ∙ ap (λ k. leb k (room.m - kept_free room b n.owners)) owners_long

    -- 19 and 7 to 13, where the two answers to 13 are the same
    pub same_questions : (v : BoardRig) (c : BoardCall) (most : ℕ) (formed : Bool) → write_fits (fits_in cfg) c (some w) ≡ write_fits (fits_in cfg) a (some w)
        → questions_to11 cfg v c w ≡ network_to11 cfg n b a w
        → (first_no (network_to11 cfg n b a w) ≡ 0 → protocol.has_room most (move cfg v c w) ≡ fits_room room after.owners)
        → first_no (questions_after6 cfg most v c formed (some w)) ≡ first_no (network_after6 cfg room n b a formed (some w))
    unfolding protocol.questions network_from7 first_no
    same_questions v c most formed fits to11 room-same =
        ap₂ (λ x qs. first_no (ask 19 x ∷ ask 7 true ∷ qs ++ ask 12 formed ∷ ask 13 (protocol.has_room most (move cfg v c w)) ∷ [])) fits to11
        ∙ ap (λ k. cond (write_fits (fits_in cfg) a (some w)) k 19)
        (same_ends (network_to11 cfg n b a w) formed (protocol.has_room most (move cfg v c w)) (fits_room room after.owners) room-same)

-- ---- a rig

module _ (cfg : Config) (room : Room) (r : Rig) (a : Call) (board read : List ℕ) (l : Lent) (pre : NamedPre cfg room r a board read l) where
  abbrev b : ℕ
  b = a.board

  abbrev i : ℕ
  i = b - 1

  abbrev call : BoardCall
  call = (called a board).it

  abbrev n : BoardNetwork
  n = view cfg room r l

  abbrev os : List ℕ
  os = owners_of r l

  abbrev place : ℕ
  place = place_of b a.position os

  abbrev limit : ℕ
  limit = room.m - kept_free room b os

  -- the call of the board's own event
  abbrev pub its : OneCall
  its = record { code = a.code; party = a.party; position = place; length = a.length }

  low : 1 ≤ b
  low = within_low 1 room.boards b pre.exists

  pub place_in : i < room.boards
  place_in = omega (arith, low, within_high 1 room.boards b pre.exists)

  abbrev board_is : Bool
  board_is = eqb (length board) (board_length cfg)

  abbrev read_is : Bool
  read_is = eqb (length read) (board_length cfg)

  lent_yes : sized cfg room l ≡ true
  lent_yes = and_right (board_is && read_is) (sized cfg room l) pre.sized

  handed_yes : (board_is && read_is) ≡ true
  handed_yes = and_left (board_is && read_is) (sized cfg room l) pre.sized

  pub known : Passed cfg room r l
  known = passed cfg room r l pre.accepted lent_yes pre.rig

  pub long : SameSizes (sizes l) (due cfg room)
  long = whole.long cfg room l lent_yes

  pub owners_are : length os ≡ r.count
  unfolding view
  owners_are = known.together.lengths ∙ many cfg room r l

  pub beside : length n.owners ≡ length n.in_flight
  beside = known.together.lengths

  abbrev is_room : room_within room ≡ true
  is_room = room_is cfg room pre.accepted

  abbrev owners_in : owners_within room os ≡ true
  owners_in = known.owners

  abbrev roomy : fits_room room os ≡ true
  roomy = known.roomy

  pub within_limit : r.count ≤ limit
  within_limit = omega (arith, room_left room b os is_room owners_in roomy, owners_are)

  pub most_limit : limit ≤ 512
  most_limit = omega (arith, (room_most cfg room pre.accepted).1)

  -- what is seen of the board's parties
  pub parties_seen : (count : ℕ) (ms : List ℕ)
      → parties_of cfg (counting (rig_at r i) count) (oneView.lent ms (cut_to cfg 0 i (bare l)).stores (cut_to cfg 0 i (bare l)).boards (cut_to cfg 0 i (bare l)).elements) ≡ n.parties b
  unfolding view parties_on
  parties_seen count ms = same_parties cfg (rig_at r i) count (lent_at cfg l i) ms ∙ rw pre.exists

  -- the messages behind those that there is room for are none of those in flight
  pub flight_seen : (most k : ℕ) → k ≤ most → most ≤ room.m → records k (take (record_length * most) l.messages) ≡ records k l.messages
  flight_seen most k few most-m =
      sym (records_front k (take (record_length * most) l.messages) (drop (record_length * most) l.messages)
      (omega (arith, few, length-take-le (record_length * most) l.messages (omega (arith, most-m, long.messages)))))
      ∙ ap (records k) (take-append-drop (record_length * most) l.messages)

  module _ (most : ℕ) (few : most ≤ room.m) where
    -- the buffers lent to it
    abbrev handed : oneView.Lent
    handed = cut_to cfg most i (bare l)

    pub seen : r.count ≤ most → oneView.view cfg (counting (rig_at r i) r.count) handed ≡ among_all b n
    unfolding oneView.view among_all view
    seen fits = λ j. record {
      parties = parties_seen r.count (take (record_length * most) l.messages) j;
      in_flight = messages_of cfg (flight_seen most r.count fits few j);
    }

    -- its questions 1 to 6 and 21 are answered yes
    pub sized_there : oneQuestions.sized cfg most handed ≡ true
    unfolding oneQuestions.sized_by
    sized_there =
        rw (
          eq-eqb (length handed.messages) (record_length * most) (length-take-le (record_length * most) l.messages (omega (arith, few, long.messages))),
          eq-eqb (length handed.stores) (cfg.n * store_length cfg) (part_length (cfg.n * store_length cfg) i room.boards l.stores place_in long.stores),
          eq-eqb (length handed.boards) (cfg.c * board_length cfg) (part_length (cfg.c * board_length cfg) i room.boards l.boards place_in long.boards),
          eq-eqb (length handed.elements) (cfg.c * elements_length cfg) (part_length (cfg.c * elements_length cfg) i room.boards l.elements place_in long.elements),
        )

    module _ (count : ℕ) (fits : count ≤ most) (some-room : 1 ≤ most) where
      abbrev x : one.Rig
      x = counting (rig_at r i) count

      abbrev formed : Bool
      formed = oneQuestions.formed_for cfg (oneView.flight x handed) place (code_of a.code)

      all-sized : oneQuestions.all_sized cfg most (oneCalls.called its board).board.bytes read handed ≡ true
      all-sized =
          cut_sized cfg most a.length board read handed
          ∙ rw (
            eq-eqb (length board) (board_length cfg) (eqb-true (length board) (board_length cfg) (and_left board_is read_is handed_yes)),
            eq-eqb (length read) (board_length cfg) (eqb-true (length read) (board_length cfg) (and_right board_is read_is handed_yes)),
            sized_there,
          )

      parties_there : oneQuestions.rig_within cfg most x ≡ true
      unfolding oneQuestions.rig_within
      parties_there = ap₂ ◌&&◌ (le-leb count most fits) (known.parties i place_in)

      pub one-number : oneCalls.event_no cfg most x (oneCalls.called its board) read handed
          ≡ first_no (questions_after6 cfg most (oneView.view cfg x handed) (oneCalls.called its board) formed (code_of a.code))
      unfolding oneQuestions.event_questions
      one-number =
          first_no_pass (rig_questions cfg most) _ (rig_questions_numbered cfg most)
          (rig_other cfg room.m most (room_five cfg room pre.accepted) some-room (omega (arith, few, (room_most cfg room pre.accepted).1)))
          ∙ first_no_yes 6 _ _ (ap₂ ◌&&◌ all-sized parties_there)

  -- the network's questions 1 to 6, 21 and 22 are
  module _ (w : Code) (is : code_of a.code ≡ some w) (named : names_board (some w) ≡ true) where
    exists_there : board_exists room b (code_of a.code) ≡ true
    unfolding board_exists
    exists_there = ap (λ o. cond (names_board o) (within 1 room.boards b) true) is ∙ rw (named, pre.exists)

    pub network_number : event_no cfg room r (called a board) read l ≡ first_no (network_after6 cfg room n b call (formed_at cfg r (called a board) l) (code_of a.code))
    unfolding event_questions
    network_number =
        first_no_pass (room_questions cfg room) _ (room_questions_numbered cfg room) pre.accepted
        ∙ first_no_yes 22 _ _ exists_there
        ∙ first_no_yes 6 _ _ (ap₂ ◌&&◌ (sized_cut ∙ pre.sized) pre.rig)
      where
        sized_cut : all_sized cfg room call.board.bytes read l ≡ all_sized cfg room board read l
        sized_cut = ap (λ k. eqb k (board_length cfg) && eqb (length read) (board_length cfg) && sized cfg room l) (length_cut a.length board)
