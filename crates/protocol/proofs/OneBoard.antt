-- A network with one board, with any share up to M, is the rig of that board: every event that names this board or none is refused alike or
-- answers alike, with M the most that may be in flight, and so does every list of such calls.
use Prim.Native.Nat.{ℕ, ◌+◌, ◌-◌, ◌≤◌}
use mathlib.Core.Path.{◌≡◌, refl, sym, ap, ap₂, subst, ◌∙◌}
use mathlib.Core.Bool.{Bool, true, false, cond}
use mathlib.Core.Option.{Option, none, some}
use mathlib.Core.List.{List, [], ◌∷◌, ◌++◌, map, Memᴰ}
use native.Mathlib.Decide.{dec_le}
use native.Mathlib.Omega.{arith}
use lib.Dec.{leb}
use lib.ListN.{length}
use borrow.Author.Tests.{le-leb, leb-true, lt-leb}
use Rattle.laws.specs.Below.{sum_below}
use Rattle.laws.specs.Owners.{count_of}
use Rattle.laws.proofs.Bools.{and_right}
use Rattle.laws.proofs.Owners.{own_length}
use Rattle.config.specs.declared.Config.{Config}
use Rattle.config.specs.declared.Room.{Room}
use Rattle.config.specs.Questions.{Question, ask, first_no, within}
use Rattle.config.specs.Room.{beyond, fits_room, most_boards, room_within, share_of, shares_sum}
use Rattle.config.proofs.Questions.{first_no_yes, within_high, within_low}
use Rattle.tag.specs.declared.Tag.{Tag}
use Rattle.protocol.specs.Board.{Call}
use Rattle.protocol.specs.Rig as rig
use Rattle.protocol.specs.Rig.{Code, Rig, code_of, fresh_rig, questions_to11, write_fits}
use Rattle.protocol.specs.Network.{Network, On, asked_board, board_exists, fresh_network, names_board, network_event, network_from7, network_move, network_move_of, network_questions, network_run, network_to11, rig_of}
use Rattle.protocol.proofs.Alone.{Agrees, unless_agrees}
use Rattle.protocol.proofs.NetworkCalls.{asks}
use Rattle.protocol.proofs.NetworkMoves.{every_answer, every_flight, every_move, every_own_answer, every_owners, lengths_stay, own_answer, own_move}
use Rattle.protocol.proofs.NetworkRoom.{Ready, event_ready, fresh_ready}
use Rattle.protocol.proofs.NetworkRuns.{fresh-rig}

-- what is beyond a share, beside what is left beyond it
beyond_one : (c s m : ℕ) → s ≤ m → leb (0 + (c - s)) (m - (0 + s)) ≡ leb c m
beyond_one c s m h = elim (dec_le c m) as (λ _. leb (0 + (c - s)) (m - (0 + s)) ≡ leb c m) [
  | yes l ↦ le-leb (0 + (c - s)) (m - (0 + s)) (omega arith) ∙ sym (le-leb c m l)
  | no l ↦ lt-leb (0 + (c - s)) (m - (0 + s)) (omega arith) ∙ sym (lt-leb c m (omega arith))
]

module _ (room : Room) (single : room.boards ≡ 1) (shares : room_within room ≡ true) where
  share_low : share_of room 1 ≤ room.m
  unfolding room_within shares_sum sum_below
  share_low =
      let low : leb (sum_below 1 (λ i. share_of room (i + 1))) room.m ≡ true =
      rw single at (and_right (within 1 most_boards room.boards) (leb (shares_sum room) room.m) shares) in
      omega (arith, leb-true _ room.m low)

  -- 13 asks for at most M in flight
  room_one : (os : List ℕ) → fits_room room os ≡ leb (count_of 1 os) room.m
  unfolding fits_room beyond shares_sum sum_below
  room_one os =
      ap (λ k. leb (sum_below k (λ i. count_of (i + 1) os - share_of room (i + 1))) (room.m - sum_below k (λ i. share_of room (i + 1)))) single
      ∙ beyond_one (count_of 1 os) (share_of room 1) room.m share_low

  module _ {Value Element : Type 0} (key : Tag → ℕ) (encode : Value → ℕ → Element) (decode : List (ℕ × Element) → Value) (cfg : Config) (fits : Value → Bool) where
    module _ (n : Network Value Element) (same : length n.owners ≡ length n.in_flight) where
      -- a move, with each message's board beside it
      record Moves (c : ℕ) (a : Call Value) (w : Code) : Type 0 where
        agrees : Agrees 1 (network_move key encode decode cfg room n c a w) (rig.move key encode decode cfg (rig_of 1 n) a w)
        lengths : length (network_move key encode decode cfg room n c a w).network.owners ≡ length (network_move key encode decode cfg room n c a w).network.in_flight
        asked : asked_board c w ≡ 1

      move_one : (c : ℕ) (a : Call Value) (w : Code) → board_exists room c (some w) ≡ true → Moves c a w
      unfolding board_exists asked_board
      move_one c a w = by (names_board (some w)) refl
        where
          the_one : within 1 room.boards c ≡ true → c ≡ 1
          the_one e = omega (arith, within_low 1 room.boards c e, within_high 1 room.boards c e)

          by : (named : Bool) → names_board (some w) ≡ named → cond named (within 1 room.boards c) true ≡ true → Moves c a w
          by true e exists =
              subst (λ z. Moves z a w) (sym (the_one exists))
              (record {
                agrees =
                    record {
                      answer = own_answer key encode decode cfg room n same 1 a w e;
                      rig = own_move key encode decode cfg room n same 1 a w e;
                    };
                lengths = lengths_stay key encode decode cfg room n same 1 a w e;
                asked = ap (λ t. cond t 1 1) e;
              })
          by false e exists =
              record {
                agrees =
                    record {
                      answer = every_answer key encode decode cfg room n c a w e ∙ sym (every_own_answer key encode decode cfg room n c a 1 w e);
                      rig = every_move key encode decode cfg room n c a 1 (ap (λ k. within 1 k 1) single) w e;
                    };
                lengths =
                    ap length (every_owners key encode decode cfg room n c a w e) ∙ same ∙ sym (ap length (every_flight key encode decode cfg room n c a w e));
                asked = ap (λ t. cond t c 1) e;
              }

      -- 13 is asked alike
      room_alike : (c : ℕ) (a : Call Value) (w : Code) → Moves c a w
          → fits_room room (network_move key encode decode cfg room n c a w).network.owners ≡ rig.has_room room.m (rig.move key encode decode cfg (rig_of 1 n) a w)
      unfolding rig.has_room rig_of
      room_alike c a w moves =
          let after = (network_move key encode decode cfg room n c a w).network in
          room_one after.owners
          ∙ ap (λ k. leb k room.m)
          (sym (own_length 1 after.owners after.in_flight moves.lengths) ∙ ap (λ (r : Rig Value Element). length r.in_flight) moves.agrees.rig)

      abbrev asks_one : Call Value → Option Code → List Question
      asks_one a o = rig.questions_after6 key encode decode cfg fits room.m (rig_of 1 n) a true o

      asks_alike : (c : ℕ) (a : Call Value) (o : Option Code) → board_exists room c o ≡ true
          → first_no (asks key encode decode cfg fits room n c a o) ≡ first_no (asks_one a o)
      unfolding network_from7 network_to11 rig.questions
      asks_alike c a none e = first_no_yes 22 (board_exists room c none) _ e
      asks_alike c a (some w) e =
          let moves = move_one c a w e in
          first_no_yes 22 (board_exists room c (some w)) _ e
          ∙ ap₂ (λ b r. first_no (ask 19 (write_fits fits a (some w)) ∷ ask 7 true ∷ questions_to11 cfg (rig_of b n) a w ++ ask 12 true ∷ ask 13 r ∷ []))
          moves.asked (room_alike c a w moves)

      moved_one : (c : ℕ) (a : Call Value) (o : Option Code) → board_exists room c o ≡ true
          → Agrees 1 (network_move_of key encode decode cfg room n c a o) (rig.move_of key encode decode cfg (rig_of 1 n) a o)
      unfolding network_move_of rig.move_of
      moved_one c a none e = record { answer = refl; rig = refl }
      moved_one c a (some w) e = (move_one c a w e).agrees

      -- an event of the one board, a crash, a restart or an unknown event
      pub event_one : (x : On (Call Value)) → board_exists room x.board (code_of x.it.code) ≡ true
          → Agrees 1 (network_event key encode decode cfg fits room n x) (rig.event key encode decode cfg fits room.m (rig_of 1 n) x.it)
      unfolding network_event network_questions rig.event
      event_one x e =
          unless_agrees 1 n _ _ _ _ (asks_alike x.board x.it (code_of x.it.code) e) (moved_one x.board x.it (code_of x.it.code) e)

    -- every list of such calls
    pub run_one : (calls : List (On (Call Value))) → ((x : On (Call Value)) → Memᴰ x calls → board_exists room x.board (code_of x.it.code) ≡ true)
        → (n : Network Value Element) → Ready room n
        → map (λ x. x.it) (network_run key encode decode cfg fits room n calls)
        ≡ rig.run key encode decode cfg fits room.m (rig_of 1 n) (map (λ x. x.it) calls)
    unfolding network_run rig.run
    run_one [] exist n ready = refl
    run_one (x ∷ calls) exist n ready =
        let agrees = event_one n ready.together.lengths x (exist x (Memᴰ.head refl)) in
        let t = network_event key encode decode cfg fits room n x in
        ap₂ (λ y rest. record { call = x.it; answer = y } ∷ rest) agrees.answer
        (run_one calls (λ y i. exist y (Memᴰ.tail i)) t.network (event_ready key encode decode cfg fits room n ready x)
        ∙ ap (λ r. rig.run key encode decode cfg fits room.m r (map (λ y. y.it) calls)) agrees.rig)

    -- from a fresh network: with one board any share gives the answers given before
    pub one_board : (starts : ℕ → Value) (calls : List (On (Call Value)))
        → ((x : On (Call Value)) → Memᴰ x calls → board_exists room x.board (code_of x.it.code) ≡ true)
        → map (λ x. x.it) (network_run key encode decode cfg fits room (fresh_network cfg room encode starts) calls)
        ≡ rig.run key encode decode cfg fits room.m (fresh_rig cfg encode (starts 1)) (map (λ x. x.it) calls)
    one_board starts calls exist =
        run_one calls exist (fresh_network cfg room encode starts) (fresh_ready key encode decode cfg fits room starts)
        ∙ ap (λ r. rig.run key encode decode cfg fits room.m r (map (λ x. x.it) calls)) (fresh-rig cfg room encode starts 1 (ap (λ k. within 1 k 1) single))
