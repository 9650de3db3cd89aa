-- What a network keeps: the room is not past, each message's board is one that there is, and a party is up on all boards or none. And a board
-- that stays within its share meets no 13.
use Prim.Native.Nat.{ℕ, ◌≤◌}
use mathlib.Core.Path.{◌≡◌, refl, ap, ◌∙◌}
use mathlib.Core.Bool.{Bool, true, false, cond, false≢true}
use mathlib.Core.Option.{Option, none, some}
use mathlib.Core.List.{List, [], ◌∷◌}
use native.Mathlib.Omega.{arith}
use lib.Dec.{eqb}
use borrow.Author.Tests.{eqb-true}
use Rattle.laws.specs.Owners.{count_of}
use Rattle.config.specs.declared.Config.{Config}
use Rattle.config.specs.declared.Room.{Room}
use Rattle.config.specs.Questions.{Question, ask, first_no, within}
use Rattle.config.proofs.OwnersWithin.{none_within}
use Rattle.config.proofs.Rooms.{none_room, within_share}
use Rattle.config.specs.Room.{fits_room, owners_within, room_within, share_of}
use Rattle.config.proofs.Questions.{lacks, no_such, skip}
use Rattle.tag.specs.declared.Tag.{Tag}
use Rattle.protocol.specs.Board.{Call}
use Rattle.protocol.specs.Client.{begin_questions}
use Rattle.protocol.specs.Parties.{questions_to_begin, questions_to_crash_client, questions_to_crash_server, questions_to_restart_server}
use Rattle.protocol.specs.Rig.{Code, Rig, begin_write, begin_read, code_of, crash_client, crash_server, double, handOver, lose, position_questions, questions_to11, restart_server, write_fits}
use Rattle.protocol.specs.Network.{Network, NetworkTurn, On, asked_board, board_exists, fresh_network, names_board, network_event, network_from7, network_move, network_move_of, network_questions, network_to11, rig_of, unless_refused}
use Rattle.protocol.proofs.Basics.{cond_elim}
use Rattle.protocol.proofs.NetworkMoves.{counts_stay, every_owners, owners_stay_within}
use Rattle.protocol.proofs.NetworkCalls.{Accepted, accepted, asks, no_event}
use Rattle.protocol.proofs.Together.{Together, fresh_together, move_together}

-- what is asked of a network in 6, and kept by every event
pub record Ready {Value Element : Type 0} (room : Room) (n : Network Value Element) : Type 0 where
  pub together : Together room n
  pub owners : owners_within room n.owners ≡ true
  pub roomy : fits_room room n.owners ≡ true

module _ {Value Element : Type 0} (key : Tag → ℕ) (encode : Value → ℕ → Element) (decode : List (ℕ × Element) → Value) (cfg : Config) (fits : Value → Bool) (room : Room) where
  pub fresh_ready : (starts : ℕ → Value) → Ready room (fresh_network cfg room encode starts)
  fresh_ready starts =
      record { together = fresh_together key encode decode cfg room starts; owners = unfold fresh_network in none_within room; roomy = unfold fresh_network in none_room room }

  module _ (n : Network Value Element) (ready : Ready room n) where
    -- an accepted event
    move_ready : (b : ℕ) (a : Call Value) (w : Code) → Accepted key encode decode cfg fits room n b a w → Ready room (network_move key encode decode cfg room n b a w).network
    move_ready b a w asked =
        record {
          together = move_together key encode decode cfg room n ready.together b a w asked.to11;
          owners = unfold board_exists in by (names_board (some w)) refl asked.exists;
          roomy = asked.roomy;
        }
      where
        by : (named : Bool) → names_board (some w) ≡ named → cond named (within 1 room.boards b) true ≡ true
            → owners_within room (network_move key encode decode cfg room n b a w).network.owners ≡ true
        by true e exists = owners_stay_within key encode decode cfg room n ready.together.lengths b a w e exists ready.owners
        by false e exists = ap (owners_within room) (every_owners key encode decode cfg room n b a w e) ∙ ready.owners

    -- every event, whatever it answers
    pub event_ready : (x : On (Call Value)) → Ready room (network_event key encode decode cfg fits room n x).network
    unfolding network_event network_questions unless_refused
    event_ready x =
        cond_elim (λ (t : NetworkTurn Value Element). Ready room t.network) (eqb (first_no (asks key encode decode cfg fits room n x.board x.it (code_of x.it.code))) 0)
        (network_move_of key encode decode cfg room n x.board x.it (code_of x.it.code)) _
        (λ e. moved (code_of x.it.code) (eqb-true _ 0 e)) (λ _. ready)
      where
        moved : (o : Option Code) → first_no (asks key encode decode cfg fits room n x.board x.it o) ≡ 0
            → Ready room (network_move_of key encode decode cfg room n x.board x.it o).network
        moved none h = absurd (no_event key encode decode cfg fits room n x.board x.it h)
        moved (some w) h = unfold network_move_of in move_ready x.board x.it w (accepted key encode decode cfg fits room n x.board x.it w h)

-- ---- a board within its share meets no 13

-- 13 is none of 8 to 11
to_11_lacks_13 : {Value Element : Type 0} (cfg : Config) (r : Rig Value Element) (a : Call Value) (w : Code) → lacks 13 (questions_to11 cfg r a w) ≡ true
unfolding lacks questions_to11 questions_to_begin questions_to_crash_client questions_to_crash_server questions_to_restart_server begin_questions position_questions
to_11_lacks_13 cfg r a begin_write = refl
to_11_lacks_13 cfg r a begin_read = refl
to_11_lacks_13 cfg r a handOver = refl
to_11_lacks_13 cfg r a lose = refl
to_11_lacks_13 cfg r a double = refl
to_11_lacks_13 cfg r a crash_server = refl
to_11_lacks_13 cfg r a crash_client = refl
to_11_lacks_13 cfg r a restart_server = refl

-- where a question is answered yes, it gives no number
not_13 : (r : Bool) → r ≡ true → first_no (ask 13 r ∷ []) ≡ 13 → ⊥
unfolding first_no
not_13 true h e = omega (arith, e)
not_13 false h e = false≢true h

-- where the number is another, the first question was answered yes
first_yes : (k n : ℕ) (holds : Bool) (rest : List Question) → (k ≡ n → ⊥) → first_no (ask k holds ∷ rest) ≡ n → holds ≡ true
unfolding first_no
first_yes k n true rest other e = refl
first_yes k n false rest other e = absurd (other e)

module _ {Value Element : Type 0} (key : Tag → ℕ) (encode : Value → ℕ → Element) (decode : List (ℕ × Element) → Value) (cfg : Config)
    (fits : Value → Bool) (room : Room) (shares : room_within room ≡ true) (n : Network Value Element) (ready : Ready room n)
  where
    abbrev after : ℕ → Call Value → Code → Network Value Element
    after b a w = (network_move key encode decode cfg room n b a w).network

    roomy : (b : ℕ) (a : Call Value) (w : Code) → count_of b (after b a w).owners ≤ share_of room b → board_exists room b (some w) ≡ true
        → fits_room room (after b a w).owners ≡ true
    unfolding board_exists
    roomy b a w h = by (names_board (some w)) refl
      where
        by : (named : Bool) → names_board (some w) ≡ named → cond named (within 1 room.boards b) true ≡ true → fits_room room (after b a w).owners ≡ true
        by true e exists =
            within_share room b n.owners (after b a w).owners shares exists ready.owners
            (owners_stay_within key encode decode cfg room n ready.together.lengths b a w e exists ready.owners)
            (counts_stay key encode decode cfg room n ready.together.lengths b a w e) ready.roomy h
        by false e exists = ap (fits_room room) (every_owners key encode decode cfg room n b a w e) ∙ ready.roomy

    share_by : (b : ℕ) (a : Call Value) (o : Option Code)
        → count_of b (network_move_of key encode decode cfg room n b a o).network.owners ≤ share_of room b
        → first_no (asks key encode decode cfg fits room n b a o) ≡ 13 → ⊥
    unfolding network_move_of network_from7 network_to11 lacks
    share_by b a none h e = no_such 13 (asks key encode decode cfg fits room n b a none) refl (omega arith) e
    share_by b a (some w) h e =
        let rest = skip 13 (ask 22 (board_exists room b (some w)) ∷ ask 19 (write_fits fits a (some w)) ∷ ask 7 true ∷ []) _ refl e in
        let last = skip 13 (ask 12 true ∷ []) _ refl (skip 13 (network_to11 cfg n b a w) _ (to_11_lacks_13 cfg (rig_of (asked_board b w) n) a w) rest) in
        not_13 (fits_room room (after b a w).owners) (roomy b a w h (first_yes 22 13 (board_exists room b (some w)) _ (λ i. omega (arith, i)) e)) last

    -- "a guaranteed share": an event that leaves the board it names with no more messages than its share is not refused with 13
    pub share : (x : On (Call Value))
        → count_of x.board (network_move_of key encode decode cfg room n x.board x.it (code_of x.it.code)).network.owners ≤ share_of room x.board
        → first_no (network_questions key encode decode cfg fits room n x) ≡ 13 → ⊥
    unfolding network_questions
    share x h e = share_by x.board x.it (code_of x.it.code) h e
