-- Document 02: "Each board has its own single-board history, taken from the events that name it, under any mix of events." The list is one of
-- specs/Runs.antt, of calls that meet the contracts of specs/Calls.antt. Assumes nothing.
use Prim.Native.Nat.{ℕ, ◌-◌, ◌*◌}
use mathlib.Core.Path.{◌≡◌, refl, sym, ap, subst, ◌∙◌}
use mathlib.Core.Bool.{Bool, true}
use mathlib.Core.Option.{Option, none, some}
use mathlib.Core.List.{List, [], ◌∷◌, ◌++◌}
use native.Mathlib.Omega.{arith}
use native.Mathlib.Decide.{ℕ_discrete}
use borrow.Author.Tests.{eq-eqb, ne_eqb}
use Rattle.laws.proofs.Bytes.{bytes_part}
use Rattle.laws.specs.Parts.{part}
use Rattle.laws.proofs.Parts.{part_length}
use Rattle.config.specs.declared.Config.{Config}
use Rattle.config.specs.declared.Room.{Room}
use Rattle.config.specs.Config.{Valid, board_length}
use Rattle.config.specs.Questions.{first_no, within}
use Rattle.config.specs.Room.{room_within}
use Rattle.config.proofs.Questions.{within_high, within_low}
use Rattle.config.proofs.Rooms.{room_is, room_valid}
use Rattle.protocol.specs.Boards.{Board, BoardAnswer, BoardAtomic, BoardCall, BoardEvent, BoardNetwork, BoardNetworkExecution, BoardNetworkTurn, IsBoard, network_from7, network_move_of}
use Rattle.protocol.specs.Endings.{EndsOne}
use Rattle.protocol.specs.Network as network
use Rattle.protocol.specs.Network.{On, board_exists, events_of, fresh, moves, refuses, unless_refused}
use Rattle.protocol.specs.Rig.{Code, begin_write, code_of}
use Rattle.protocol.proofs.Cut.{start_board, write_board}
use Rattle.protocol.proofs.NetworkAtomic.{boards_atomic, boards_end_one}
use Rattle.parties.specs.Acts.{answer_of}
use Rattle.boards.specs.declared.Rig.{Rig}
use Rattle.boards.specs.View.{Lent, view}
use Rattle.boards.specs.Questions.{formed_at}
use Rattle.boards.specs.Calls.{event_no, outcome, start_of}
use Rattle.boards.specs.Runs.{Runs, event, made}
use Rattle.boards.proofs.Shown.{event_board, event_exists, event_fits, event_later, make_accepted, make_long, no_event, to_11}

abbrev event_of : On BoardCall → BoardAnswer → On BoardEvent
event_of a x = record { board = a.board; it = record { call = a.it; answer = x } }

module _ (cfg : Config) (room : Room) (start : List ℕ) where
  abbrev starts : ℕ → Board
  starts = start_of cfg start

  -- an execution of the protocol's network, after one event more
  abbrev Then : List (On BoardEvent) → On BoardCall → BoardNetworkTurn → Type 0
  Then events a t = BoardNetworkExecution cfg room starts t.network (events ++ (event_of a t.answer ∷ []))

  module _ {n : BoardNetwork} {events : List (On BoardEvent)} (seen : BoardNetworkExecution cfg room starts n events) (a : On BoardCall) where
    -- an event that no question refuses is the network's move
    accepted : (formed : Bool) (w : Option Code) → code_of a.it.code ≡ w → board_exists room a.board w ≡ true
        → first_no (network_from7 cfg room n a.board a.it formed w) ≡ 0 → (w ≡ some begin_write → IsBoard cfg a.it.board)
        → Then events a (network_move_of cfg room n a.board a.it w)
    unfolding network.network_move_of
    accepted formed none e there h b = absurd (no_event cfg room n a.board a.it formed h)
    accepted formed (some w) e there h b = moves seen a w e there (to_11 cfg room n a.board a.it formed w h) (λ x. b (ap some x))

    -- an event of the code is one of the network, accepted or refused
    turned : (t : BoardNetworkTurn) (number : ℕ) → (number ≡ 0 → Then events a t) → Then events a (unless_refused n t number)
    unfolding unless_refused
    turned t number h = elim (ℕ_discrete number 0) as (λ _. Then events a (unless_refused n t number)) [
      | yes e ↦ rw (eq-eqb number 0 e) (h e)
      | no some_no ↦ rw (ne_eqb number 0 some_no) (refuses seen a number)
    ]

  -- a list of events of the code is an execution of the protocol's network, with the same events
  pub execution : {r : Rig} {l : Lent} {events : List (On BoardEvent)} → Runs cfg room start r l events
      → BoardNetworkExecution cfg room (start_of cfg start) (view cfg room r l) events
  execution (made b p e) = subst (λ n. BoardNetworkExecution cfg room starts n []) (sym (p.seen (sym p.number ∙ e))) fresh
  execution (event {r = r} {l = l} {l' = l'} {events = events} {t = t} runs a b read read' p) =
      let code = code_of a.it.code in
      subst (λ n. BoardNetworkExecution cfg room starts n (events ++ (event_of a (answer_of t.answer read') ∷ []))) (sym p.seen)
      (subst (λ x. BoardNetworkExecution cfg room starts (outcome cfg room r a read l).network (events ++ (event_of a x ∷ []))) (sym p.answer)
      (turned (execution runs) a (network_move_of cfg room (view cfg room r l) a.board a.it code) (event_no cfg room r a read l)
      (λ e. accepted (execution runs) a (formed_at cfg r a l) code refl (event_exists cfg room r a read l e) (event_later cfg room r a read l e)
      (write_board cfg a.it code (event_fits cfg room r a read l e) (event_board cfg room r a read l e) b))))

  -- what the making showed holds for the whole list
  pub origin : {r : Rig} {l : Lent} {events : List (On BoardEvent)} → Runs cfg room start r l events
      → Valid cfg × (room_within room ≡ true) × ((b : ℕ) → within 1 room.boards b ≡ true → IsBoard cfg (start_of cfg start b))
  origin (made {l = l} bytes p e) =
      let none_no = sym p.number ∙ e in
      let all = make_accepted cfg room start l none_no in (
        room_valid cfg room all,
        room_is cfg room all,
        λ b exists.
            start_board cfg (part (board_length cfg) (b - 1) start) (bytes_part (board_length cfg) ((b - 1) * board_length cfg) start bytes)
            (part_length (board_length cfg) (b - 1) room.boards start
            (omega (arith, within_low 1 room.boards b exists, within_high 1 room.boards b exists)) (make_long cfg room start l none_no)),
      )
  origin (event runs a b read read' p) = origin runs

  -- The history of every board that there is, in every list of events, has an order that fits; in it, ended writes stand in rising tag order.
  pub atomic : {r : Rig} {l : Lent} {events : List (On BoardEvent)} → Runs cfg room start r l events → (b : ℕ) → within 1 room.boards b ≡ true
      → BoardAtomic cfg (start_of cfg start b) (events_of b events)
  atomic runs b exists =
      let o = origin runs in
      boards_atomic cfg o.0 room starts b exists (o.2 b exists) (execution runs)

  -- Each answer of theirs that names a client ends exactly one operation of that client on that board, begun before: written a write, read a read,
  -- spent either.
  pub ends_one : {r : Rig} {l : Lent} {events : List (On BoardEvent)} → Runs cfg room start r l events → (b : ℕ) → within 1 room.boards b ≡ true
      → EndsOne (events_of b events)
  ends_one runs b exists =
      let o = origin runs in
      boards_end_one cfg o.0 room starts b exists (o.2 b exists) (execution runs)
