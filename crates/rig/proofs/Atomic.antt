-- Demand 3 over the code: "Every list's history has an order that fits." The list is one of specs/Runs.antt, of calls that meet the
-- contracts of specs/Calls.antt; what fits is said by the single board, and nothing that the rig keeps. Assumes nothing.
use Prim.Native.Nat.{ℕ}
use mathlib.Core.Path.{◌≡◌, refl, sym, ap, subst, ◌∙◌}
use mathlib.Core.Bool.{Bool}
use mathlib.Core.Option.{Option, none, some}
use mathlib.Core.List.{List, [], ◌∷◌, ◌++◌}
use native.Mathlib.Decide.{ℕ_discrete}
use borrow.Author.Tests.{eq-eqb, ne_eqb}
use Rattle.config.specs.declared.Config.{Config}
use Rattle.config.specs.Config.{Valid}
use Rattle.config.specs.Questions.{first_no}
use Rattle.protocol.specs.Boards.{Board, BoardAnswer, BoardAtomic, BoardCall, BoardEvent, BoardExecution, BoardRig, BoardTurn, IsBoard, move_of, questions, starting_board}
use Rattle.protocol.specs.Endings.{EndsOne}
use Rattle.protocol.specs.Rig as protocol
use Rattle.protocol.specs.Rig.{Code, begin_write, code_of, fresh, moves, refuses, unless_no}
use Rattle.protocol.proofs.Boards as boards
use Rattle.protocol.proofs.Cut.{start_board, write_board}
use Rattle.parties.specs.Acts.{answer_of}
use Rattle.events.specs.declared.Rig.{Rig}
use Rattle.events.specs.View.{Lent, flight, view}
use Rattle.events.specs.Questions.{formed_for}
use Rattle.events.specs.Calls.{event_no, outcome}
use Rattle.rig.specs.Runs.{Runs, made, event}
use Rattle.rig.proofs.Making.{make_board, make_valid}
use Rattle.events.proofs.Asked.{event_board, event_fits, event_later, no_code, to_11}

abbrev event_of : BoardCall → BoardAnswer → BoardEvent
event_of a x = record { call = a; answer = x }

module _ (cfg : Config) (m : ℕ) (start : List ℕ) where
  abbrev origin_board : Board
  origin_board = starting_board cfg start

  -- an execution of the protocol, after one event more
  abbrev Then : List BoardEvent → BoardCall → BoardTurn → Type 0
  Then events a t = BoardExecution cfg origin_board t.rig (events ++ (event_of a t.answer ∷ []))

  module _ {v : BoardRig} {events : List BoardEvent} (seen : BoardExecution cfg origin_board v events) (a : BoardCall) where
    -- an event that no question refuses is the protocol's move
    accepted : (formed : Bool) (w : Option Code) → code_of a.code ≡ w → first_no (questions cfg m v a formed w) ≡ 0
        → (w ≡ some begin_write → IsBoard cfg a.board)
        → Then events a (move_of cfg v a w)
    unfolding protocol.move_of
    accepted formed none e h b = absurd (no_code cfg m v a formed h)
    accepted formed (some w) e h b = moves seen a w e (to_11 cfg m v a formed w h) (λ x. b (ap some x))

    -- an event of the code is one of the protocol, accepted or refused
    turned : (t : BoardTurn) (number : ℕ) → (number ≡ 0 → Then events a t) → Then events a (unless_no v t number)
    unfolding unless_no
    turned t number h = elim (ℕ_discrete number 0) as (λ _. Then events a (unless_no v t number)) [
      | yes e ↦ rw (eq-eqb number 0 e) (h e)
      | no n ↦ rw (ne_eqb number 0 n) (refuses seen a number)
    ]

  -- a list of events of the code is an execution of the protocol, with the same events
  pub execution : {r : Rig} {l : Lent} {events : List BoardEvent} → Runs cfg m start r l events → BoardExecution cfg origin_board (view cfg r l) events
  execution (made b p e) = subst (λ v. BoardExecution cfg origin_board v []) (sym (p.seen (sym p.number ∙ e))) fresh
  execution (event {r = r} {l = l} {l' = l'} {events = events} {t = t} runs a b read read' p) =
      subst (λ v. BoardExecution cfg origin_board v (events ++ (event_of a (answer_of t.answer read') ∷ []))) (sym p.seen)
      (subst (λ x. BoardExecution cfg origin_board (outcome cfg m r a read l).rig (events ++ (event_of a x ∷ []))) (sym p.answer)
      (turned (execution runs) a (move_of cfg (view cfg r l) a (code_of a.code)) (event_no cfg m r a read l)
      (λ e. accepted (execution runs) a (formed_for cfg (flight r l) a.position (code_of a.code)) (code_of a.code) refl
      (event_later cfg m r a read l e)
      (write_board cfg a (code_of a.code) (event_fits cfg m r a read l e) (event_board cfg m r a read l e) b))))

  -- what the making showed holds for the whole list
  pub origin : {r : Rig} {l : Lent} {events : List BoardEvent} → Runs cfg m start r l events → Valid cfg × IsBoard cfg origin_board
  origin (made {l = l} b p e) =
      let none_no = sym p.number ∙ e in
      (make_valid cfg m start l none_no, start_board cfg start b (make_board cfg m start l none_no))
  origin (event runs a b read read' p) = origin runs

  -- The history of every list of events has an order that fits; in it, ended writes stand in rising tag order.
  pub atomic : {r : Rig} {l : Lent} {events : List BoardEvent} → Runs cfg m start r l events → BoardAtomic cfg origin_board events
  atomic runs =
      let o = origin runs in
      boards.atomic cfg o.0 origin_board o.1 (execution runs)

  -- Each answer that names a client ends exactly one operation of that client, begun before: written a write, read a read, spent either.
  pub ends_one : {r : Rig} {l : Lent} {events : List BoardEvent} → Runs cfg m start r l events → EndsOne events
  ends_one runs =
      let o = origin runs in
      boards.ends_one cfg o.0 origin_board o.1 (execution runs)
