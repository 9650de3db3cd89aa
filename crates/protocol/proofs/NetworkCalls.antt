-- The events of a list of calls to a network are those of an execution.
use Prim.Native.Nat.{ℕ}
use mathlib.Core.Path.{◌≡◌, refl, sym, ◌∙◌, ap, subst}
use mathlib.Core.Bool.{Bool, true, false, cond}
use mathlib.Core.Option.{Option, none, some}
use mathlib.Core.List.{List, [], ◌∷◌, ◌++◌, append_assoc, append-nil, Memᴰ}
use lib.Dec.{eqb}
use borrow.Author.Tests.{eqb-true}
use native.Mathlib.Omega.{arith}
use Rattle.config.specs.declared.Config.{Config}
use Rattle.config.specs.declared.Room.{Room}
use Rattle.config.specs.Questions.{Question, ask, first_no}
use Rattle.config.specs.Room.{fits_room}
use Rattle.config.proofs.Questions.{none_first, none_rest, yes_next}
use Rattle.tag.specs.declared.Tag.{Tag}
use Rattle.protocol.specs.Board.{Call, Event, refused}
use Rattle.protocol.specs.Rig.{Code, code_of, write_fits}
use Rattle.protocol.specs.Network.{Network, NetworkExecution, NetworkTurn, On, asked_board, board_exists, moves, names_board, network_after6, network_event, network_from7, network_move, network_move_of, network_questions, network_run, network_to11, refuses, rig_of, unless_refused}
use Rattle.protocol.proofs.Move.{code_number, code-number}
use Rattle.protocol.proofs.Room.{numbered_to_11}

module _ {Value Element : Type 0} (key : Tag → ℕ) (encode : Value → ℕ → Element) (decode : List (ℕ × Element) → Value) (cfg : Config) (fits : Value → Bool) (room : Room) where
  -- what the questions of an accepted event say
  pub record Accepted (n : Network Value Element) (b : ℕ) (a : Call Value) (w : Code) : Type 0 where
    pub exists : board_exists room b (some w) ≡ true
    pub fitting : write_fits fits a (some w) ≡ true
    pub to11 : first_no (network_to11 cfg n b a w) ≡ 0
    pub roomy : fits_room room (network_move key encode decode cfg room n b a w).network.owners ≡ true

  -- the questions, by the event
  abbrev pub asks : Network Value Element → ℕ → Call Value → Option Code → List Question
  asks n b a o = ask 22 (board_exists room b o) ∷ network_after6 key encode decode cfg fits room n b a true o

  pub accepted : (n : Network Value Element) (b : ℕ) (a : Call Value) (w : Code) → first_no (asks n b a (some w)) ≡ 0 → Accepted n b a w
  unfolding network_from7 network_to11
  accepted n b a w h =
      let first = yes_next 22 (board_exists room b (some w)) _ (omega arith) h in
      let second = yes_next 19 (write_fits fits a (some w)) _ (omega arith) first.1 in
      let third = yes_next 7 true _ (omega arith) second.1 in
      let last = none_rest (network_to11 cfg n b a w) _ (numbered_to_11 cfg (rig_of (asked_board b w) n) a w) third.1 in
      let r = fits_room room (network_move key encode decode cfg room n b a w).network.owners in
      record {
        exists = first.0;
        fitting = second.0;
        to11 = none_first (network_to11 cfg n b a w) (ask 12 true ∷ ask 13 r ∷ []) third.1;
        roomy = (yes_next 13 r [] (omega arith) (yes_next 12 true _ (omega arith) last).1).0;
      }

  -- an unknown event is never accepted
  pub no_event : (n : Network Value Element) (b : ℕ) (a : Call Value) → first_no (asks n b a none) ≡ 0 → ⊥
  unfolding network_from7 first_no board_exists names_board write_fits
  no_event n b a h = omega (arith, h)

  module _ (IsBoard : Value → Type 0) (starts : ℕ → Value) where
    abbrev Runs : Network Value Element → List (On (Event Value)) → Type 0
    Runs = NetworkExecution key encode decode cfg IsBoard room starts

    -- a call with its board, and the answer
    abbrev answered : On (Call Value) → NetworkTurn Value Element → On (Event Value)
    answered x t = record { board = x.board; it = record { call = x.it; answer = t.answer } }

    -- an event, by what its number says
    event_runs : (n : Network Value Element) (h : List (On (Event Value))) → Runs n h → (x : On (Call Value))
        → (x.it.code ≡ 1 → fits x.it.board ≡ true → IsBoard x.it.board) → (o : Option Code) → code_of x.it.code ≡ o
        → (t : Bool) → eqb (first_no (asks n x.board x.it o)) 0 ≡ t
        → (let turn = cond t (network_move_of key encode decode cfg room n x.board x.it o) (record { network = n; answer = refused (first_no (asks n x.board x.it o)) }) in Runs turn.network (h ++ (answered x turn ∷ [])))
    unfolding network_move_of write_fits code_number
    event_runs n h runs x board o e false f = refuses runs x (first_no (asks n x.board x.it o))
    event_runs n h runs x board none e true f = absurd (no_event n x.board x.it (eqb-true _ 0 f))
    event_runs n h runs x board (some w) e true f =
        let yes = accepted n x.board x.it w (eqb-true _ 0 f) in
        moves runs x w e yes.exists yes.to11
        (λ i. board (code-number x.it.code w e ∙ ap code_number i) (ap (λ z. write_fits fits x.it (some z)) (sym i) ∙ yes.fitting))

    -- the model's event, whatever it answers, goes on with the execution
    pub event_run : (n : Network Value Element) (h : List (On (Event Value))) → Runs n h → (x : On (Call Value))
        → (x.it.code ≡ 1 → fits x.it.board ≡ true → IsBoard x.it.board)
        → Runs (network_event key encode decode cfg fits room n x).network (h ++ (answered x (network_event key encode decode cfg fits room n x) ∷ []))
    unfolding network_event network_questions unless_refused
    event_run n h runs x board = event_runs n h runs x board (code_of x.it.code) refl (eqb (first_no (asks n x.board x.it (code_of x.it.code))) 0) refl

    pub calls_run : (calls : List (On (Call Value)))
        → ((x : On (Call Value)) → Memᴰ x calls → x.it.code ≡ 1 → fits x.it.board ≡ true → IsBoard x.it.board)
        → (n : Network Value Element) (h : List (On (Event Value))) → Runs n h
        → (n' : Network Value Element) × Runs n' (h ++ network_run key encode decode cfg fits room n calls)
    unfolding network_run
    calls_run [] boards n h runs = (n, subst (Runs n) (sym (append-nil h)) runs)
    calls_run (x ∷ later) boards n h runs =
        let t = network_event key encode decode cfg fits room n x in
        let next = event_run n h runs x (boards x (Memᴰ.head refl)) in
        let rest = calls_run later (λ y i. boards y (Memᴰ.tail i)) t.network (h ++ (answered x t ∷ [])) next in
        (rest.0, subst (Runs rest.0) (append_assoc h (answered x t ∷ []) (network_run key encode decode cfg fits room t.network later)) rest.1)
