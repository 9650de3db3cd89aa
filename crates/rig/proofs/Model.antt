-- A list of events in which every board handed in and every buffer lent for a read has V bytes is the protocol's run of its calls: no event is
-- refused that the protocol does not refuse. With all ranks equal it is the run without ranks. Assumes nothing.
use Prim.Native.Nat.{ℕ}
use mathlib.Core.Path.{◌≡◌, refl, sym, ap, ap₂, ◌∙◌}
use mathlib.Core.List.{List, [], ◌∷◌, ◌++◌, map-append}
use borrow.Author.Tests.{eq-eqb}
use lib.ListN.{length}
use Rattle.config.specs.declared.Config.{Config}
use Rattle.config.specs.Config.{RanksEqual, board_length}
use Rattle.config.specs.Questions.{first_no}
use Rattle.tag.specs.Tag.{plain_key}
use Rattle.protocol.specs.Boards.{BoardCall, BoardEvent, BoardRig, decode, encode, event as protocol_event, fits_in, fresh_rig, move_of, questions_after6, run, starting_board}
use Rattle.protocol.specs.Rig as protocol
use Rattle.protocol.specs.Rig.{code_of, unless_no}
use Rattle.events.specs.declared.Rig.{Rig}
use Rattle.events.specs.View.{Lent, view}
use Rattle.events.specs.Calls.{outcome}
use Rattle.rig.specs.Runs.{Runs, Whole, calls_of, event, made}
use Rattle.protocol.proofs.EqualRanks.{equal_run}
use Rattle.rig.proofs.Always.{always_asks}
use Rattle.rig.proofs.Atomic.{origin}
use Rattle.rig.proofs.Never.{always_twelve}

module _ (cfg : Config) (m : ℕ) where
  -- the rig that the calls leave
  unfoldable left : BoardRig → List BoardCall → BoardRig
  left v [] = v
  left v (a ∷ later) = left (protocol_event cfg m v a).rig later

  -- one call more
  left_more : (v : BoardRig) (calls : List BoardCall) (a : BoardCall) → left v (calls ++ (a ∷ [])) ≡ (protocol_event cfg m (left v calls) a).rig
  unfolding left
  left_more v [] a = refl
  left_more v (x ∷ calls) a = left_more (protocol_event cfg m v x).rig calls a

  run_more : (v : BoardRig) (calls : List BoardCall) (a : BoardCall)
      → run cfg m v (calls ++ (a ∷ [])) ≡ run cfg m v calls ++ (record { call = a; answer = (protocol_event cfg m (left v calls) a).answer } ∷ [])
  unfolding left protocol.run
  run_more v [] a = refl
  run_more v (x ∷ calls) a =
      let t = protocol_event cfg m v x in
      ap (λ rest. record { call = x; answer = t.answer } ∷ rest) (run_more t.rig calls a)

  module _ (start : List ℕ) where
    abbrev begun : BoardRig
    begun = fresh_rig cfg (starting_board cfg start)

    -- an event of a list is the protocol's
    pub as_event : {r : Rig} {l : Lent} {events : List BoardEvent} → Runs cfg m start r l events → (a : BoardCall) (read : List ℕ)
        → length a.board.bytes ≡ board_length cfg → length read ≡ board_length cfg → outcome cfg m r a read l ≡ protocol_event cfg m (view cfg r l) a
    unfolding protocol.event
    as_event {r = r} {l = l} runs a read board long =
        let code = code_of a.code in
        ap (unless_no (view cfg r l) (move_of cfg (view cfg r l) a code))
        (always_asks cfg m start runs a read
        ∙ rw (eq-eqb (length a.board.bytes) (board_length cfg) board, eq-eqb (length read) (board_length cfg) long)
        (ap (λ b. first_no (questions_after6 cfg m (view cfg r l) a b code)) (always_twelve cfg m start runs a.position code)))

    -- the rig is what the calls leave, and the events are those of the calls
    as_both : {r : Rig} {l : Lent} {events : List BoardEvent} (runs : Runs cfg m start r l events) → Whole runs
        → (view cfg r l ≡ left begun (calls_of events)) × (events ≡ run cfg m begun (calls_of events))
    unfolding Whole left protocol.run
    as_both (made b p e) w = (p.seen (sym p.number ∙ e), refl)
    as_both (event {r = r} {l = l} {events = events} {t = t} runs a b read read' p) w =
        let before = as_both runs w.0 in
        let calls = calls_of events in
        let last : outcome cfg m r a read l ≡ protocol_event cfg m (left begun calls) a =
        as_event runs a read w.1 w.2 ∙ ap (λ v. protocol_event cfg m v a) before.0 in
        let more = map-append (λ (x : BoardEvent). x.call) events (record { call = a; answer = _ } ∷ []) in (
          p.seen ∙ ap (λ x. x.rig) last ∙ sym (ap (left begun) more ∙ left_more begun calls a),
          ap₂ (λ x y. x ++ (record { call = a; answer = y } ∷ [])) before.1 (p.answer ∙ ap (λ x. x.answer) last)
              ∙ sym (ap (run cfg m begun) more ∙ run_more begun calls a),
        )

    -- "Each event gets the rig as the one before left it": the events are the protocol's run of the calls from a fresh rig.
    pub as_run : {r : Rig} {l : Lent} {events : List BoardEvent} (runs : Runs cfg m start r l events) → Whole runs
        → events ≡ run cfg m (fresh_rig cfg (starting_board cfg start)) (calls_of events)
    as_run runs w = (as_both runs w).1

    -- "With all ranks equal and at most 3, every answer is the one given today": such a list is the run by document 01's order of tags.
    pub equal_ranks : RanksEqual cfg → {r : Rig} {l : Lent} {events : List BoardEvent} (runs : Runs cfg m start r l events) → Whole runs
        → events ≡ protocol.run plain_key (encode cfg) (decode cfg) cfg (fits_in cfg) m (protocol.fresh_rig cfg (encode cfg) (starting_board cfg start)) (calls_of events)
    equal_ranks equal {events = events} runs w =
        as_run runs w ∙ equal_run cfg (origin cfg m start runs).0 equal m (starting_board cfg start) (calls_of events)
