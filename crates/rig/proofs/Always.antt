-- A fresh rig passes every question about a state and its buffers, and every event keeps that: along a list of events 1 to 5 and 21 are
-- never refused, and 6 only for how many bytes the board handed in or the buffer lent for a read has. Assumes nothing.
use Prim.Native.Nat.{ℕ}
use mathlib.Core.Path.{◌≡◌, refl, sym, ap, ◌∙◌}
use mathlib.Core.Bool.{Bool, true, false, cond, ◌&&◌}
use mathlib.Core.Option.{Option, none, some}
use mathlib.Core.List.{List, [], ◌∷◌}
use native.Mathlib.Omega.{arith}
use native.Mathlib.Decide.{ℕ_discrete}
use borrow.Author.Tests.{eq-eqb}
use lib.Dec.{eqb}
use lib.ListN.{length}
use Rattle.config.specs.declared.Config.{Config}
use Rattle.config.specs.Config.{board_length, rig_questions}
use Rattle.config.specs.Questions.{Question, ask, first_no}
use Rattle.config.proofs.Questions.{lacks, no_such, skip}
use Rattle.protocol.specs.Boards.{BoardCall, BoardEvent, BoardRig, questions, write_fits}
use Rattle.protocol.specs.Client.{begin_questions}
use Rattle.protocol.specs.Parties.{questions_to_begin, questions_to_crash_client, questions_to_crash_server, questions_to_restart_server}
use Rattle.protocol.specs.Rig as protocol
use Rattle.protocol.specs.Rig.{Code, begin_write, begin_read, handOver, lose, double, crash_server, crash_client, restart_server, code_of, position_questions, questions_to11}
use Rattle.events.specs.declared.Rig.{Rig}
use Rattle.events.specs.View.{Lent, flight, view}
use Rattle.events.specs.Questions.{formed_for, later_questions, rig_within, sized}
use Rattle.events.specs.Calls.{event_no}
use Rattle.rig.specs.Runs.{Runs, made, event}
use Rattle.rig.proofs.Making.{make_five, make_sized}
use Rattle.events.proofs.Asked.{asked_six}

module _ (cfg : Config) (m : ℕ) (start : List ℕ) where
  pub always_five : {r : Rig} {l : Lent} {events : List BoardEvent} → Runs cfg m start r l events → first_no (rig_questions cfg m) ≡ 0
  always_five (made {l = l} b p e) = make_five cfg m start l (sym p.number ∙ e)
  always_five (event runs a b read read' p) = always_five runs

  -- the buffers keep their lengths
  pub always_sized : {r : Rig} {l : Lent} {events : List BoardEvent} → Runs cfg m start r l events → sized cfg m l ≡ true
  always_sized (made {l = l} b p e) = p.lengths ∙ make_sized cfg m start l (sym p.number ∙ e)
  always_sized (event runs a b read read' p) = p.lengths ∙ always_sized runs

  -- the rig is within its limits
  pub always_within : {r : Rig} {l : Lent} {events : List BoardEvent} → Runs cfg m start r l events → rig_within cfg m r ≡ true
  always_within (made b p e) = p.within (sym p.number ∙ e)
  always_within (event {r = r} {l = l} {t = t} runs a b read read' p) =
      elim (ℕ_discrete (event_no cfg m r a read l) 0) as (λ _. rig_within cfg m t.rig ≡ true) [
        | yes z ↦ p.within z
        | no n ↦ ap (rig_within cfg m) (p.held n).0 ∙ always_within runs
      ]

  module _ {r : Rig} {l : Lent} {events : List BoardEvent} (runs : Runs cfg m start r l events) (a : BoardCall) (read : List ℕ) where
    -- the board handed in and the buffer lent for a read have V bytes
    abbrev lengths : Bool
    lengths = eqb (length a.board.bytes) (board_length cfg) && eqb (length read) (board_length cfg)

    -- 19, and 7 to 13
    abbrev after : List Question
    after = ask 19 (write_fits cfg a (code_of a.code)) ∷ later_questions cfg m r a l

    -- an event is refused with 6 where one of the two has not, and else by 19 or 7 to 13
    pub always_asks : event_no cfg m r a read l ≡ cond lengths (first_no after) 6
    always_asks =
        asked_six cfg m r a read l (always_five runs)
        ∙ rw (always_sized runs, always_within runs) (by lengths)
      where
        by : (b : Bool) → cond (b && true && true) (first_no after) 6 ≡ cond b (first_no after) 6
        by true = refl
        by false = refl

  -- none of 7 to 13 is 6
  later_others : (v : BoardRig) (a : BoardCall) (formed : Bool) (w : Option Code) → lacks 6 (questions cfg m v a formed w) ≡ true
  unfolding lacks protocol.questions questions_to11 questions_to_begin questions_to_crash_client questions_to_crash_server questions_to_restart_server begin_questions position_questions
  later_others v a formed none = refl
  later_others v a formed (some begin_write) = refl
  later_others v a formed (some begin_read) = refl
  later_others v a formed (some handOver) = refl
  later_others v a formed (some lose) = refl
  later_others v a formed (some double) = refl
  later_others v a formed (some crash_server) = refl
  later_others v a formed (some crash_client) = refl
  later_others v a formed (some restart_server) = refl

  -- "6. Has each buffer its length (V for boards, ..": along a list of events no other length, and nothing in the state, is a ground for 6
  pub six_only : {r : Rig} {l : Lent} {events : List BoardEvent} → Runs cfg m start r l events → (a : BoardCall) (read : List ℕ)
      → length a.board.bytes ≡ board_length cfg → length read ≡ board_length cfg → event_no cfg m r a read l ≡ 6 → ⊥
  unfolding first_no lacks
  six_only {r = r} {l = l} runs a read board long e =
      let later = later_questions cfg m r a l in
      let more = ask 19 (write_fits cfg a (code_of a.code)) ∷ later in
      let number : event_no cfg m r a read l ≡ first_no more =
      always_asks runs a read ∙ rw (eq-eqb (length a.board.bytes) (board_length cfg) board, eq-eqb (length read) (board_length cfg) long) in
      no_such 6 later (later_others (view cfg r l) a (formed_for cfg (flight r l) a.position (code_of a.code)) (code_of a.code)) (omega arith)
      (skip 6 (ask 19 (write_fits cfg a (code_of a.code)) ∷ []) later refl (sym number ∙ e))
