-- The number of an event's first no, where questions 1 to 6 and 21 are answered yes: it is 19 or one of 7 to 13, or 0. Assumes nothing.
use Prim.Native.Nat.{ℕ, ◌≤◌, ◌<◌}
use mathlib.Core.Path.{◌≡◌, refl, sym, ap, ap₂, ◌∙◌}
use mathlib.Core.Bool.{Bool, true, false, cond}
use mathlib.Core.Option.{Option, none, some}
use mathlib.Core.List.{List, [], ◌∷◌, ◌++◌}
use native.Mathlib.Omega.{arith}
use borrow.Author.Tests.{le-ltb, lt-ltb}
use lib.ListN.{length, length-map}
use Rattle.config.specs.declared.Config.{Config}
use Rattle.config.specs.Questions.{Question, ask, first_no}
use Rattle.config.proofs.Questions.{first_no_pass, first_no_stop}
use Rattle.record.specs.Record.{message_of}
use Rattle.flight.proofs.Laws.{length_records}
use Rattle.protocol.specs.Boards.{BoardCall, BoardRig, move, questions, write_fits}
use Rattle.protocol.specs.Rig as rig
use Rattle.protocol.specs.Rig.{Code, code_of, has_room, position_questions, questions_to11}
use Rattle.protocol.proofs.Room.{numbered_to_11}
use Rattle.events.specs.declared.Call.{Call}
use Rattle.events.specs.declared.Part.{Part}
use Rattle.events.specs.declared.Rig.{Rig}
use Rattle.events.specs.View.{Lent, flight, view}
use Rattle.events.specs.Questions.{formed_for}
use Rattle.events.specs.Calls.{called, event_no}
use Rattle.events.specs.inner.Turn.{first_six, Ready}
use Rattle.events.proofs.Six.{six_number}

module _ (cfg : Config) (m : ℕ) (r : Rig) (a : BoardCall) (read : List ℕ) (l : Lent) (yes : first_six cfg m r a read l ≡ 0) where
  abbrev v : BoardRig
  v = view cfg r l

  -- 19, and the others
  after_six : Option Code → ℕ
  after_six w = first_no (ask 19 (write_fits cfg a w) ∷ questions cfg m v a (formed_for cfg (flight r l) a.position w) w)

  -- 7
  pub no_event : code_of a.code ≡ none → event_no cfg m r a read l ≡ 7
  unfolding rig.questions first_no after_six rig.write_fits
  no_event e = six_number cfg m r a read l yes ∙ ap after_six e

  -- 19
  pub long_number : (w : Code) → code_of a.code ≡ some w → write_fits cfg a (some w) ≡ false → event_no cfg m r a read l ≡ 19
  unfolding first_no after_six
  long_number w code out = six_number cfg m r a read l yes ∙ ap after_six code ∙ rw out

  module _ (w : Code) (code : code_of a.code ≡ some w) (fits : write_fits cfg a (some w) ≡ true) where
    abbrev to11 : List Question
    to11 = questions_to11 cfg v a w

    abbrev well : Bool
    well = formed_for cfg (flight r l) a.position (some w)

    abbrev room : Bool
    room = has_room m (move cfg v a w)

    all : event_no cfg m r a read l ≡ first_no (to11 ++ ask 12 well ∷ ask 13 room ∷ [])
    unfolding rig.questions first_no after_six
    all = six_number cfg m r a read l yes ∙ ap after_six code ∙ rw fits

    -- one of 8 to 11
    pub early_number : (k : ℕ) → first_no (questions_to11 cfg (view cfg r l) a w) ≡ k → (k ≡ 0 → ⊥) → event_no cfg m r a read l ≡ k
    early_number k e ne = all ∙ first_no_stop to11 (ask 12 well ∷ ask 13 room ∷ []) (λ z. ne (sym e ∙ z)) ∙ e

    module _ (pass : first_no (questions_to11 cfg (view cfg r l) a w) ≡ 0) where
      rest : (f h : Bool) → well ≡ f → room ≡ h → event_no cfg m r a read l ≡ cond f (cond h 0 13) 12
      unfolding first_no
      rest f h e k =
          all ∙ first_no_pass to11 (ask 12 well ∷ ask 13 room ∷ []) (numbered_to_11 cfg v a w) pass ∙ ap₂ (λ x y. cond x (cond y 0 13) 12) e k

      pub ill_number : formed_for cfg (flight r l) a.position (some w) ≡ false → event_no cfg m r a read l ≡ 12
      ill_number e = rest false room e refl

      module _ (formed : formed_for cfg (flight r l) a.position (some w) ≡ true) where
        pub full_number : has_room m (move cfg (view cfg r l) a w) ≡ false → event_no cfg m r a read l ≡ 13
        full_number k = rest true false formed k

        pub accepted_number : has_room m (move cfg (view cfg r l) a w) ≡ true → event_no cfg m r a read l ≡ 0
        accepted_number k = rest true true formed k

-- how many messages are seen in flight
pub many : (cfg : Config) (r : Rig) (l : Lent) → length (view cfg r l).in_flight ≡ r.count
unfolding view
many cfg r l = length-map (flight r l) (message_of cfg) ∙ length_records r.count l.messages

-- 8, of a position
module _ (cfg : Config) (r : Rig) (l : Lent) (i : ℕ) where
  pub position_missing : r.count ≤ i → first_no (position_questions (view cfg r l).in_flight i) ≡ 8
  unfolding position_questions first_no
  position_missing h = rw (le-ltb i (length (view cfg r l).in_flight) (omega (arith, many cfg r l, h)))

  pub position_there : i < r.count → first_no (position_questions (view cfg r l).in_flight i) ≡ 0
  unfolding position_questions first_no
  position_there h = rw (lt-ltb i (length (view cfg r l).in_flight) (omega (arith, many cfg r l, h)))

-- an event by its part, at a position where there is none
pub missing : (cfg : Config) (m : ℕ) (p : Part) (a : Call) (board read : List ℕ) (l : Lent) (w : Code) → code_of a.code ≡ some w → write_fits cfg (called a board) (some w) ≡ true
    → p.count ≤ a.position → ((r : Rig) → questions_to11 cfg (view cfg r l) (called a board) w ≡ position_questions (view cfg r l).in_flight a.position)
    → (r : Rig) → Ready cfg m r p a board read l → event_no cfg m r (called a board) read l ≡ 8
missing cfg m p a board read l w code fits past asks r ready =
    early_number cfg m r (called a board) read l ready.yes w code fits 8
    (ap first_no (asks r) ∙ position_missing cfg r l a.position (omega (arith, past, ready.part.count))) (λ z. omega (arith, z))
