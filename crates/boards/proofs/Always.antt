-- A fresh rig of several boards passes every question about a state and its buffers, and every event keeps that: along a list of events, questions
-- 1 to 5 and 21 are never refused, 22 only for the board that is named, and 6 only for how many bytes the board handed in or the buffer lent for a read
-- has. Assumes nothing.
use Prim.Native.Nat.{ℕ, ◌≤◌}
use mathlib.Core.Path.{◌≡◌, refl, sym, ap, ap₂, subst, ◌∙◌}
use mathlib.Core.Bool.{Bool, true, false, cond, ◌&&◌, false≢true}
use mathlib.Core.Option.{Option, none, some}
use mathlib.Core.List.{List, [], ◌∷◌}
use native.Mathlib.Omega.{arith}
use native.Mathlib.Decide.{ℕ_discrete}
use borrow.Author.Tests.{eq-eqb, lt-leb}
use lib.Dec.{eqb, leb}
use lib.ListN.{length}
use Rattle.laws.proofs.Bools.{and_left, and_right}
use Rattle.config.specs.declared.Config.{Config}
use Rattle.config.specs.declared.Room.{Room}
use Rattle.config.specs.Config.{board_length}
use Rattle.config.specs.Questions.{Question, ask, first_no, within}
use Rattle.config.specs.Room.{room_questions}
use Rattle.config.proofs.Questions.{within_high, within_low}
use Rattle.protocol.specs.Boards.{BoardCall, BoardEvent, BoardNetwork, network_after6}
use Rattle.protocol.specs.Client.{begin_questions}
use Rattle.protocol.specs.Network as network
use Rattle.protocol.specs.Network.{On, board_exists, network_to11}
use Rattle.protocol.specs.Parties.{questions_to_begin, questions_to_crash_client, questions_to_crash_server, questions_to_restart_server}
use Rattle.protocol.specs.Rig.{Code, begin_write, begin_read, handOver, lose, double, crash_server, crash_client, restart_server, code_of, position_questions, questions_to11}
use Rattle.protocol.proofs.Basics.{cond_elim}
use Rattle.protocol.proofs.NetworkRoom.{Ready}
use Rattle.boards.specs.declared.Rig.{Rig}
use Rattle.boards.specs.View.{Lent, view}
use Rattle.boards.specs.Questions.{formed_at, rig_within, sized}
use Rattle.boards.specs.Calls.{event_no}
use Rattle.boards.specs.Runs.{Runs, event, made}
use Rattle.boards.proofs.Shown.{after, asked_six, make_accepted, make_sized, there}
use Rattle.boards.proofs.Whole.{Passed, passed}

module _ (cfg : Config) (room : Room) (start : List ℕ) where
  pub always_accepted : {r : Rig} {l : Lent} {events : List (On BoardEvent)} → Runs cfg room start r l events → first_no (room_questions cfg room) ≡ 0
  always_accepted (made {l = l} b p e) = make_accepted cfg room start l (sym p.number ∙ e)
  always_accepted (event runs a b read read' p) = always_accepted runs

  -- the buffers keep their lengths
  pub always_sized : {r : Rig} {l : Lent} {events : List (On BoardEvent)} → Runs cfg room start r l events → sized cfg room l ≡ true
  always_sized (made {l = l} b p e) = p.lengths ∙ make_sized cfg room start l (sym p.number ∙ e)
  always_sized (event runs a b read read' p) = p.lengths ∙ always_sized runs

  -- the rig is within its limits
  pub always_within : {r : Rig} {l : Lent} {events : List (On BoardEvent)} → Runs cfg room start r l events → rig_within cfg room r l.owners ≡ true
  always_within (made b p e) = p.within (sym p.number ∙ e)
  always_within (event {r = r} {l = l} {l' = l'} {t = t} runs a b read read' p) =
      elim (ℕ_discrete (event_no cfg room r a read l) 0) as (λ _. rig_within cfg room t.rig l'.owners ≡ true) [
        | yes z ↦ p.within z
        | no n ↦ ap₂ (λ x (k : Lent). rig_within cfg room x k.owners) (p.held n).0 (p.held n).1 ∙ always_within runs
      ]

  -- and with that what question 6 shows
  pub always_passed : {r : Rig} {l : Lent} {events : List (On BoardEvent)} → Runs cfg room start r l events → Passed cfg room r l
  always_passed {r = r} {l = l} runs = passed cfg room r l (always_accepted runs) (always_sized runs) (always_within runs)

  pub always_ready : {r : Rig} {l : Lent} {events : List (On BoardEvent)} → Runs cfg room start r l events → Ready room (view cfg room r l)
  unfolding view
  always_ready runs =
      let passes = always_passed runs in
      record { together = passes.together; owners = passes.owners; roomy = passes.roomy }

  module _ {r : Rig} {l : Lent} {events : List (On BoardEvent)} (runs : Runs cfg room start r l events) (a : On BoardCall) (read : List ℕ) where
    -- the board handed in and the buffer lent for a read have V bytes
    abbrev pub lengths : Bool
    lengths = eqb (length a.it.board.bytes) (board_length cfg) && eqb (length read) (board_length cfg)

    -- an event is refused with 22 where the board that it names does not exist, with 6 where one of the two has not its length, and else by 19
    -- or 7 to 13
    pub always_asks : event_no cfg room r a read l ≡ cond (there cfg room r a read l) (cond lengths (first_no (after cfg room r a read l)) 6) 22
    always_asks =
        asked_six cfg room r a read l (always_accepted runs)
        ∙ rw (always_sized runs, always_within runs) (by lengths)
      where
        by : (b : Bool)
            → cond (there cfg room r a read l) (cond (b && true && true) (first_no (after cfg room r a read l)) 6) 22
            ≡ cond (there cfg room r a read l) (cond b (first_no (after cfg room r a read l)) 6) 22
        by true = refl
        by false = refl

    -- what is so of 22 where that board does not exist, of 6 where one of the two has not its length, and else of the number of 19 and 7 to 13
    pub by_number : (P : ℕ → Type 0) → (there cfg room r a read l ≡ false → P 22) → (lengths ≡ false → P 6)
        → (there cfg room r a read l ≡ true → P (first_no (after cfg room r a read l))) → P (event_no cfg room r a read l)
    by_number P none-there short later =
        subst P (sym always_asks)
        (cond_elim P (there cfg room r a read l) _ 22 (λ e. cond_elim P lengths (first_no (after cfg room r a read l)) 6 (λ _. later e) short) none-there)

-- the numbers of 19 and 7 to 13
unfoldable ranged : List Question → Bool
ranged [] = true
ranged (ask number holds ∷ qs) = within 7 19 number && ranged qs

after_ranged : (cfg : Config) (room : Room) (n : BoardNetwork) (b : ℕ) (a : BoardCall) (formed : Bool) (w : Option Code)
    → ranged (network_after6 cfg room n b a formed w) ≡ true
unfolding ranged network.network_from7 network_to11 questions_to11 questions_to_begin questions_to_crash_client questions_to_crash_server questions_to_restart_server begin_questions position_questions
after_ranged cfg room n b a formed none = refl
after_ranged cfg room n b a formed (some begin_write) = refl
after_ranged cfg room n b a formed (some begin_read) = refl
after_ranged cfg room n b a formed (some handOver) = refl
after_ranged cfg room n b a formed (some lose) = refl
after_ranged cfg room n b a formed (some double) = refl
after_ranged cfg room n b a formed (some crash_server) = refl
after_ranged cfg room n b a formed (some crash_client) = refl
after_ranged cfg room n b a formed (some restart_server) = refl

-- another number is not their refusal
apart : (k : ℕ) → 1 ≤ k → within 7 19 k ≡ false → (qs : List Question) → ranged qs ≡ true → first_no qs ≡ k → ⊥
unfolding ranged first_no
apart k low out [] h e = omega (arith, low, e)
apart k low out (ask j true ∷ qs) h e = apart k low out qs (and_right (within 7 19 j) (ranged qs) h) e
apart k low out (ask j false ∷ qs) h e = false≢true (sym out ∙ ap (within 7 19) (sym e) ∙ and_left (within 7 19 j) (ranged qs) h)

module _ (cfg : Config) (room : Room) (start : List ℕ) {r : Rig} {l : Lent} {events : List (On BoardEvent)} (runs : Runs cfg room start r l events)
    (a : On BoardCall) (read : List ℕ)
  where
    later_not : (k : ℕ) → 1 ≤ k → within 7 19 k ≡ false → first_no (after cfg room r a read l) ≡ k → ⊥
    later_not k low out =
        apart k low out (after cfg room r a read l) (after_ranged cfg room (view cfg room r l) a.board a.it (formed_at cfg r a l) (code_of a.it.code))

    -- 1 to 5 and 21 are never refused
    pub never_early : (k : ℕ) → within 1 5 k ≡ true → event_no cfg room r a read l ≡ k → ⊥
    never_early k h =
        let low = within_low 1 5 k h in
        let high = within_high 1 5 k h in
        by_number cfg room start runs a read (λ j. j ≡ k → ⊥) (λ _ e. omega (arith, e, high)) (λ _ e. omega (arith, e, high))
        (λ _. later_not k low (ap (λ t. t && leb k 19) (lt-leb 7 k (omega (arith, high)))))

    pub never_21 : event_no cfg room r a read l ≡ 21 → ⊥
    never_21 =
        by_number cfg room start runs a read (λ j. j ≡ 21 → ⊥) (λ _ e. omega (arith, e)) (λ _ e. omega (arith, e)) (λ _. later_not 21 (omega arith) refl)

    -- 22 only for the board that is named
    pub named_only : board_exists room a.board (code_of a.it.code) ≡ true → event_no cfg room r a read l ≡ 22 → ⊥
    named_only exists =
        by_number cfg room start runs a read (λ j. j ≡ 22 → ⊥) (λ no-board _. false≢true (sym no-board ∙ exists)) (λ _ e. omega (arith, e))
        (λ _. later_not 22 (omega arith) refl)

    -- no other length, and nothing in the state, is a ground for 6
    pub six_only : length a.it.board.bytes ≡ board_length cfg → length read ≡ board_length cfg → event_no cfg room r a read l ≡ 6 → ⊥
    six_only board long =
        by_number cfg room start runs a read (λ j. j ≡ 6 → ⊥) (λ _ e. omega (arith, e))
        (λ short _.
        false≢true (sym short ∙ ap₂ ◌&&◌ (eq-eqb (length a.it.board.bytes) (board_length cfg) board) (eq-eqb (length read) (board_length cfg) long)))
        (λ _. later_not 6 (omega arith) refl)
