-- A record handed over: what reading it tells, and what questions 1 to 5, 21, 6, 12 and 16 show of it. Assumes nothing.
use mathlib.Core.Path.{◌≡◌, refl, sym, ap, ◌∙◌}
use mathlib.Core.Bool.{Bool, true, false, cond, ◌&&◌}
use mathlib.Core.List.{List, [], ◌∷◌}
use mathlib.Core.Option.{none}
use Prim.Native.Nat.{ℕ, ◌*◌, ◌≤◌}
use native.Mathlib.Omega.{arith}
use borrow.Author.Tests.{eqb-true, leb-true, not-true}
use lib.Dec.{eqb}
use lib.ListN.{length}
use Rattle.laws.proofs.Bools.{and_left, and_right}
use Rattle.config.specs.declared.Config.{Config}
use Rattle.config.specs.declared.Refusal.{Refusal}
use Rattle.config.specs.Config.{Valid, board_length}
use Rattle.config.specs.Number.{client_number}
use Rattle.config.specs.Questions.{ask, first_no, within}
use Rattle.config.specs.Refusal.{refusal_number}
use Rattle.config.proofs.Questions.{within_high, yes_next}
use Rattle.config.proofs.Refusals.{refusal_low}
use Rattle.tag.specs.declared.Tag.{Tag}
use Rattle.tag.specs.Tag.{allowed, key}
use Rattle.tag.proofs.Order.{same_eqb, same_one, small}
use Rattle.record.specs.Calls.{read_questions}
use Rattle.record.specs.Kinds.{is_for_client}
use Rattle.record.specs.Record.{clauses, kind_at, kind_number, message_of, operation_at, present_at, well_formed}
use Rattle.record.proofs.Callers.{read_12}
use Rattle.record.proofs.Clauses.{clause, its_kind, its_tag, kind-number}
use Rattle.protocol.specs.Boards.{BoardMessage, awaited}
use Rattle.protocol.specs.Client as protocol
use Rattle.protocol.specs.Tags.{same_key}
use Rattle.client.specs.declared.Phase.{Phase}
use Rattle.client.specs.declared.Phase.TheVariants.{Idle, Asking, PreWriting, FinalisingWrite, FinalisingRead, Down}
use Rattle.client.specs.declared.State.{State}
use Rattle.client.specs.declared.questions.Sizes.{Sizes}
use Rattle.client.specs.Questions.{answer_questions, call_questions, is_board, is_elements, is_for, is_sends}
use Rattle.client.specs.Quorum.{OwnTag}
use Rattle.client.specs.Servers.{member}
use Rattle.client.specs.State.{phase_of, phase_within, slots, tag_within, to_write, view}
use Rattle.client.specs.inner.Questions.{Received, sized}
use Rattle.client.proofs.Asked.{call_passed, call_rest}
use Rattle.protocol.proofs.Judged.{awaits_it, first_kind, of_operation, of-tag}
use Rattle.client.proofs.Phases.{phase_in, tag_in}

-- ---- what reading tells

pub ill_formed : (cfg : Config) (message : List ℕ) → Valid cfg → length message ≡ 80 → (why : Refusal)
    → refusal_number why ≡ first_no (read_questions cfg message) → (well_formed cfg message ≡ false) × (refusal_number why ≡ 12)
ill_formed cfg message v long why e = go (well_formed cfg message) (e ∙ read_12 cfg message v long)
  where
    go : (b : Bool) → refusal_number why ≡ cond b 0 12 → (b ≡ false) × (refusal_number why ≡ 12)
    go false h = (refl, h)
    go true h = absurd (omega (arith, refusal_low why))

-- ---- what the questions show

module _ (cfg : Config) (x : State) (message : List ℕ) (l : Sizes) where
  abbrev all-sized : Bool
  all-sized = sized cfg (length message) l

  abbrev m : BoardMessage
  m = message_of cfg message

  -- the lengths of the buffers
  module _ (h : sized cfg (length message) l ≡ true) where
    rest : (is_board cfg l.kept && (is_elements cfg l.elements && (is_sends cfg l.sends && is_board cfg l.board))) ≡ true
    rest = and_right (eqb (length message) 80) (is_board cfg l.kept && (is_elements cfg l.elements && (is_sends cfg l.sends && is_board cfg l.board))) h

    rest' : (is_elements cfg l.elements && (is_sends cfg l.sends && is_board cfg l.board)) ≡ true
    rest' = and_right (is_board cfg l.kept) (is_elements cfg l.elements && (is_sends cfg l.sends && is_board cfg l.board)) rest

    rest'' : (is_sends cfg l.sends && is_board cfg l.board) ≡ true
    rest'' = and_right (is_elements cfg l.elements) (is_sends cfg l.sends && is_board cfg l.board) rest'

    pub message_length : length message ≡ 80
    message_length = eqb-true (length message) 80 (and_left (eqb (length message) 80) (is_board cfg l.kept && (is_elements cfg l.elements && (is_sends cfg l.sends && is_board cfg l.board))) h)

    pub lengths : (l.kept ≡ board_length cfg) × (l.elements ≡ cfg.n * cfg.e) × (l.sends ≡ 80 * cfg.n) × (l.board ≡ board_length cfg)
    lengths = (
      eqb-true l.kept (board_length cfg) (and_left (is_board cfg l.kept) (is_elements cfg l.elements && (is_sends cfg l.sends && is_board cfg l.board)) rest),
      eqb-true l.elements (cfg.n * cfg.e) (and_left (is_elements cfg l.elements) (is_sends cfg l.sends && is_board cfg l.board) rest'),
      eqb-true l.sends (80 * cfg.n) (and_left (is_sends cfg l.sends) (is_board cfg l.board) rest''),
      eqb-true l.board (board_length cfg) (and_right (is_sends cfg l.sends) (is_board cfg l.board) rest''),
    )

  -- what is left is 14
  pub received_number : Received cfg x message l → (awaits : Bool) → first_no (call_questions cfg all-sized x (answer_questions cfg x message awaits)) ≡ cond awaits 0 14
  unfolding first_no
  received_number k awaits =
      call_rest cfg x k.valid k.within all-sized (answer_questions cfg x message awaits) ∙ rw (k.lengths, k.well-formed, k.for_me)

  -- all are answered yes
  pub all_yes : (awaits : Bool) → first_no (call_questions cfg all-sized x (answer_questions cfg x message awaits)) ≡ 0 → Received cfg x message l × (awaits ≡ true)
  all_yes awaits h =
      let p = call_passed cfg x all-sized (answer_questions cfg x message awaits) h in
      let f = yes_next 12 (well_formed cfg message) (ask 16 (is_for x m) ∷ ask 14 awaits ∷ []) (omega arith) p.3 in
      let i = yes_next 16 (is_for x m) (ask 14 awaits ∷ []) (omega arith) f.1 in
      (record { valid = p.0; within = p.2; lengths = p.1; well-formed = f.0; for_me = i.0 }, (yes_next 14 awaits [] (omega arith) i.1).0)

  -- an allowed tag that is compared equal to the record's is that
  pub one_tag : Received cfg x message l → (t : Tag) → allowed cfg.c t ≡ true → same_key (key cfg) m.tag t ≡ true → m.tag ≡ t
  unfolding message_of
  one_tag k t ok same =
      same_one m.tag t (same_eqb cfg k.valid m.tag t (small cfg k.valid m.tag (its_tag cfg message k.well-formed)) (small cfg k.valid t ok) ∙ same)

  -- a record of kind 9 "has no element"
  pub cleared_bare : Received cfg x message l → protocol.is_cleared m.kind ≡ true → m.element ≡ none
  unfolding message_of clauses
  cleared_bare k told =
      let is : kind_at message ≡ 9 = sym (kind-number (kind_at message) (its_kind cfg message k.well-formed)) ∙ eqb-true (kind_number m.kind) 9 told in
      let present = clause cfg message 9 k.well-formed in
      rw (not-true (present_at message) (rw is at present))

  -- ---- what an awaited answer shows of a client: its operation was begun, and the tag of a write is its own

  module _ (k : Received cfg x message l) (kept es : List ℕ) (due : awaited cfg (view cfg x kept es) m ≡ true) where
    pub operation_begun : 1 ≤ x.operation
    unfolding message_of clauses view
    operation_begun = omega (arith, of_operation (key cfg) m (view cfg x kept es) due, leb-true 1 (operation_at message) (clause cfg message 3 k.well-formed))

    -- the tag of an answer of kinds 4 and 6 is the client's
    carried : (kind : ℕ) → within 3 6 kind ≡ true → kind_number m.kind ≡ kind → m.tag.client ≡ client_number x.me
    unfolding message_of clauses
    carried kind in-range e =
        let is : kind_at message ≡ kind = sym (kind-number (kind_at message) (its_kind cfg message k.well-formed)) ∙ e in
        let own = clause cfg message 8 k.well-formed in
        eqb-true _ _ (rw (is, in-range) at own)
        ∙ eqb-true m.client (client_number x.me) (and_left (eqb m.client (client_number x.me)) (is_for_client m.kind) k.for_me)

    own_of : (kind : ℕ) (t : Tag) (counted : ℕ) → within 3 6 kind ≡ true → tag_within cfg t counted ≡ true
        → (protocol.is_first kind (member counted) m && same_key (key cfg) m.tag t) ≡ true → t.client ≡ client_number x.me
    own_of kind t counted in-range w h =
        let parts = of-tag (key cfg) kind (member counted) m t h in
        sym (ap (λ (u : Tag). u.client) (one_tag k t (tag_in cfg t counted w) parts.1))
        ∙ carried kind in-range (first_kind kind (member counted) m (λ e. omega (arith, within_high 3 6 kind in-range)) parts.0)

    own_in : (p : Phase) → phase_within cfg p ≡ true → protocol.awaits (key cfg) (phase_of cfg p (to_write x kept) (slots x es)) m ≡ true → OwnTag x.me p
    unfolding phase_of phase_within protocol.awaits
    own_in Idle w h = tt
    own_in (Asking writes best counted) w h = tt
    own_in (PreWriting tag counted) w h = own_of 4 tag counted refl w h
    own_in (FinalisingWrite tag counted) w h = own_of 6 tag counted refl w h
    own_in (FinalisingRead tag counted sent) w h = tt
    own_in Down w h = tt

    pub write_own : OwnTag x.me x.phase
    unfolding view
    write_own = own_in x.phase (phase_in cfg x k.within) (awaits_it (key cfg) m (view cfg x kept es) due)
