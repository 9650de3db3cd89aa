-- A step: refused, not awaited, or the protocol's, which asks again or counts the answer. Assumes nothing.
use Rattle.std.proofs.Common.{Some, None}
use mathlib.Core.Path.{◌≡◌, refl, sym, ap, ap₂, ◌∙◌, subst}
use mathlib.Core.Bool.{Bool, true, false, cond, ◌&&◌, true≢false}
use mathlib.Core.Option.{none, some, some-injective}
use mathlib.Core.List.{List}
use Prim.Native.Nat.{ℕ, ◌≤◌, ◌<◌}
use native.Mathlib.Omega.{arith}
use borrow.Author.Tests.{eq-eqb, ne_eqb}
use lib.Dec.{eqb, leb}
use lib.ListN.{length}
use Rattle.config.specs.declared.Config.{Config}
use Rattle.config.specs.declared.Refusal.{Refusal}
use Rattle.config.specs.declared.Refusal.TheVariants.{NotAwaited}
use Rattle.config.specs.Config.{board_length}
use Rattle.config.specs.Number.{client_number, server_number}
use Rattle.config.specs.Questions.{first_no, within}
use Rattle.config.specs.Refusal.{refusal_number}
use Rattle.config.proofs.Questions.{within_high, within_low}
use Rattle.config.proofs.Refusals.{refusal_some}
use Rattle.tag.specs.Tag.{allowed}
use Rattle.record.specs.declared.Header.{Header}
use Rattle.record.specs.Calls.{with_element}
use Rattle.record.specs.Element.{Element, element_with}
use Rattle.record.specs.Record.{element_in, length_at, length_fits, message_of, present_at}
use Rattle.record.proofs.Clauses.{its_fit, its_server, its_tag}
use Rattle.protocol.specs.Boards as boards
use Rattle.protocol.specs.Boards.{BoardMessage, BoardPhase}
use Rattle.protocol.specs.Client as protocol
use Rattle.client.specs.declared.count.Taken.{Taken}
use Rattle.client.specs.declared.Ended.{Ended}
use Rattle.client.specs.declared.Moved.{Moved}
use Rattle.client.specs.declared.Phase.{Phase}
use Rattle.client.specs.declared.Phase.TheVariants.{Idle, Asking, PreWriting, FinalisingWrite, FinalisingRead, Down}
use Rattle.client.specs.declared.State.{State}
use Rattle.client.specs.declared.questions.Sizes.{Sizes}
use Rattle.client.specs.Calls.{StepPost, client_step, ended_of}
use Rattle.client.specs.Questions.{step_questions}
use Rattle.client.specs.Quorum.{OwnTag}
use Rattle.client.specs.State.{Lent, Slots, length_placed, length_placed_at, lengths_within, lent, phase_of, phase_within, placed, placed_at, seen, slots, slots_of, to_write, view}
use Rattle.client.specs.inner.Again.{AskAgainPost, AskAgainPre}
use Rattle.client.specs.inner.Count.{awaits_of, count_of, counting_of, taken_of}
use Rattle.client.specs.inner.Outcome.{RefusedPost, counted_of}
use Rattle.client.specs.inner.Place.{TakePre}
use Rattle.client.specs.inner.Questions.{Received}
use Rattle.client.specs.inner.Settle.{Moves, SettlePost, SettlePre, settle_of}
use Rattle.client.proofs.Answers.{moved, refused}
use Rattle.client.proofs.Counting.{awaits_is, counting_is, counting_lengths, counting_within, lengths_are}
use Rattle.client.proofs.Onward.{step_again}
use Rattle.client.proofs.Phases.{all_in, lengths-in, phase_in, self_in}
use Rattle.client.proofs.Receiving.{cleared_bare, lengths, message_length, operation_begun, received_number, write_own}

-- the lengths of the buffers lent
abbrev pub sizes_of : Lent → Sizes
sizes_of l = record { kept = length l.kept; elements = length l.elements; sends = length l.sends; board = length l.board }

-- ---- refused

pub step_refused : (cfg : Config) (x : State) (message : List ℕ) (l : Lent) (why : Refusal) {r : Moved}
    → refusal_number why ≡ first_no (step_questions cfg x message l) → RefusedPost x (refusal_number why) r → StepPost cfg x message l l r
unfolding protocol.stays
step_refused cfg x message l why {r} e h =
    let number = first_no (step_questions cfg x message l) in
    let out : eqb number 0 ≡ false = ne_eqb number 0 (refusal_some why e).1 in
    record {
      answered =
          refused cfg x (seen cfg x l) _ (client_step cfg x message l) l.sends (step_questions cfg x message l) why e h
          (ap (λ (y : State). seen cfg y l) h.state);
      ended = ap (λ (w : Ended). ended_of w l.board) h.ended ∙ rw out;
      lent = rw out;
      kept = refl;
      elements = rw out;
      length = ap (λ (y : State). y.length) h.state;
      lengths = ap (λ (y : State). y.lengths) h.state ∙ rw out;
    }

-- ---- an answer for this client

-- what the code found: it is awaited, or not
answer_as : (b : Bool) (t u : Taken) → cond b (Some t) None ≡ Some u → (b ≡ true) × (t ≡ u)
answer_as true t u e = (refl, cc)
answer_as false t u e = let z : ◌≡◌ {A = ℕ} 0 1 = cc in absurd (omega arith)

other_as : (b : Bool) (t : Taken) → cond b (Some t) None ≡ None → b ≡ false
other_as true t e = let z : ◌≡◌ {A = ℕ} 0 1 = cc in absurd (omega arith)
other_as false t e = refl

-- and then: the element was cleared, or it is counted
cleared_as : (b : Bool) (p : Phase) → cond b Taken.Cleared (Taken.Counted p) ≡ Taken.Cleared → b ≡ true
cleared_as true p e = refl
cleared_as false p e = let z : ◌≡◌ {A = ℕ} 0 1 = cc in absurd (omega arith)

counted_as : (b : Bool) (p q : Phase) → cond b Taken.Cleared (Taken.Counted p) ≡ Taken.Counted q → (b ≡ false) × (p ≡ q)
counted_as true p q e = let z : ◌≡◌ {A = ℕ} 0 1 = cc in absurd (omega arith)
counted_as false p q e = (refl, cc)

-- an element that is there, as two say it, is one
one_element : (a b : Bool) (u w : Element) → a ≡ true → cond a (some u) none ≡ cond b (some w) none → (b ≡ true) × (u ≡ w)
one_element true true u w h e = (refl, some-injective u w e)
one_element true false u w h e = let z : ◌≡◌ {A = ℕ} 0 1 = cc in absurd (omega arith)
one_element false b u w h e = absurd (true≢false (sym h))

-- counting keeps the tag
own_counted : (cfg : Config) (x : State) (h : Header) (p : Phase) → OwnTag x.me p → OwnTag x.me (counting_of cfg p h)
unfolding counting_of
own_counted cfg x h Idle o = o
own_counted cfg x h (Asking writes best counted) o = o
own_counted cfg x h (PreWriting tag counted) o = o
own_counted cfg x h (FinalisingWrite tag counted) o = o
own_counted cfg x h (FinalisingRead tag counted sent) o = o
own_counted cfg x h Down o = o

module _ (cfg : Config) (x : State) (message : List ℕ) (l : Lent) (k : Received cfg x message (sizes_of l)) (h : Header)
    (says : with_element cfg h message ≡ message_of cfg message) where
  abbrev m : BoardMessage
  m = message_of cfg message

  abbrev awaited : Bool
  awaited = boards.awaited cfg (seen cfg x l) m

  server_in : within 1 cfg.n (server_number h.server) ≡ true
  unfolding with_element message_of
  server_in = ap (λ (w : BoardMessage). within 1 cfg.n w.server) says ∙ its_server cfg message k.well-formed

  tag_ok : allowed cfg.c h.tag ≡ true
  unfolding with_element message_of
  tag_ok = ap (λ (w : BoardMessage). allowed cfg.c w.tag) says ∙ its_tag cfg message k.well-formed

  -- an element's length is at most V
  length_ok : h.present ≡ true → leb h.length (board_length cfg) ≡ true
  unfolding with_element message_of
  length_ok there =
      let same = one_element h.present (present_at message) (element_with h.length (element_in cfg message)) (element_with (length_at message) (element_in cfg message)) there
      (ap (λ (w : BoardMessage). w.element) says) in
      ap (λ (e : Element). leb e.length (board_length cfg)) same.1
      ∙ subst (λ (b : Bool). length_fits cfg b (length_at message) ≡ true) same.0 (its_fit cfg message k.well-formed)

  pub server_places : (1 ≤ server_number h.server) × (server_number h.server ≤ 16)
  server_places = (
    within_low 1 cfg.n (server_number h.server) server_in,
    omega (arith, within_high 1 cfg.n (server_number h.server) server_in, k.valid.n_high),
  )

  pub server_small : server_number h.server < 32
  server_small = omega (arith, within_high 1 cfg.n (server_number h.server) server_in, k.valid.n_high)

  -- question 14, as the code asks it
  awaited_is : awaited ≡ (eqb h.operation x.operation && awaits_of x.phase h)
  unfolding protocol.awaited view with_element
  awaited_is =
      ap (boards.awaited cfg (seen cfg x l)) (sym says)
      ∙ ap (λ (b : Bool). eqb h.operation x.operation && b) (awaits_is cfg k.valid h server_in tag_ok x.phase (phase_in cfg x k.within) (to_write x l.kept) (slots x l.elements) message)

  number : first_no (step_questions cfg x message l) ≡ cond awaited 0 14
  number = received_number cfg x message (sizes_of l) k awaited

  pub not_awaited : None ≡ count_of cfg x h → {r : Moved} → RefusedPost x 14 r → StepPost cfg x message l l r
  not_awaited e post =
      let out : awaited ≡ false = awaited_is ∙ other_as (eqb h.operation x.operation && awaits_of x.phase h) (taken_of cfg x.phase h) (sym e) in
      step_refused cfg x message l NotAwaited (sym (number ∙ rw out)) post

  pub takes : TakePre cfg h message l.elements
  takes =
      record {
        valid = k.valid;
        server = server_in;
        message_length = message_length cfg x message (sizes_of l) k.lengths;
        elements-length = (lengths cfg x message (sizes_of l) k.lengths).1;
      }

  pub asks_again : AskAgainPre cfg x l.sends
  asks_again = record { valid = k.valid; within = k.within; sends-length = (lengths cfg x message (sizes_of l) k.lengths).2 }

  -- it is of kind 9, or not
  cleared_is : protocol.is_cleared m.kind ≡ protocol.is_cleared h.kind
  unfolding with_element
  cleared_is = ap (λ (w : BoardMessage). protocol.is_cleared w.kind) (sym says)

  -- ---- it is awaited

  module _ {t : Taken} (e : Some t ≡ count_of cfg x h) where
    got : ((eqb h.operation x.operation && awaits_of x.phase h) ≡ true) × (taken_of cfg x.phase h ≡ t)
    got = answer_as (eqb h.operation x.operation && awaits_of x.phase h) (taken_of cfg x.phase h) t (sym e)

    due : awaited ≡ true
    due = awaited_is ∙ got.0

    -- a client y that moves as the protocol's does, with the record's element in its place
    moves : (y : State) → y.me ≡ x.me → y.length ≡ x.length → y.lengths ≡ length_placed m x.lengths → {es' sends' board' : List ℕ} {r : Moved}
        → es' ≡ placed cfg m l.elements → Moves cfg y (client_step cfg x message l) l.kept es' l.sends sends' l.board board' r
        → StepPost cfg x message l (lent l.kept es' sends' board') r
    moves y me same_length same_lengths {es'} taken s =
        let none : first_no (step_questions cfg x message l) ≡ 0 = number ∙ rw due in
        let is : eqb (first_no (step_questions cfg x message l)) 0 ≡ true = eq-eqb (first_no (step_questions cfg x message l)) 0 none in
        record {
          answered = moved cfg x (seen cfg x l) _ (client_step cfg x message l) l.sends (step_questions cfg x message l) none l.kept es' me s refl;
          ended = s.ended ∙ rw is;
          lent = s.lent ∙ rw is;
          kept = refl;
          elements = taken ∙ rw is;
          length = s.same_length ∙ same_length;
          lengths = s.same_lengths ∙ same_lengths ∙ rw is;
        }

    -- ---- it tells that the element was cleared

    pub asked_again : t ≡ Taken.Cleared → {sends' : List ℕ} {r : Moved} → AskAgainPost cfg x l.sends sends' r
        → StepPost cfg x message l (lent l.kept l.elements sends' l.board) r
    unfolding view placed_at length_placed_at
    asked_again c {sends'} {r} post =
        let told : protocol.is_cleared m.kind ≡ true = cleared_is ∙ cleared_as (protocol.is_cleared h.kind) (counting_of cfg x.phase h) (got.1 ∙ c) in
        let bare : m.element ≡ none = cleared_bare cfg x message (sizes_of l) k told in
        let again = step_again (boards.order cfg) (boards.encode cfg) (boards.decode cfg) cfg (client_number x.me) m (seen cfg x l) due told in
        moves x refl refl (rw bare) (rw bare) (rw again (post l.kept l.elements l.board))

    -- ---- it is counted

    module _ {p : Phase} (c : t ≡ Taken.Counted p) (es' : List ℕ) (taken : es' ≡ placed cfg (with_element cfg h message) l.elements)
        (same : length es' ≡ length l.elements) (sixteen : length x.lengths ≡ 16) where
      abbrev later : State
      later = counted_of x p h

      abbrev l₁ : Lent
      l₁ = lent l.kept es' l.sends l.board

      counts : (protocol.is_cleared h.kind ≡ false) × (counting_of cfg x.phase h ≡ p)
      counts = counted_as (protocol.is_cleared h.kind) (counting_of cfg x.phase h) p (got.1 ∙ c)

      pub settles : SettlePre cfg later l₁
      unfolding counted_of
      settles =
          let long = lengths cfg x message (sizes_of l) k.lengths in
          record {
            valid = k.valid;
            within =
                all_in cfg later (self_in cfg x k.within)
                (subst (λ (q : Phase). phase_within cfg q ≡ true) counts.1 (counting_within cfg k.valid h server_in tag_ok x.phase (phase_in cfg x k.within)))
                (subst (λ (q : Phase). lengths_within cfg q x.length later.lengths ≡ true) counts.1
                (counting_lengths cfg k.valid h server_in tag_ok x.phase x.length x.lengths (omega (arith, sixteen, k.valid.n_high)) length_ok
                (phase_in cfg x k.within) (lengths-in cfg x k.within)));
            operation = operation_begun cfg x message (sizes_of l) k l.kept l.elements due;
            own =
                subst (OwnTag x.me) counts.1
                (own_counted cfg x h x.phase (write_own cfg x message (sizes_of l) k l.kept l.elements due));
            kept-length = long.0;
            elements-length = same ∙ long.1;
            sends-length = long.2;
            board-length = long.3;
          }

      -- the protocol's step is what the code goes on with
      step_is : client_step cfg x message l ≡ settle_of cfg later l₁
      unfolding protocol.client_step protocol.receives protocol.counted view counted_of
      step_is =
          rw (due, cleared_is ∙ counts.0)
          (ap (λ (q : BoardPhase). protocol.settle (boards.encode cfg) (boards.decode cfg) cfg (client_number x.me) (record { operation = x.operation; phase = q }))
          (ap (protocol.counting (boards.order cfg) (phase_of cfg x.phase (to_write x l.kept) (slots x l.elements))) (sym says)
          ∙ counting_is cfg k.valid h server_in tag_ok x.phase (phase_in cfg x k.within) (to_write x l.kept) (slots x l.elements) message
          (record { bytes = (lengths cfg x message (sizes_of l) k.lengths).1; lengths = omega (arith, sixteen, k.valid.n_high) })
          (omega (arith, message_length cfg x message (sizes_of l) k.lengths, k.valid.e_high))
          ∙ ap₂ (λ (q : Phase) (es : Slots). phase_of cfg q (to_write x l.kept) es) counts.1
          (ap₂ slots_of (sym (lengths_are cfg k.valid h server_in tag_ok message x.lengths)) (sym taken))))

      pub stepped : {sends' board' : List ℕ} {r : Moved} → SettlePost cfg later l₁ sends' board' r
          → StepPost cfg x message l (lent l.kept es' sends' board') r
      unfolding counted_of
      stepped s =
          moves later refl refl
          (lengths_are cfg k.valid h server_in tag_ok message x.lengths ∙ ap (λ (w : BoardMessage). length_placed w x.lengths) says)
          (taken ∙ ap (λ (w : BoardMessage). placed cfg w l.elements) says) (rw step_is s)
