-- What a client's calls show besides: a fresh client passes question 6, and every call keeps that; a record handed over again is not
-- counted again; none is taken in an operation that was not begun; a client that has q answers asks no more; a reader that is told that
-- the element was cleared asks again, or ends spent at the last operation number; but for that an operation ends only on answers of at least q
-- distinct servers in its last phase, and a read on k elements; no answer depends on lengths and bytes that are not in use, nor on what
-- stands past the length in the board kept.
-- Assumes nothing.
use mathlib.Core.Logic.{◌⊎◌, inl, inr}
use mathlib.Core.Path.{◌≡◌, refl, sym, ap, ap₂, ◌∙◌, subst}
use mathlib.Core.Bool.{Bool, true, false, cond, ◌&&◌, false≢true}
use mathlib.Core.List.{List, [], ◌∷◌, ◌++◌}
use mathlib.Core.Option.{Option, none, some}
use Prim.Native.Nat.{ℕ, ◌+◌, ◌-◌, ◌*◌, ◌≤◌, ◌<◌}
use native.Mathlib.Omega.{arith}
use borrow.Author.Tests.{eq-eqb, eqb-true}
use lib.Dec.{eqb, ltb}
use lib.ListN.{length, take, drop, length-append, length-drop, length-take}
use Rattle.laws.proofs.Bools.{and_left}
use Rattle.config.specs.declared.Client.{Client}
use Rattle.config.specs.declared.Config.{Config}
use Rattle.config.specs.Config.{questions, quorum_of}
use Rattle.config.specs.Number.{client_number, client_questions}
use Rattle.config.specs.Questions.{ask, first_no, within}
use Rattle.config.proofs.Questions.{last_all, questions_numbered}
use Rattle.tag.specs.declared.Tag.{Tag}
use Rattle.tag.specs.Tag.{start}
use Rattle.record.specs.Kinds.{is_for_client}
use Rattle.record.specs.Record.{element_in, highest_number, kind_at, kind_number, length_at, message_of, present_at, server_at, tag_at, well_formed}
use Rattle.record.specs.Element.{Element, element_with}
use Rattle.record.proofs.Clauses.{its_kind, kind-number}
use Rattle.protocol.specs.Boards as boards
use Rattle.protocol.specs.Boards.{Board, BoardClient, BoardEnded, BoardMessage, BoardMoved, BoardPhase, cut}
use Rattle.protocol.specs.Client as protocol
use Rattle.protocol.specs.Number.{count, nobody, present, upd}
use Rattle.protocol.proofs.Basics.{cond_elim, length_to_each}
use Rattle.protocol.proofs.Cut.{length_cut}
use Rattle.client.specs.declared.Ended.{Ended}
use Rattle.client.specs.declared.Ended.TheVariants.{Nothing, Written, Spent, Read}
use Rattle.client.specs.declared.Moved.{Moved}
use Rattle.client.specs.declared.Phase.{Phase}
use Rattle.client.specs.declared.Phase.TheVariants.{Idle, Asking, PreWriting, FinalisingWrite, FinalisingRead, Down}
use Rattle.client.specs.declared.State.{State}
use Rattle.client.specs.Calls.{BeginPost, CrashPost, StepPost, client_step, ended_of, fresh_state, in_phase, shown, step_of, unless_no}
use Rattle.client.specs.Questions.{call_questions, crash_questions, step_questions, step_sized}
use Rattle.client.specs.Again.{AsksAgain, EndsSpent, Finalises, ReadSpent, Untouched, WriteSpent, is_write}
use Rattle.client.specs.Quorum.{AlikeStates, AlikeSteps, Elements, OwnTag, Quorum, counted_in, phase_number}
use Rattle.client.specs.Send.{front, records_of}
use Rattle.client.specs.Servers.{member, within_servers}
use Rattle.client.specs.State.{Lent, Slots, bare, length_placed_at, lengths_within, phase_of, phase_within, placed, placed_at, received, seen, slot_at, slots, state_within, tag_within, to_write, view}
use Rattle.client.specs.inner.Questions.{Received}
use Rattle.client.proofs.Gathering.{has, present_count, sent_has}
use Rattle.protocol.proofs.Judged.{awaits_it, cleared_reads}
use Rattle.client.proofs.Once.{again, new}
use Rattle.client.proofs.Onward.{again_elim, step_again}
use Rattle.client.proofs.Phases.{phase_in, self_in, tag_in}
use Rattle.client.proofs.Quorum.{Fits, step_fits, step_on}
use Rattle.client.proofs.Receiving.{all_yes, cleared_bare, one_tag, operation_begun, received_number, write_own}
use Rattle.client.proofs.Seen.{asks_is, idle_is, nothing_is, reads_is, spent_is, within_alike, writes_is, writes_one}
use Rattle.client.proofs.Sets.{member_one, member_zero}
use Rattle.client.proofs.Stepping.{sizes_of}

-- ---- question 6

-- a fresh client passes question 6, and is the protocol's
pub fresh_within : (cfg : Config) (me : Client) → first_no (client_questions cfg (client_number me)) ≡ 0 → state_within cfg (fresh_state me) ≡ true
unfolding client_questions state_within phase_within lengths_within
fresh_within cfg me h =
    rw (last_all (questions cfg) 8 (within 1 cfg.c (client_number me)) (questions_numbered cfg) (omega arith) h).1

pub fresh_view : (cfg : Config) (me : Client) (kept es : List ℕ) → view cfg (fresh_state me) kept es ≡ protocol.fresh_client
unfolding view phase_of protocol.fresh_client
fresh_view cfg me kept es = refl

-- every call keeps that
pub begin_keeps : {cfg : Config} {refusal : ℕ} {x : State} {board : Option Board} {kept kept' es sends sends' : List ℕ} {r : Moved}
    → BeginPost cfg refusal x board kept kept' es sends sends' r → state_within cfg x ≡ true → state_within cfg r.state ≡ true
begin_keeps post = post.answered.within

pub step_keeps : {cfg : Config} {x : State} {message : List ℕ} {l l' : Lent} {r : Moved} → StepPost cfg x message l l' r → state_within cfg x ≡ true
    → state_within cfg r.state ≡ true
step_keeps post = post.answered.within

pub crash_keeps : {cfg : Config} {x : State} {r : Moved} → CrashPost cfg x r → state_within cfg x ≡ true → state_within cfg r.state ≡ true
unfolding state_within phase_within lengths_within
crash_keeps {cfg} {x} post w =
    subst (λ (y : State). state_within cfg y ≡ true) (sym post.state)
    (cond_elim (λ (y : State). state_within cfg y ≡ true) (eqb (first_no (crash_questions cfg x)) 0) (in_phase x Down) x (λ e. rw (self_in cfg x w)) (λ e. w))

-- a client that crashed is down, and keeps its operation number
pub crash_view : (cfg : Config) (x : State) (kept es : List ℕ)
    → view cfg (in_phase x Down) kept es ≡ record { operation = (view cfg x kept es).operation; phase = protocol.down }
unfolding view phase_of
crash_view cfg x kept es = refl

-- ---- questions 9, 10 and 11 ask nothing of a client's buffers

bare_phase : (cfg : Config) (a b : Board) (es fs : Slots) (p : Phase) → (protocol.is_up (phase_of cfg p a es) ≡ protocol.is_up (phase_of cfg p b fs))
    × (protocol.is_idle (phase_of cfg p a es) ≡ protocol.is_idle (phase_of cfg p b fs))
unfolding protocol.is_up protocol.is_idle phase_of
bare_phase cfg a b es fs Idle = (refl, refl)
bare_phase cfg a b es fs (Asking writes best counted) = (refl, refl)
bare_phase cfg a b es fs (PreWriting tag counted) = (refl, refl)
bare_phase cfg a b es fs (FinalisingWrite tag counted) = (refl, refl)
bare_phase cfg a b es fs (FinalisingRead tag counted sent) = (refl, refl)
bare_phase cfg a b es fs Down = (refl, refl)

pub bare_up : (cfg : Config) (x : State) (kept es : List ℕ) → protocol.is_up (view cfg x kept es).phase ≡ protocol.is_up (bare cfg x).phase
unfolding view
bare_up cfg x kept es = (bare_phase cfg (to_write x kept) (to_write x []) (slots x es) (slots x []) x.phase).0

pub bare_begin : (cfg : Config) (x : State) (kept es : List ℕ) → protocol.begin_questions (view cfg x kept es) ≡ protocol.begin_questions (bare cfg x)
unfolding protocol.begin_questions view
bare_begin cfg x kept es =
    let p = bare_phase cfg (to_write x kept) (to_write x []) (slots x es) (slots x []) x.phase in
    ap₂ (λ (a b : Bool). ask 9 a ∷ ask 10 b ∷ ask 11 (ltb x.operation protocol.highest_number) ∷ []) p.0 p.1

-- ---- a record that was taken

module _ (cfg : Config) (x : State) (message : List ℕ) (l l' : Lent) (r : Moved) (post : StepPost cfg x message l l' r)
    (taken : first_no (step_questions cfg x message l) ≡ 0) where
  abbrev m : BoardMessage
  m = message_of cfg message

  asked : Received cfg x message (sizes_of l) × (boards.awaited cfg (seen cfg x l) m ≡ true)
  asked = all_yes cfg x message (sizes_of l) (boards.awaited cfg (seen cfg x l) m) taken

  -- the client after the step is the protocol's
  moved : seen cfg r.state l' ≡ (boards.client_step cfg (client_number x.me) (seen cfg x l) m).client
  moved = post.answered.client ∙ rw (eq-eqb (first_no (step_questions cfg x message l)) 0 taken)

  -- which awaits it no more
  not_again : boards.awaited cfg (seen cfg r.state l') m ≡ false
  not_again =
      ap (λ (y : BoardClient). boards.awaited cfg y m) moved
      ∙ again (boards.order cfg) (boards.encode cfg) (boards.decode cfg) cfg (client_number x.me) m (seen cfg x l) asked.1

  -- handed over again it is refused with 14
  pub doubled : (l'' : Lent) → l''.kept ≡ l'.kept → l''.elements ≡ l'.elements
      → step_sized cfg (length message) (length l''.kept) (length l''.elements) (length l''.sends) (length l''.board) ≡ true
      → first_no (step_questions cfg r.state message l'') ≡ 14
  doubled l'' k e sized =
      let out : boards.awaited cfg (seen cfg r.state l'') m ≡ false = rw (k, e) not_again in
      received_number cfg r.state message (sizes_of l'')
      (record {
        valid = asked.0.valid;
        within = post.answered.within asked.0.within;
        lengths = sized;
        well-formed = asked.0.well-formed;
        for_me = ap (λ (c : Client). eqb m.client (client_number c) && is_for_client m.kind) post.answered.self ∙ asked.0.for_me;
      })
      (boards.awaited cfg (seen cfg r.state l'') m)
      ∙ rw out

  -- a record is taken only of a client whose operation number is at least 1 and, of a write's phase, whose tag is its own
  pub begun : (1 ≤ x.operation) × OwnTag x.me x.phase
  begun = (
    operation_begun cfg x message (sizes_of l) asked.0 l.kept l.elements asked.1,
    write_own cfg x message (sizes_of l) asked.0 l.kept l.elements asked.1,
  )

  -- asking, with at least q servers counted: it asks no more
  pub goes_on : (writes : Bool) (best : Tag) (counted : ℕ) → x.phase ≡ Asking writes best counted → Quorum cfg message counted
      → phase_number (seen cfg r.state l').phase ≡ 1 → ⊥
  unfolding view phase_of message_of
  goes_on writes best counted e q =
      let b = cond writes (some (to_write x l.kept)) none in
      let is : seen cfg x l ≡ record { operation = x.operation; phase = protocol.asking b best (member counted) } =
      ap (λ (p : Phase). record { operation = x.operation; phase = phase_of cfg p (to_write x l.kept) (slots x l.elements) }) e in
      subst (λ (y : BoardClient). phase_number y.phase ≡ 1 → ⊥) (sym (moved ∙ ap (λ (y : BoardClient). (boards.client_step cfg (client_number x.me) y m).client) is))
      (step_on (boards.order cfg) (boards.encode cfg) (boards.decode cfg) cfg (client_number x.me) m x.operation b best (member counted)
      (subst (λ (y : BoardClient). boards.awaited cfg y m ≡ true) is asked.1) q)

  -- ---- of kind 9: with k elements received or not

  module _ (nine : kind_at message ≡ 9) where
    told : protocol.is_cleared m.kind ≡ true
    unfolding message_of
    told = eq-eqb (kind_number m.kind) 9 (kind-number (kind_at message) (its_kind cfg message asked.0.well-formed) ∙ nine)

    -- it is taken only of a reader that finalises its tag, and of a server not counted
    pub finalises : Finalises message x.phase
    unfolding view message_of phase_within
    finalises =
        let awaits = awaits_it (boards.order cfg) m (seen cfg x l) asked.1 in
        let reads = cleared_reads (boards.order cfg) m told (seen cfg x l).phase awaits in
        let p = reads_is cfg (to_write x l.kept) (slots x l.elements) x.phase reads.tag reads.counted reads.elements reads.phase in
        let in-limits : phase_within cfg (FinalisingRead reads.tag p.0 p.1) ≡ true =
        ap (phase_within cfg) (sym p.2) ∙ phase_in cfg x asked.0.within in
        let allows = tag_in cfg reads.tag p.0 (and_left (tag_within cfg reads.tag p.0) (within_servers cfg.n p.1) in-limits) in
        let tag : tag_at message ≡ reads.tag = one_tag cfg x message (sizes_of l) asked.0 reads.tag allows reads.same in
        record {
          counted = p.0;
          sent = p.1;
          phase = p.2 ∙ ap (λ (t : Tag). FinalisingRead t p.0 p.1) (sym tag);
          new =
              ap (λ (f : ℕ → Bool). f (server_at message)) p.3
              ∙ ap (λ (q : BoardPhase). counted_in q (server_at message)) (sym reads.phase) ∙ new (boards.order cfg) m (seen cfg x l).phase awaits;
        }

    -- the step is the protocol's
    asks : step_of cfg x message l ≡ protocol.ask_again cfg (client_number x.me) x.operation
    unfolding view
    asks =
        rw (eq-eqb (first_no (step_questions cfg x message l)) 0 taken)
        (step_again (boards.order cfg) (boards.encode cfg) (boards.decode cfg) cfg (client_number x.me) m (seen cfg x l) asked.1 told)

    untouched : Untouched x l l' r
    unfolding placed_at length_placed_at protocol.ends
    untouched =
        let is = eq-eqb (first_no (step_questions cfg x message l)) 0 taken in
        let bare-one : m.element ≡ none = cleared_bare cfg x message (sizes_of l) asked.0 told in
        record {
          length = post.length;
          lengths = post.lengths ∙ rw (is, bare-one);
          kept = post.kept;
          elements = post.elements ∙ rw (is, bare-one);
          board =
              post.lent ∙ ap (λ (z : BoardMoved). shown z.ended l.board) asks
              ∙ again_elim cfg (client_number x.me) x.operation (λ (z : BoardMoved). shown z.ended l.board ≡ l.board) (λ below. refl) (λ last. refl);
        }

    -- below the last operation number it asks again
    pub asks_again : x.operation < highest_number → AsksAgain cfg x l l' r
    unfolding view protocol.send_each
    asks_again below =
        let queries : BoardMoved = protocol.send_queries cfg (client_number x.me) (x.operation + 1) none in
        let move : step_of cfg x message l ≡ queries =
        asks ∙ again_elim cfg (client_number x.me) x.operation (λ (z : BoardMoved). z ≡ queries) (λ b. refl) (λ last. absurd (omega arith)) in
        let client : seen cfg r.state l' ≡ queries.client = post.answered.client ∙ ap (λ (z : BoardMoved). z.client) move in
        let p = asks_is cfg (to_write r.state l'.kept) (slots r.state l'.elements) r.state.phase none start nobody (ap (λ (y : BoardClient). y.phase) client) in
        let reads : p.0 ≡ false = writes_one (to_write r.state l'.kept) (to_write x []) p.0 false p.4 in
        let nobody-counted : p.1 ≡ 0 = member_one p.1 0 (p.3 ∙ sym member_zero) in
        record {
          phase = p.2 ∙ ap₂ (λ (w : Bool) (c : ℕ). Asking w start c) reads nobody-counted;
          operation = ap (λ (y : BoardClient). y.operation) client;
          count = post.answered.count ∙ ap (λ (z : BoardMoved). length z.sends) move ∙ length_to_each cfg.n _;
          out = post.answered.out ∙ ap (λ (z : BoardMoved). front (records_of cfg z.sends) l.sends) move;
          ended = nothing_is r.ended l'.board (post.ended ∙ ap (λ (z : BoardMoved). z.ended) move);
          others = untouched;
        }

    -- at the last its read ends spent
    pub ends_spent : highest_number ≤ x.operation → EndsSpent x l l' r
    unfolding view protocol.ends records_of
    ends_spent last =
        let end : BoardMoved = protocol.ends x.operation protocol.spent in
        let move : step_of cfg x message l ≡ end =
        asks ∙ again_elim cfg (client_number x.me) x.operation (λ (z : BoardMoved). z ≡ end) (λ below. absurd (omega arith)) (λ h. refl) in
        let client : seen cfg r.state l' ≡ end.client = post.answered.client ∙ ap (λ (z : BoardMoved). z.client) move in
        record {
          phase = idle_is cfg (to_write r.state l'.kept) (slots r.state l'.elements) r.state.phase (ap (λ (y : BoardClient). y.phase) client);
          operation = ap (λ (y : BoardClient). y.operation) client;
          count = post.answered.count ∙ ap (λ (z : BoardMoved). length z.sends) move;
          out = post.answered.out ∙ ap (λ (z : BoardMoved). front (records_of cfg z.sends) l.sends) move;
          ended = spent_is r.ended l'.board (post.ended ∙ ap (λ (z : BoardMoved). z.ended) move);
          others = untouched;
        }

-- ---- an operation's end

module _ (cfg : Config) (x : State) (message : List ℕ) (l l' : Lent) (r : Moved) (post : StepPost cfg x message l l' r) where
  -- nothing ends on a refusal
  pub ends_taken : (r.ended ≡ Nothing → ⊥) → first_no (step_questions cfg x message l) ≡ 0
  unfolding protocol.stays
  ends_taken ends = eqb-true (first_no (step_questions cfg x message l)) 0 (go (eqb (first_no (step_questions cfg x message l)) 0) post.ended)
    where
      go : (b : Bool) → ended_of r.ended l'.board ≡ (cond b (client_step cfg x message l) (protocol.stays (seen cfg x l))).ended → b ≡ true
      go true e = refl
      go false e = absurd (ends (nothing_is r.ended l'.board e))

  abbrev msg : BoardMessage
  msg = message_of cfg message

  abbrev Ends : BoardEnded → Type 0
  Ends = Fits (boards.order cfg) (boards.encode cfg) (boards.decode cfg) cfg (client_number x.me) msg x.operation (phase_of cfg x.phase (to_write x l.kept) (slots x l.elements))

  pub fits : (how : Ended) → r.ended ≡ how → Ends (ended_of how l'.board)
  unfolding protocol.stays view
  fits how e =
      subst Ends (sym post.ended ∙ ap (λ (h : Ended). ended_of h l'.board) e)
      (cond_elim (λ (y : BoardMoved). Ends y.ended) (eqb (first_no (step_questions cfg x message l)) 0) (client_step cfg x message l) (protocol.stays (seen cfg x l))
      (λ h. step_fits (boards.order cfg) (boards.encode cfg) (boards.decode cfg) cfg (client_number x.me) msg (seen cfg x l)) (λ h. tt))

  quorum_is : (counted : ℕ) (cs : ℕ → Bool) → member counted ≡ cs → quorum_of cfg ≤ count (upd cs msg.server true) cfg.n → Quorum cfg message counted
  unfolding message_of
  quorum_is counted cs e q = subst (λ (f : ℕ → Bool). quorum_of cfg ≤ count (upd f (server_at message) true) cfg.n) (sym e) q

  elements_are : (sent : ℕ) (got : ℕ → Option Element) → received cfg (slots x l.elements) sent ≡ got
      → cfg.k ≤ length (present cfg.n (upd got msg.server msg.element)) → Elements cfg message sent
  unfolding upd message_of received
  elements_are sent got i many = omega (arith, present_count (upd got (server_at message) msg.element) (upd (member sent) (server_at message) (present_at message)) here cfg.n)
    where
      its : (b : Bool) → has (cond b (some (element_with (length_at message) (element_in cfg message))) none) ≡ b
      its true = refl
      its false = refl

      here : (t : ℕ) → has (upd got (server_at message) msg.element t) ≡ upd (member sent) (server_at message) (present_at message) t
      here t = go (eqb t (server_at message))
        where
          go : (b : Bool) → has (cond b msg.element (got t)) ≡ cond b (present_at message) (member sent t)
          go true = its (present_at message)
          go false = rw (sym i) (sent_has (slot_at cfg (slots x l.elements)) sent t)

  -- a write ends only so
  pub written_on_quorum : (t : Tag) → r.ended ≡ Written t → (counted : ℕ) × (x.phase ≡ FinalisingWrite t counted) × Quorum cfg message counted
  written_on_quorum t e =
      let w = fits (Written t) e in
      let p = writes_is cfg (to_write x l.kept) (slots x l.elements) x.phase t w.0 w.1 in
      (p.0, p.1, quorum_is p.0 w.0 p.2 w.2)

  -- an operation ends spent as a write does, on a quorum, or as a read does, on a kind 9
  pub spent_so : r.ended ≡ Spent → WriteSpent cfg message x.phase ⊎ ReadSpent message x
  unfolding message_of
  spent_so e = go (fits Spent e)
    where
      taken : first_no (step_questions cfg x message l) ≡ 0
      taken = ends_taken (λ none. let z : ◌≡◌ {A = ℕ} 0 1 = cc in omega arith)

      formed : well_formed cfg message ≡ true
      formed = (all_yes cfg x message (sizes_of l) (boards.awaited cfg (seen cfg x l) msg) taken).0.well-formed

      go : Ends protocol.spent → WriteSpent cfg message x.phase ⊎ ReadSpent message x
      go (inl w) =
          let p = asks_is cfg (to_write x l.kept) (slots x l.elements) x.phase (some w.0) w.1 w.2 w.3 in
          let writes : p.0 ≡ true = writes_one (to_write x l.kept) w.0 p.0 true p.4 in
          inl
          (record {
            best = w.1;
            counted = p.1;
            phase = p.2 ∙ ap (λ (b : Bool). Asking b w.1 p.1) writes;
            quorum = quorum_is p.1 w.2 p.3 w.4;
            last = w.5;
          })
      go (inr w) =
          let nine : kind_at message ≡ 9 = sym (kind-number (kind_at message) (its_kind cfg message formed)) ∙ eqb-true (kind_number msg.kind) 9 w.0 in
          inr (record { kind = nine; finalises = finalises cfg x message l l' r post taken nine; last = w.2 })

  -- a write only as a write does
  pub write_spent : r.ended ≡ Spent → is_write x.phase ≡ true → WriteSpent cfg message x.phase
  write_spent e write = go (spent_so e)
    where
      go : WriteSpent cfg message x.phase ⊎ ReadSpent message x → WriteSpent cfg message x.phase
      go (inl w) = w
      go (inr w) = absurd (false≢true (sym (ap is_write w.finalises.phase) ∙ write))

  -- and a read only as a read does
  pub read_spent : r.ended ≡ Spent → is_write x.phase ≡ false → ReadSpent message x
  read_spent e read = go (spent_so e)
    where
      go : WriteSpent cfg message x.phase ⊎ ReadSpent message x → ReadSpent message x
      go (inl w) = absurd (false≢true (sym read ∙ ap is_write w.phase))
      go (inr w) = w

  -- a read ends with a board as a write ends, with at least k elements
  pub read_on_quorum : (t : Tag) (n : ℕ) → r.ended ≡ Read t n
      → (counted sent : ℕ) × (x.phase ≡ FinalisingRead t counted sent) × Quorum cfg message counted × Elements cfg message sent
  read_on_quorum t n e =
      let w = fits (Read t n) e in
      let p = reads_is cfg (to_write x l.kept) (slots x l.elements) x.phase t w.0 w.1 w.2 in
      (p.0, p.1, p.2, quorum_is p.0 w.0 p.3 w.3, elements_are p.1 w.1 p.4 w.4)

-- ---- lengths and bytes that are not in use

-- the bytes of an element are put into buffers of one length alike
placed_long : (cfg : Config) (s : ℕ) (e : Option Element) (es fs : List ℕ) → length es ≡ length fs → length (placed_at cfg s e es) ≡ length (placed_at cfg s e fs)
unfolding placed_at
placed_long cfg s none es fs h = h
placed_long cfg s (some e) es fs h =
    let at = (s - 1) * cfg.e in
    length-append (take at es) (e.bytes ++ drop (at + cfg.e) es)
    ∙ omega (
      arith,
      h,
      length-append e.bytes (drop (at + cfg.e) es),
      length-append e.bytes (drop (at + cfg.e) fs),
      length-take at es,
      length-take at fs,
      length-drop (at + cfg.e) es,
      length-drop (at + cfg.e) fs,
    )
    ∙ sym (length-append (take at fs) (e.bytes ++ drop (at + cfg.e) fs))

-- "no answer's bytes depend on" what is not in use: of two states of one client that differ only there, with boards kept and elements
-- received that differ only there
module _ (cfg : Config) (x y : State) (message : List ℕ) (la la' lb lb' : Lent) (a b : Moved) (alike : AlikeStates cfg x y la lb) (sends-one : la.sends ≡ lb.sends)
    (board-one : la.board ≡ lb.board) (post-a : StepPost cfg x message la la' a) (post-b : StepPost cfg y message lb lb' b) where
  within_one : state_within cfg x ≡ state_within cfg y
  within_one = within_alike cfg x y la.kept lb.kept la.elements lb.elements alike.me alike.client

  first_one : first_no (step_questions cfg x message la) ≡ first_no (step_questions cfg y message lb)
  unfolding call_questions
  first_one = λ i. first_no (questions cfg ++ ask 6 (step_sized cfg (length message) (alike.kept_long i) (alike.elements_long i) (length (sends-one i)) (length (board-one i)) && within_one i)
      ∷ ask 12 (well_formed cfg message) ∷ ask 16 (eqb (message_of cfg message).client (client_number (alike.me i)) && is_for_client (message_of cfg message).kind)
      ∷ ask 14 (boards.awaited cfg (alike.client i) (message_of cfg message)) ∷ [])

  move_one : step_of cfg x message la ≡ step_of cfg y message lb
  move_one = λ i. unless_no (first_one i) (alike.client i) (boards.client_step cfg (client_number (alike.me i)) (alike.client i) (message_of cfg message))

  elements_one : length la'.elements ≡ length lb'.elements
  elements_one =
      let m = message_of cfg message in
      ap length post-a.elements
      ∙ cond_elim (λ (l : List ℕ). length l ≡ length lb'.elements) (eqb (first_no (step_questions cfg x message la)) 0) (placed cfg m la.elements) la.elements
      (λ e. placed_long cfg m.server m.element la.elements lb.elements alike.elements_long
      ∙ sym (ap length post-b.elements ∙ rw (sym first_one, e)))
      (λ e. alike.elements_long ∙ sym (ap length post-b.elements ∙ rw (sym first_one, e)))

  pub step_alike : AlikeSteps cfg a b la' lb'
  step_alike =
      record {
        number = post-a.answered.number ∙ first_one ∙ sym post-b.answered.number;
        sent = post-a.answered.count ∙ ap (λ (z : BoardMoved). length z.sends) move_one ∙ sym post-b.answered.count;
        out =
            post-a.answered.out ∙ ap₂ (λ (z : BoardMoved) (s : List ℕ). front (records_of cfg z.sends) s) move_one sends-one ∙ sym post-b.answered.out;
        ended = post-a.ended ∙ ap (λ (z : BoardMoved). z.ended) move_one ∙ sym post-b.ended;
        lent = post-a.lent ∙ ap₂ (λ (z : BoardMoved) (l : List ℕ). shown z.ended l) move_one board-one ∙ sym post-b.lent;
        states =
            record {
              me = post-a.answered.self ∙ alike.me ∙ sym post-b.answered.self;
              kept_long = ap length post-a.kept ∙ alike.kept_long ∙ sym (ap length post-b.kept);
              elements_long = elements_one;
              client = post-a.answered.client ∙ ap (λ (z : BoardMoved). z.client) move_one ∙ sym post-b.answered.client;
            };
      }

-- Pre-writes are of the board kept with zeros past its length, whatever bytes stand there: boards kept that agree when they are cut there
-- are seen alike.
pub cut_alike : (cfg : Config) (x : State) (la lb : Lent) → cut x.length la.kept ≡ cut x.length lb.kept → la.elements ≡ lb.elements
    → AlikeStates cfg x x la lb
unfolding view
cut_alike cfg x la lb one es =
    record {
      me = refl;
      kept_long = sym (length_cut x.length la.kept) ∙ ap length one ∙ length_cut x.length lb.kept;
      elements_long = ap length es;
      client =
          λ i.
          record {
            operation = x.operation;
            phase = phase_of cfg x.phase (record { length = x.length; bytes = one i }) (slots x (es i));
          };
    }

-- a step with either sends the same, and leaves the same but for those bytes
pub step_cut : (cfg : Config) (x : State) (message : List ℕ) (la la' lb lb' : Lent) (a b : Moved) → cut x.length la.kept ≡ cut x.length lb.kept
    → la.elements ≡ lb.elements → la.sends ≡ lb.sends → la.board ≡ lb.board → StepPost cfg x message la la' a → StepPost cfg x message lb lb' b
    → AlikeSteps cfg a b la' lb'
step_cut cfg x message la la' lb lb' a b one es sends board post-a post-b =
    step_alike cfg x x message la la' lb lb' a b (cut_alike cfg x la lb one es) sends board post-a post-b
