-- What a step leaves, by the question that decides or by the kind of request. Assumes nothing.
use Rattle.std.proofs.Common.{Ok, Err, ◌≡◌, ℕ, ◌≤◌, Bool, true, false, cond, leb, List, length, get_or, sym, refl, ap, ◌∙◌, subst₂, arith, eq-eqb, ne_eqb, le-leb}
use mathlib.Core.Option.{Option, none, some}
use Rattle.config.specs.declared.Config.{Config}
use Rattle.config.specs.declared.Refusal.{Refusal}
use Rattle.config.specs.declared.Refusal.TheVariants.{Misdirected}
use Rattle.config.specs.declared.Server.{Server as ServerNumber}
use Rattle.config.specs.Number.{client_number, server_number}
use Rattle.config.specs.Questions.{first_no, within}
use Rattle.config.specs.Refusal.{refusal_number, verdict_number}
use Rattle.config.proofs.Refusals.{refusal_low}
use Rattle.tag.specs.declared.Tag.{Tag}
use Rattle.tag.specs.Tag.{allowed, key}
use Rattle.record.specs.declared.Header.{Header}
use Rattle.record.specs.declared.Kind.{Kind}
use Rattle.record.specs.declared.Kind.TheVariants.{Query, QueryAnswer, PreWrite, PreWriteAnswer, WriteFinalise, WriteFinaliseAnswer, ReadFinalise}
use Rattle.record.specs.Calls.{with_element}
use Rattle.record.specs.Element.{Element, element_with}
use Rattle.record.specs.Kinds.{is_for_server}
use Rattle.record.specs.Message.{Message}
use Rattle.record.specs.Record.{element_in, highest_number, is_present, kind_number, message_clauses, message_of, of_config, own_tag, presence, record_of}
use Rattle.record.proofs.Clauses.{all_at}
use Rattle.protocol.specs.Server.{Served, answer_to, element_of, finalised, pre_write, query, read_answer, read_finalise, server_step, server_step_of, store_element, write_finalise}
use Rattle.server.specs.declared.serve.Reply.{Reply}
use Rattle.server.specs.declared.State.{State}
use Rattle.server.specs.declared.Stepped.{Stepped}
use Rattle.server.specs.Calls.{StepPost, Steps, outcome, step_questions}
use Rattle.server.specs.inner.Keep.{KeepPost}
use Rattle.server.specs.inner.Receive.{ReceivePost}
use Rattle.server.specs.inner.Serve.{ReadFinalisePost, ReadFinalisePre, RespondPost, RespondPre, RequestPre, bare_of, raised, read_answered, reply, reply_of, request_number, unchanged}
use Rattle.server.specs.View.{view}
use Rattle.server.proofs.Answering.{bare_respond, raised_me, reply_of_config}
use Rattle.server.proofs.Limits.{state_highest, state_me}

-- refused: all holds
pub steps_refused : (cfg : Config) (s : State) (n : ℕ) (m : Message Element) (store answer : List ℕ) (r : Stepped) (why : Refusal)
    → r ≡ unchanged s why → refusal_number why ≡ n → Steps cfg s n m store answer store answer r
steps_refused cfg s n m store answer r why e v =
    let refuses : n ≡ 0 → ⊥ = λ z. omega (arith, refusal_low why) in
    record {
      number = ap (λ (x : Stepped). verdict_number x.verdict) e ∙ v;
      me = ap (λ (x : Stepped). x.state.me) e;
      seen = λ z. absurd (refuses z);
      state = λ _. ap (λ (x : Stepped). x.state) e;
      store = λ _. refl;
      long = refl;
      answer = rw (ne_eqb n 0 refuses);
    }

-- one number or message for an equal one
pub steps_same : (cfg : Config) (s : State) (n k : ℕ) (m l : Message Element) (store answer storeAfter answerAfter : List ℕ) (r : Stepped) → n ≡ k → m ≡ l
    → Steps cfg s n m store answer storeAfter answerAfter r → Steps cfg s k l store answer storeAfter answerAfter r
steps_same cfg s n k m l store answer storeAfter answerAfter r e f p =
    subst₂ (λ (x : ℕ) (y : Message Element). Steps cfg s x y store answer storeAfter answerAfter r) e f p

-- a step, by what its first questions told: a no
pub step_refused : (cfg : Config) (s : State) (handed store answer : List ℕ) {why : Refusal}
    → ReceivePost cfg s handed (length store) (length answer) (Err why) → {r : Stepped} → r ≡ unchanged s why → StepPost cfg s handed store answer store answer r
step_refused cfg s handed store answer {why} told {r} is =
    steps_refused cfg s (first_no (step_questions cfg s handed (length store) (length answer))) (message_of cfg handed) store answer r why is told

-- or a request
pub step_served : (cfg : Config) (s : State) (handed store answer : List ℕ) (h : Header)
    → ReceivePost cfg s handed (length store) (length answer) (Ok h) → {after answerAfter : List ℕ} {r : Stepped}
    → Steps cfg s (request_number (with_element cfg h handed)) (with_element cfg h handed) store answer after answerAfter r
    → StepPost cfg s handed store answer after answerAfter r
step_served cfg s handed store answer h told {after} {answerAfter} {r} = steps_same cfg s _ _ _ _ store answer after answerAfter r told.2 told.1

module _ (cfg : Config) (s : State) (h : Header) (handed store answer : List ℕ) where
  abbrev m : Message Element
  m = with_element cfg h handed

  -- the protocol's step on a request of a known kind
  abbrev step_of : Kind → Served Element
  step_of k = server_step_of k (key cfg) cfg.d (server_number s.me) (view cfg s store) m

  outcome-of : (k : Kind) → h.kind ≡ k → outcome cfg s store m ≡ step_of k
  unfolding server_step with_element
  outcome-of k e = ap step_of e

  kind-of : (k : Kind) → h.kind ≡ k → m.kind ≡ k
  unfolding with_element
  kind-of k e = e

  module _ (k : Kind) (e : h.kind ≡ k) where
    number_of : (b : Bool) → is_for_server k ≡ b → request_number m ≡ cond b 0 16
    number_of b v = ap (λ (x : Kind). cond (is_for_server x) 0 16) (kind-of k e) ∙ ap (λ (x : Bool). cond x 0 16) v

    -- answered
    pub steps_answered : is_for_server k ≡ true → (a : Message Element) → (step_of k).answer ≡ some a → (storeAfter answerAfter : List ℕ) (r : Stepped)
        → verdict_number r.verdict ≡ 0 → r.state.me ≡ s.me → view cfg r.state storeAfter ≡ (step_of k).server → length storeAfter ≡ length store
        → answerAfter ≡ record_of cfg a → Steps cfg s (request_number m) m store answer storeAfter answerAfter r
    steps_answered v a is storeAfter answerAfter r n me w l b =
        let zero_is : request_number m ≡ 0 = number_of true v in
        record {
          number = n ∙ sym zero_is;
          me = me;
          seen = λ _. w ∙ sym (ap (λ (x : Served Element). x.server) (outcome-of k e));
          state = λ f. absurd (f zero_is);
          store = λ f. absurd (f zero_is);
          long = l;
          answer = b ∙ rw (eq-eqb (request_number m) 0 zero_is, ap (λ (x : Served Element). x.answer) (outcome-of k e) ∙ is);
        }

    -- a kind that a server does not receive, 16
    pub steps_misdirected : is_for_server k ≡ false → (r : Stepped) → r ≡ unchanged s Misdirected
        → Steps cfg s (request_number m) m store answer store answer r
    steps_misdirected v r is =
        let sixteen : request_number m ≡ 16 = number_of false v in
        steps_refused cfg s (request_number m) m store answer r Misdirected is (sym sixteen)

  -- what a request's clauses say
  module _ (q : RequestPre cfg s h handed store answer) where
    rule : (i : ℕ) → get_or (message_clauses cfg m) i true ≡ true
    unfolding of_config
    rule i = all_at (message_clauses cfg m) q.of_config i

    operation_in : within 1 highest_number h.operation ≡ true
    unfolding message_clauses with_element
    operation_in = rule 0

    number_in : leb h.tag.number highest_number ≡ true
    unfolding message_clauses with_element
    number_in = rule 1

    own_in : (k : Kind) → h.kind ≡ k → own_tag (kind_number k) (client_number h.client) h.tag ≡ true
    unfolding message_clauses with_element
    own_in k e = ap (λ (x : Kind). own_tag (kind_number x) (client_number h.client) h.tag) (sym e) ∙ rule 4

    client_in : within 1 cfg.c (client_number h.client) ≡ true
    unfolding message_clauses with_element
    client_in = rule 6

    pub tag_in : allowed cfg.c h.tag ≡ true
    unfolding message_clauses with_element
    tag_in = rule 8

    me_in : within 1 cfg.n (server_number s.me) ≡ true
    me_in = state_me cfg s q.held.within

    -- its answers are messages of the configuration
    module _ (me : ServerNumber) (is : me ≡ s.me) where
      within_me : within 1 cfg.n (server_number me) ≡ true
      within_me = ap (λ (x : ServerNumber). within 1 cfg.n (server_number x)) is ∙ me_in

      bare_reply : (k : Kind) (t : Tag) → of_config cfg (reply me h k t none) ≡ true → (r : Reply) → r ≡ bare_of k t → (after : List ℕ) → length after ≡ 80
          → RespondPre cfg r (reply_of cfg me h r after) after
      bare_reply k t ok r e after long = bare_respond cfg me h k t r e after q.held.valid long ok

      pub query_reply : s.highest.number ≤ highest_number → (r : Reply) → r ≡ bare_of QueryAnswer s.highest → (after : List ℕ) → length after ≡ 80
          → RespondPre cfg r (reply_of cfg me h r after) after
      query_reply n =
          bare_reply QueryAnswer s.highest
          (reply_of_config cfg me h QueryAnswer s.highest none operation_in (le-leb s.highest.number highest_number n) refl refl refl refl
          client_in within_me (state_highest cfg s q.held.within))

      pub pre_write_reply : h.kind ≡ PreWrite → (r : Reply) → r ≡ bare_of PreWriteAnswer h.tag → (after : List ℕ) → length after ≡ 80
          → RespondPre cfg r (reply_of cfg me h r after) after
      pre_write_reply k =
          bare_reply PreWriteAnswer h.tag
          (reply_of_config cfg me h PreWriteAnswer h.tag none operation_in number_in refl refl (own_in PreWrite k) refl client_in within_me tag_in)

      pub write_reply : h.kind ≡ WriteFinalise → (r : Reply) → r ≡ bare_of WriteFinaliseAnswer h.tag → (after : List ℕ) → length after ≡ 80
          → RespondPre cfg r (reply_of cfg me h r after) after
      write_reply k =
          bare_reply WriteFinaliseAnswer h.tag
          (reply_of_config cfg me h WriteFinaliseAnswer h.tag none operation_in number_in refl refl (own_in WriteFinalise k) refl client_in within_me
          tag_in)

    pub finalising : ReadFinalisePre cfg s h store answer
    finalising =
        record {
          held = q.held;
          eighty = q.answer_eighty;
          operation = operation_in;
          client = client_in;
          number = number_in;
          allowed = tag_in;
        }

    -- a pre-write carries an element
    present_by : (b : Bool) → presence 3 b ≡ true → b ≡ true
    present_by true p = refl
    present_by false p = p

    carried_by : (b : Bool) (x : Element) → is_present (cond b (some x) none) ≡ b
    carried_by true x = refl
    carried_by false x = refl

    present-in : h.kind ≡ PreWrite → h.present ≡ true
    unfolding message_clauses with_element
    present-in k =
        present_by h.present
        (sym (ap (λ (b : Bool). presence 3 b) (carried_by h.present (element_with h.length (element_in cfg handed))))
        ∙ ap (λ (x : Kind). presence (kind_number x) (is_present (cond h.present (some (element_with h.length (element_in cfg handed))) none))) (sym k) ∙ rule 5)

    -- each kind of request, served
    pub serve_query : h.kind ≡ Query → (answerAfter : List ℕ) (r : Stepped) → RespondPost cfg s (reply s.me h QueryAnswer s.highest none) answerAfter r
        → Steps cfg s (request_number m) m store answer store answerAfter r
    unfolding server_step_of query answer_to with_element reply view
    serve_query k answerAfter r p =
        steps_answered Query k refl _ refl store answerAfter r p.number (ap (λ (x : State). x.me) p.state)
        (ap (λ (x : State). view cfg x store) p.state) refl p.answer

    pub serve_write : h.kind ≡ WriteFinalise → (after : State) → after ≡ raised cfg s h.tag → (answerAfter : List ℕ) (r : Stepped)
        → RespondPost cfg after (reply after.me h WriteFinaliseAnswer h.tag none) answerAfter r
        → Steps cfg s (request_number m) m store answer store answerAfter r
    unfolding server_step_of write_finalise finalised answer_to with_element reply view raised
    serve_write k after is answerAfter r p =
        let me : after.me ≡ s.me = ap (λ (x : State). x.me) is in
        steps_answered WriteFinalise k refl _ refl store answerAfter r p.number (ap (λ (x : State). x.me) (p.state ∙ is))
        (ap (λ (x : State). view cfg x store) (p.state ∙ is)) refl
        (p.answer ∙ ap (λ (x : ServerNumber). record_of cfg (reply x h WriteFinaliseAnswer h.tag none)) me)

    pub serve_pre_write : h.kind ≡ PreWrite → (after : State) (storeAfter : List ℕ) → KeepPost cfg s h.tag h.length (element_in cfg handed) store storeAfter after
        → (answerAfter : List ℕ) (r : Stepped) → RespondPost cfg after (reply after.me h PreWriteAnswer h.tag none) answerAfter r
        → Steps cfg s (request_number m) m store answer storeAfter answerAfter r
    unfolding server_step_of pre_write store_element answer_to with_element reply
    serve_pre_write k after storeAfter post answerAfter r p =
        steps_answered PreWrite k refl _ refl storeAfter answerAfter r p.number (ap (λ (x : State). x.me) p.state ∙ post.me)
        (ap (λ (x : State). view cfg x storeAfter) p.state ∙ post.seen ∙ rw (present-in k)) post.long
        (p.answer ∙ ap (λ (x : ServerNumber). record_of cfg (reply x h PreWriteAnswer h.tag none)) post.me)

    -- the answer of a read finalise, by the header or by the record's message
    same_answer : (o : Option Element) → read_answer (key cfg) (server_number s.me) (view cfg s store).floor m o
        ≡ read_answer (key cfg) (server_number s.me) (view cfg s store).floor (reply s.me h h.kind h.tag none) o
    unfolding read_answer answer_to with_element reply
    same_answer none = refl
    same_answer (some x) = refl

    read_answer_of : (step_of ReadFinalise).answer ≡ some (read_answered s h store cfg)
    unfolding server_step_of read_finalise with_element
    read_answer_of = ap some (same_answer (element_of (key cfg) h.tag (view cfg s store).stored))

    read_server_of : view cfg (raised cfg s h.tag) store ≡ (step_of ReadFinalise).server
    unfolding server_step_of read_finalise finalised with_element view raised
    read_server_of = refl

    pub serve_read : h.kind ≡ ReadFinalise → (answerAfter : List ℕ) (r : Stepped) → ReadFinalisePost cfg s h store answerAfter r
        → Steps cfg s (request_number m) m store answer store answerAfter r
    serve_read k answerAfter r f =
        steps_answered ReadFinalise k refl (read_answered s h store cfg) read_answer_of store answerAfter r f.number (raised_me cfg s h.tag f.state)
        (ap (λ (x : State). view cfg x store) f.state ∙ read_server_of) refl f.answer
