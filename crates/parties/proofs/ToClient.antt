-- A record handed to a client: its questions, and what is left of them.
use Rattle.std.proofs.Common.{Ok, Err}
use Prim.Native.Nat.{ℕ, ◌+◌, ◌≤◌}
use mathlib.Core.Path.{◌≡◌, refl, sym, ap, ap₂, subst, ◌∙◌}
use mathlib.Core.Bool.{Bool, true, false, cond, not, ◌&&◌, true≢false}
use mathlib.Core.List.{List, [], ◌∷◌, ◌++◌, append_assoc}
use mathlib.Core.Option.{Option, none, some}
use native.Mathlib.Omega.{arith}
use native.Mathlib.Decide.{ℕ_discrete}
use borrow.Author.Tests.{ne_eqb, eqb-true}
use lib.Dec.{eqb, ltb}
use lib.ListN.{length}
use Rattle.laws.proofs.Bools.{and_left, and_right}
use Rattle.config.specs.declared.Config.{Config}
use Rattle.config.specs.declared.Refusal.{Refusal}
use Rattle.config.specs.Refusal.{Verdict}
use Rattle.config.specs.Config.{Valid, questions}
use Rattle.config.specs.Number.{client_number, server_number}
use Rattle.config.specs.Questions.{Question, ask, first_no, numbered, within}
use Rattle.config.specs.Refusal.{refusal_number, verdict_number}
use Rattle.config.proofs.Questions.{first_no_pass, first_no_stop, lacks, no_such, none_first, none_rest, questions_numbered, yes_next}
use Rattle.config.proofs.Valid.{valid}
use Rattle.tag.specs.declared.Tag.{Tag}
use Rattle.tag.specs.Tag.{key}
use Rattle.record.specs.declared.Kind.{Kind}
use Rattle.record.specs.Kinds.{is_for_client, is_for_server}
use Rattle.record.specs.Element.{Element}
use Rattle.record.specs.Record.{highest_number, is_present, kind_number, message_clauses, message_of, of_config, presence, well_formed}
use Rattle.record.proofs.Clauses.{all_at}
use Rattle.laws.specs.Bytes.{Bytes}
use Rattle.record.proofs.Laws.{message_of_config}
use Rattle.record.proofs.Parties.{number_low}
use Rattle.server.specs.View as serverView
use Rattle.server.specs.Within.{state_within as server_state_within}
use Rattle.client.specs.declared.Ended.{Ended}
use Rattle.client.specs.declared.Ended.TheVariants.{Nothing, Written, Spent, Read}
use Rattle.client.specs.declared.Moved.{Moved}
use Rattle.client.specs.declared.State as client
use Rattle.client.specs.Calls.{StepPost, client_step, ended_of, shown, unless_no}
use Rattle.client.specs.Questions.{call_questions, is_for, step_questions, step_sized}
use Rattle.client.specs.Send.{front, records_of}
use Rattle.client.specs.State as clientView
use Rattle.client.specs.State.{lent, placed, placed_at, state_within}
use Rattle.client.proofs.Phases.{self_in}
use Rattle.protocol.specs.Boards.{Board, BoardClient, BoardMessage, BoardMoved, BoardParties, BoardPhase, decode, encode, order}
use Rattle.protocol.specs.Client as protocol
use Rattle.protocol.specs.Client.{idle, asking, pre_writing, finalising_write, finalising_read, down, ask_again, asked, awaited, awaits, counted, counting, end_read, ends, enough, enough_to_read, nothing, send_pre_writes, send_read_finalises, send_write_finalises, settle, settling, spent, stays, is_cleared, receives, send_queries}
use Rattle.protocol.specs.Parties as parties
use Rattle.protocol.specs.Parties.{with_pair}
use Rattle.protocol.proofs.Basics.{cond_elim}
use Rattle.protocol.proofs.Judged.{awaits_it, first_kind, of-tag}
use Rattle.protocol.proofs.Pairs.{deliver_client}
use Rattle.parties.specs.declared.Acted.{Acted}
use Rattle.parties.specs.declared.Pair.{Pair}
use Rattle.parties.specs.Acts.{ActPost, ClientPost, Parts, among, delivers, parts, to_client_questions}
use Rattle.parties.specs.inner.Acted.{ended_by, moved_on, quietly, refusing}
use Rattle.parties.proofs.Acts.{accepted_act, its_answer, not_read, refused_act}
use Rattle.protocol.proofs.Formed.{step_fits}
use Rattle.parties.proofs.Formed.{NumberedPhase, client_seen_fits}

-- ---- a step that sends takes no element and ends nothing

absent : (o : Option Element) → not (is_present o) ≡ true → o ≡ none
absent none h = refl
absent (some e) h = absurd (true≢false (sym h))

module _ (cfg : Config) (c : ℕ) (w : BoardMessage) (of : of_config cfg w ≡ true) where
  abbrev step : BoardClient → BoardMoved
  step x = protocol.client_step (key cfg) (encode cfg) (decode cfg) cfg c x w

  abbrev Bare : BoardMoved → Type 0
  Bare y = (w.element ≡ none) × (y.ended ≡ nothing)

  abbrev Sends : BoardMoved → Type 0
  Sends y = length y.sends ≡ 0 → ⊥

  -- a kind that has no element
  bare : (k : ℕ) → ((b : Bool) → presence k b ≡ not b) → kind_number w.kind ≡ k → w.element ≡ none
  unfolding of_config message_clauses
  bare k lacks-one e =
      absent w.element
      (sym (lacks-one (is_present w.element)) ∙ ap (λ n. presence n (is_present w.element)) (sym e) ∙ all_at (message_clauses cfg w) of 5)

  abbrev Quiet : BoardMoved → Type 0
  Quiet y = Sends y → y.ended ≡ nothing

  asked_quiet : (o : ℕ) (b : Option Board) (t : Tag) → Quiet (asked (encode cfg) cfg c o b t)
  unfolding asked send_read_finalises send_pre_writes ends
  asked_quiet o none t s = refl
  asked_quiet o (some v) t s = cond_elim Quiet (ltb t.number highest_number) _ (ends o spent) (λ _ _. refl) (λ _ s. absurd (s refl)) s

  abbrev settles : ℕ → BoardPhase → BoardMoved
  settles o p = settling (encode cfg) (decode cfg) cfg c o p

  abbrev Silent : BoardMoved → Type 0
  Silent y = Sends y → ⊥

  by_phase : (o : ℕ) (p : BoardPhase) → awaits (key cfg) p w ≡ true → Sends (settles o (counting (key cfg) p w)) → Bare (settles o (counting (key cfg) p w))
  unfolding awaits counting settling stays send_write_finalises ends end_read
  by_phase o idle h s = absurd (s refl)
  by_phase o (asking b t cs) h s =
      (bare 2 (λ b. refl) (first_kind 2 cs w (λ e. omega arith) h), cond_elim Quiet (enough cfg _) _ _ (λ _. asked_quiet o b _) (λ _ _. refl) s)
  by_phase o (pre_writing t cs) h s =
      (bare 4 (λ b. refl) (first_kind 4 cs w (λ e. omega arith) (of-tag (key cfg) 4 cs w t h).0), cond_elim Quiet (enough cfg _) _ _ (λ _ _. refl) (λ _ _. refl) s)
  by_phase o (finalising_write t cs) h s = absurd (cond_elim Silent (enough cfg _) _ _ (λ _ n. n refl) (λ _ n. n refl) s)
  by_phase o (finalising_read t cs es) h s = absurd (cond_elim Silent (enough_to_read cfg _ _) _ _ (λ _ n. n refl) (λ _ n. n refl) s)
  by_phase o down h s = absurd (s refl)

  again_bare : (o : ℕ) → is_cleared w.kind ≡ true → Sends (ask_again cfg c o) → Bare (ask_again cfg c o)
  unfolding ask_again ends
  again_bare o nine s = (
    bare 9 (λ b. refl) (eqb-true (kind_number w.kind) 9 nine),
    cond_elim Quiet (ltb o highest_number) (send_queries cfg c (o + 1) none) (ends o spent) (λ _ _. refl) (λ _ n. absurd (n refl)) s,
  )

  pub sends_bare : (x : BoardClient) → Sends (step x) → Bare (step x)
  unfolding protocol.client_step receives settle counted stays awaited
  sends_bare x =
      cond_elim (λ y. Sends y → Bare y) (awaited (key cfg) x w) (receives (key cfg) (encode cfg) (decode cfg) cfg c x w) (stays x)
      (λ e.
      cond_elim (λ y. Sends y → Bare y) (is_cleared w.kind) (ask_again cfg c x.operation) (settles x.operation (counting (key cfg) x.phase w))
      (again_bare x.operation)
      (λ _. by_phase x.operation x.phase (awaits_it (key cfg) w x e)))
      (λ _ s. absurd (s refl))

-- ---- the questions

-- the kinds that a client receives are no server's
not_server : (k : Kind) → is_for_client k ≡ true → is_for_server k ≡ false
not_server k e = flipped (is_for_server k) e
  where
    flipped : (b : Bool) → not b ≡ true → b ≡ false
    flipped true h = absurd (true≢false (sym h))
    flipped false h = refl

module _ (cfg : Config) (x : client.State) (handed kept es sends read : List ℕ) where
  abbrev list : List Question
  list = to_client_questions cfg x handed (length kept) (length es) (length sends) (length read)

  abbrev step_no : ℕ
  step_no = first_no (step_questions cfg x handed (lent kept es sends read))

  abbrev shape : Bool
  shape = step_sized cfg (length handed) (length kept) (length es) (length sends) (length read) && state_within cfg x

  abbrev w : BoardMessage
  w = message_of cfg handed

  abbrev expected : Bool
  expected = awaited (key cfg) (clientView.view cfg x kept es) w

  -- the step asks one question more, 14
  one_more : step_questions cfg x handed (lent kept es sends read) ≡ list ++ ask 14 expected ∷ []
  unfolding call_questions to_client_questions
  one_more = sym (append_assoc (questions cfg) _ (ask 14 expected ∷ []))

  numbered_to : numbered list ≡ true
  unfolding numbered to_client_questions questions
  numbered_to = refl

  no_14 : lacks 14 list ≡ true
  unfolding lacks to_client_questions questions
  no_14 = refl

  step_stop : (first_no list ≡ 0 → ⊥) → step_no ≡ first_no list
  step_stop n = ap first_no one_more ∙ first_no_stop list (ask 14 expected ∷ []) n

  step_pass : first_no list ≡ 0 → step_no ≡ cond expected 0 14
  unfolding first_no
  step_pass z = ap first_no one_more ∙ first_no_pass list (ask 14 expected ∷ []) numbered_to z

  to_none : step_no ≡ 0 → first_no list ≡ 0
  to_none z = elim (ℕ_discrete (first_no list) 0) as (λ _. first_no list ≡ 0) [
    | yes e ↦ e
    | no n ↦ absurd (n (sym (step_stop n) ∙ z))
  ]

  to_14 : step_no ≡ 14 → first_no list ≡ 0
  to_14 z = elim (ℕ_discrete (first_no list) 0) as (λ _. first_no list ≡ 0) [
    | yes e ↦ e
    | no n ↦ absurd (no_such 14 list no_14 (omega arith) (sym (step_stop n) ∙ z))
  ]

  -- none is answered no
  module _ (h : first_no list ≡ 0) where
    abbrev rest : List Question
    rest = ask 6 shape ∷ ask 12 (well_formed cfg handed) ∷ ask 16 (is_for x w) ∷ []

    from_6 : first_no rest ≡ 0
    unfolding to_client_questions
    from_6 = none_rest (questions cfg) rest (questions_numbered cfg) h

    to_valid : Valid cfg
    unfolding to_client_questions
    to_valid = valid cfg (none_first (questions cfg) rest h)

    from_12 : (shape ≡ true) × (first_no (ask 12 (well_formed cfg handed) ∷ ask 16 (is_for x w) ∷ []) ≡ 0)
    from_12 = yes_next 6 shape _ (omega arith) from_6

    to_well : (well_formed cfg handed ≡ true) × (first_no (ask 16 (is_for x w) ∷ []) ≡ 0)
    to_well = yes_next 12 (well_formed cfg handed) _ (omega arith) from_12.1

    to_mine : is_for x w ≡ true
    to_mine = (yes_next 16 (is_for x w) [] (omega arith) to_well.1).0

    to_within : state_within cfg x ≡ true
    to_within = and_right (step_sized cfg (length handed) (length kept) (length es) (length sends) (length read)) (state_within cfg x) from_12.0

    for_me : w.client ≡ client_number x.me
    for_me = eqb-true w.client (client_number x.me) (and_left (eqb w.client (client_number x.me)) (is_for_client w.kind) to_mine)

    its_kind : is_for_server w.kind ≡ false
    its_kind = not_server w.kind (and_right (eqb w.client (client_number x.me)) (is_for_client w.kind) to_mine)

    its_number : within 1 cfg.c (client_number x.me) ≡ true
    its_number = self_in cfg x to_within

-- ---- what is left

nothing_is : (e : Ended) (read : List ℕ) → ended_of e read ≡ nothing → e ≡ Nothing
nothing_is Nothing read h = refl
nothing_is (Written t) read h = cc
nothing_is Spent read h = cc
nothing_is (Read t length) read h = cc

module _ (cfg : Config) (x : Pair) (handed store kept es es' sends sends' read read' : List ℕ) (is-bytes : Bytes handed) (numbers : NumberedPhase x.client.phase)
    (y : Moved) (post : StepPost cfg x.client handed (lent kept es sends read) (lent kept es' sends' read') y) (long : length es' ≡ length es) where
  abbrev me : client.State
  me = x.client

  abbrev c : ℕ
  c = client_number me.me

  abbrev refusal : ℕ
  refusal = first_no (list cfg me handed kept es sends read)

  abbrev stepped : ℕ
  stepped = step_no cfg me handed kept es sends read

  abbrev m : BoardMessage
  m = message_of cfg handed

  abbrev before : BoardClient
  before = clientView.view cfg me kept es

  abbrev move : BoardMoved
  move = client_step cfg me handed (lent kept es sends read)

  abbrev l : Parts
  l = parts store kept es

  abbrev l' : Parts
  l' = parts store kept es'

  abbrev Post : Acted → Type 0
  Post r = ClientPost cfg refusal (delivers cfg handed) x l sends read r l' sends' read'

  module _ (none_no : refusal ≡ 0) where
    ok : of_config cfg m ≡ true
    ok = message_of_config cfg (to_valid cfg me handed kept es sends read none_no).e_high handed is-bytes (to_well cfg me handed kept es sends read none_no).0

    -- the protocol's step stays too where the answer is not awaited
    either_way : unless_no stepped before move ≡ move
    unfolding protocol.client_step
    either_way =
        ap (λ k. cond (eqb k 0) move (stays before)) (step_pass cfg me handed kept es sends read none_no)
        ∙ told (awaited (key cfg) before m)
      where
        told : (z : Bool) → cond (eqb (cond z 0 14) 0) (cond z (receives (key cfg) (encode cfg) (decode cfg) cfg c before m) (stays before)) (stays before)
            ≡ cond z (receives (key cfg) (encode cfg) (decode cfg) cfg c before m) (stays before)
        told true = refl
        told false = refl

    is : (p : BoardParties) → delivers cfg handed (among cfg p x l)
        ≡ record { parties = among cfg p (moved_on (Ok tt) x y).pair l'; sends = move.sends; answer = parties.answer_of c move.ended }
    is p =
        let v = serverView.view cfg x.node.state store in
        let s = server_number x.node.state.me in
        subst (λ n. delivers cfg handed (with_pair p s v x.node.up n before)
        ≡ record {
          parties = with_pair p s v x.node.up n (protocol.client_step (key cfg) (encode cfg) (decode cfg) cfg n before m).client;
          sends = (protocol.client_step (key cfg) (encode cfg) (decode cfg) cfg n before m).sends;
          answer = parties.answer_of n (protocol.client_step (key cfg) (encode cfg) (decode cfg) cfg n before m).ended;
        })
        (for_me cfg me handed kept es sends read none_no)
        (deliver_client (order cfg) (encode cfg) (decode cfg) cfg p v before m s x.node.up (its_kind cfg me handed kept es sends read none_no))
        ∙ λ i. record {
          parties = with_pair p s v x.node.up (ap client_number (sym post.answered.self) i) (sym (post.answered.client ∙ ap (λ (t : BoardMoved). t.client) either_way) i);
          sends = move.sends;
          answer = parties.answer_of c move.ended;
        }

    ended : ended_of y.ended read' ≡ move.ended
    ended = post.ended ∙ ap (λ (t : BoardMoved). t.ended) either_way

    acts : ActPost cfg refusal (delivers cfg handed) x l sends read (moved_on (Ok tt) x y) l' sends' read'
    acts =
        accepted_act cfg refusal (delivers cfg handed) x l sends read none_no (moved_on (Ok tt) x y) l' sends' read' move.sends (parties.answer_of c move.ended) is
        (its_answer y.state.me y.ended read' ∙ ap₂ parties.answer_of (ap client_number post.answered.self) ended)
        (post.answered.count ∙ ap (λ (t : BoardMoved). length t.sends) either_way)
        (post.answered.out ∙ ap (λ (t : BoardMoved). front (records_of cfg t.sends) sends) either_way)
        (step_fits cfg c (its_number cfg me handed kept es sends read none_no) before (to_valid cfg me handed kept es sends read none_no)
        (client_seen_fits cfg me kept es (to_within cfg me handed kept es sends read none_no) numbers) m ok (for_me cfg me handed kept es sends read none_no)).sends
        (λ h. post.lent ∙ ap (λ o. shown o read) (sym post.ended) ∙ not_read y.state.me y.ended read read' h)
        (refl, post.answered.self)
        (λ h _. ap₂ ◌&&◌ (and_left (server_state_within cfg x.node.state) (state_within cfg me) h)
        (post.answered.within (and_right (server_state_within cfg x.node.state) (state_within cfg me) h)))
        (refl, refl, long)

    placed_none : m.element ≡ none → (b : Bool) → cond b (placed cfg m es) es ≡ es
    unfolding placed_at
    placed_none e true = ap (λ o. placed_at cfg m.server o es) e
    placed_none e false = refl

    quiets : 1 ≤ y.sent → (l' ≡ l) × (read' ≡ read)
    quiets some-sent =
        let bare = sends_bare cfg c m ok before (λ z. omega (arith, some-sent, z, post.answered.count ∙ ap (λ (t : BoardMoved). length t.sends) either_way)) in (
          ap (λ w. parts store kept w) (post.elements ∙ placed_none bare.0 (eqb stepped 0)),
          post.lent ∙ ap (λ o. shown o read) (ap (λ (t : BoardMoved). t.ended) either_way ∙ bare.1),
        )

    taken : Post (moved_on (Ok tt) x y)
    taken = record { acts = acts; quiet = quiets }

  -- 14: nothing has changed
  pub not_awaited : verdict_number y.verdict ≡ 14 → (r : Acted) → r ≡ quietly x → Post r
  unfolding stays
  not_awaited e r f =
      let n : stepped ≡ 14 = sym post.answered.number ∙ e in
      let some_no : stepped ≡ 0 → ⊥ = λ z. omega (arith, n, z) in
      let still : unless_no stepped before move ≡ stays before = ap (λ (b : Bool). cond b move (stays before)) (ne_eqb stepped 0 some_no) in
      let none-sent : y.sent ≡ 0 = post.answered.count ∙ ap (λ (t : BoardMoved). length t.sends) still in
      let no_end : y.ended ≡ Nothing = nothing_is y.ended read' (post.ended ∙ ap (λ (t : BoardMoved). t.ended) still) in
      let same : quietly x ≡ moved_on (Ok tt) x y =
      λ i. record {
        answer = ended_by y.state.me (sym no_end i);
        pair = record { node = x.node; client = sym (post.answered.held some_no) i };
        sent = sym none-sent i;
      } in
      subst Post (sym (f ∙ same)) (taken (to_14 cfg me handed kept es sends read n))

  refuses : (why : Refusal) → y.verdict ≡ Err why → (verdict_number y.verdict ≡ 14 → ⊥) → Post (refusing why x)
  unfolding stays records_of
  refuses why e not-14 =
      let n : stepped ≡ refusal_number why = sym post.answered.number ∙ ap verdict_number e in
      let some_no : stepped ≡ 0 → ⊥ = λ z. omega (arith, number_low why, n, z) in
      let same : refusal_number why ≡ refusal = elim (ℕ_discrete refusal 0) as (λ _. refusal_number why ≡ refusal) [
        | yes z ↦ absurd (either (awaited (key cfg) before m) (step_pass cfg me handed kept es sends read z) some_no (λ k. not-14 (post.answered.number ∙ k)))
        | no k ↦ sym n ∙ step_stop cfg me handed kept es sends read k
      ] in
      let still : unless_no stepped before move ≡ stays before = ap (λ (b : Bool). cond b move (stays before)) (ne_eqb stepped 0 some_no) in
      let es-stay : es' ≡ es = post.elements ∙ ap (λ (b : Bool). cond b (placed cfg m es) es) (ne_eqb stepped 0 some_no) in
      let sends-stay : sends' ≡ sends = post.answered.out ∙ ap (λ (t : BoardMoved). front (records_of cfg t.sends) sends) still in
      let read_stays : read' ≡ read = post.lent ∙ ap (λ (t : BoardMoved). shown t.ended read) still in
      record {
        acts =
            subst (λ (z : List ℕ). ActPost cfg refusal (delivers cfg handed) x l sends read (refusing why x) (parts store kept z) sends' read') (sym es-stay)
            (subst (λ (z : List ℕ). ActPost cfg refusal (delivers cfg handed) x l sends read (refusing why x) l z read') (sym sends-stay)
            (subst (λ (z : List ℕ). ActPost cfg refusal (delivers cfg handed) x l sends read (refusing why x) l sends z) (sym read_stays)
            (refused_act cfg refusal (delivers cfg handed) x l sends read why same)));
        quiet = λ h. absurd (omega (arith, h));
      }
    where
      either : (b : Bool) → stepped ≡ cond b 0 14 → (stepped ≡ 0 → ⊥) → (stepped ≡ 14 → ⊥) → ⊥
      either true h j k = j h
      either false h j k = k h

  pub moved_act : (verdict_number y.verdict ≡ 14 → ⊥) → (r : Acted) → r ≡ moved_on y.verdict x y → Post r
  moved_act not-14 r e = subst Post (sym e) (by y.verdict refl)
    where
      by : (w : Verdict) → y.verdict ≡ w → Post (moved_on w x y)
      by (Ok tt) h = taken (to_none cfg me handed kept es sends read (sym post.answered.number ∙ ap verdict_number h))
      by (Err why) h = refuses why h not-14
