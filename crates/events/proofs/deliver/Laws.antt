-- Event 3. In order: the messages when one is handed over; what the protocol's event is; what the party asks, and that it refuses nothing else;
-- what the parties have done; a server, a client. Assumes nothing.
use Prim.Native.Nat.{ℕ, zero, suc, ◌+◌, ◌-◌, ◌*◌, ◌≤◌, ◌<◌}
use mathlib.Core.Path.{◌≡◌, refl, sym, ap, ap₂, subst, ◌∙◌}
use mathlib.Core.Bool.{Bool, true, false, cond, not, ◌&&◌, false≢true, true≢false}
use mathlib.Core.Option.{Option, some}
use mathlib.Core.List.{List, [], ◌∷◌, ◌++◌, map}
use native.Mathlib.Omega.{arith}
use borrow.Author.Tests.{eq-eqb, ne_eqb}
use lib.Dec.{eqb}
use lib.ListN.{length, take, get_elem?, length-map}
use lib.Seq.{drop_at, length-take-le}
use Rattle.laws.specs.Lists.{without}
use Rattle.laws.specs.Parts.{over, part}
use Rattle.laws.proofs.Lists.{length_without, map_without}
use Rattle.laws.proofs.Parts.{over_same}
use Rattle.config.specs.declared.Config.{Config}
use Rattle.config.specs.declared.Refusal.{Refusal}
use Rattle.config.specs.Config.{board_length, questions, store_length}
use Rattle.config.specs.Number.{client_number, server_number}
use Rattle.config.specs.Questions.{ask, first_no}
use Rattle.config.proofs.Questions.{first_no_pass, first_no_yes, questions_numbered}
use Rattle.config.proofs.Valid.{valid_asked}
use Rattle.record.specs.declared.Kind.{Kind}
use Rattle.record.specs.Kinds.{is_for_client, is_for_server}
use Rattle.record.specs.Record.{client_at, kind_at, kind_of, message_of, record_of, server_at, well_formed}
use Rattle.record.proofs.Clauses.{its_client, its_server}
use Rattle.server.specs.Calls.{for_server, step_questions}
use Rattle.server.specs.Within.{state_within as server_state_within}
use Rattle.client.specs.Questions.{is_for, step_sized}
use Rattle.client.specs.State.{state_within}
use Rattle.flight.specs.Flight.{AppendPost, RemovePost, record_at, records}
use Rattle.flight.proofs.Laws.{append_count, append_long, append_records, at_record, length_records, record_byte, record_long, records_take, remove_count, remove_long, remove_records}
use Rattle.protocol.specs.Board.{is_accepted, refused}
use Rattle.protocol.specs.Boards.{BoardActed, BoardCall, BoardEnded, BoardMessage, BoardParties, decode, deliver, encode, order}
use Rattle.protocol.specs.Client as client
use Rattle.protocol.specs.Network.{names_board}
use Rattle.protocol.specs.Parties as parties
use Rattle.protocol.specs.Parties.{client_acts, quiet, server_acts}
use Rattle.protocol.specs.Rig as rig
use Rattle.protocol.specs.Rig.{code_of, handOver, leaves, questions_to11, write_fits}
use Rattle.protocol.proofs.Basics.{cond_elim, some-injective}
use Rattle.parties.specs.declared.Acted.{Acted}
use Rattle.parties.specs.Acts.{ActPost, ClientPost, Parts, answer_of, delivers, is_refusal, parts, to_client_questions}
use Rattle.parties.proofs.Refusing.{told_refusal}
use Rattle.events.specs.declared.Call.{Call}
use Rattle.events.specs.declared.Change.{Change}
use Rattle.events.specs.declared.Part.{Part}
use Rattle.events.specs.declared.Rig.{Rig}
use Rattle.events.specs.View.{Lent, flight, lent, messages_of, parties_of, view}
use Rattle.events.specs.Questions.{formed, formed_for, place_for}
use Rattle.events.specs.Calls.{EventPost, called, event_no, records_after, turned}
use Rattle.events.specs.inner.Deliver.{HandOverPost, HandedPre, SettlePost, ToClientPost, ToServerPost}
use Rattle.events.specs.inner.Part.{acting, refusing}
use Rattle.events.specs.inner.Turn.{Ready}
use Rattle.events.proofs.Numbers.{ill_number, missing, position_there}
use Rattle.events.proofs.Pairs.{Back, parts_of}
use Rattle.events.proofs.Ready.{client_me, client_within, count_below, count_fits, is_valid, kept_long, messages_long, read_long, received_long, server_kept, server_me, store_long}
use Rattle.client.proofs.Sends.{records_out}
use Rattle.events.proofs.named.Laws.{by_record, place_back}
use Rattle.events.proofs.outcome.Laws.{Moves, acted, acted_no, acted_on, acted_yes, full-no, refused_on, refused_turn, sends_many, sends_out, sends_sound, sent_room, turn_on}

-- ---- the messages

module _ (p : Part) (i : ℕ) (y : Acted) (sends messages : List ℕ) (x : Change) where
  -- a refusal
  pub settle_held : is_refusal y.answer ≡ true → x ≡ acting y p.count p → SettlePost p i y sends messages x messages
  settle_held e acts =
      record { n = p.count; acts = acts; long = refl; held = λ _. (refl, refl); settled = λ f. absurd (true≢false (sym e ∙ f)) }

  -- one leaves, and others come
  pub settle_done : is_refusal y.answer ≡ false → (left more : ℕ) (gone new messages' : List ℕ) → x ≡ acting y more p
      → RemovePost p.count i messages left gone → new ≡ take (80 * y.sent) sends → 80 * y.sent ≤ length sends
      → AppendPost left new gone more messages' → SettlePost p i y sends messages x messages'
  settle_done e left more gone new messages' acts removes New-is room appends =
      let whole : length new ≡ 80 * y.sent = ap length New-is ∙ length-take-le (80 * y.sent) sends room in
      record {
        n = more;
        acts = acts;
        long = append_long appends ∙ remove_long removes;
        held = λ f. absurd (true≢false (sym f ∙ e));
        settled = λ _ inside fits after.
            let counts : left ≡ p.count - 1 = remove_count removes inside fits in
            let space : 80 * (left + y.sent) ≤ length gone = omega (arith, after, counts, remove_long removes) in (
              append_count appends y.sent whole space ∙ ap (λ k. k + y.sent) counts,
              append_records appends y.sent whole space
                  ∙ ap₂ ◌++◌ (remove_records removes fits) (ap (records y.sent) New-is ∙ records_take y.sent sends),
            );
      }

-- the record that is handed over has 80 bytes
pub taken_long : {p : Part} {a : Call} {handed messages : List ℕ} {to : Bool} → HandedPre p a handed messages to → 80 * p.count ≤ length messages → length handed ≡ 80
taken_long {p} {a} {handed} {messages} h fits = ap length h.taken ∙ record_long p.count a.position messages h.inside fits

-- ---- the protocol's event

at_map : {A B : Type 0} (f : A → B) (xs : List A) (i : ℕ) (y : A) → get_elem? xs i ≡ some y → get_elem? (map f xs) i ≡ some (f y)
at_map f [] i y e = cc
at_map f (x ∷ xs) zero y e = ap (λ z. some (f z)) (some-injective e)
at_map f (x ∷ xs) (suc i) y e = at_map f xs i y e

module _ {cfg : Config} {m : ℕ} {r : Rig} {p : Part} {a : Call} {board read : List ℕ} {l : Lent} (ready : Ready cfg m r p a board read l)
    (code : a.code ≡ 3) (inside : a.position < p.count)
  where
    abbrev i : ℕ
    i = a.position

    abbrev call : BoardCall
    call = called a board

    abbrev handed : List ℕ
    handed = record_at a.position l.messages

    there : i < r.count
    there = subst (λ k. i < k) (sym ready.part.count) inside

    is_hand : code_of a.code ≡ some handOver
    unfolding code_of
    is_hand = ap code_of code

    stands : get_elem? (flight r l) i ≡ some handed
    stands = at_record r.count i l.messages there

    handed_long : length (record_at a.position l.messages) ≡ 80
    handed_long = record_long p.count i l.messages inside (count_fits ready)

    formed_is : formed_for cfg (flight r l) i (some handOver) ≡ well_formed cfg handed
    unfolding formed_for formed
    formed_is = ap (formed cfg) stands

    passes : first_no (questions_to11 cfg (view cfg r l) call handOver) ≡ 0
    unfolding questions_to11
    passes = position_there cfg r l i there

    -- 12
    ill_no : well_formed cfg (record_at a.position l.messages) ≡ false → event_no cfg m r (called a board) read l ≡ 12
    unfolding write_fits
    ill_no e = ill_number cfg m r call read l ready.yes handOver is_hand refl passes (formed_is ∙ e)

    many_left : length (without i (flight r l)) ≡ p.count - 1
    many_left =
        length_without i (flight r l) (omega (arith, there, length_records r.count l.messages))
        ∙ ap (λ k. k - 1) (length_records r.count l.messages ∙ ready.part.count)

    hand_moves : well_formed cfg (record_at a.position l.messages) ≡ true
        → Moves cfg r l (called a board) handOver (delivers cfg (record_at a.position l.messages)) (without a.position (flight r l))
    unfolding rig.move rig.deliver_at records_after view write_fits
    hand_moves well =
        let rs = flight r l in
        let q = parties_of cfg r l in
        let ms = (delivers cfg handed q).sends in
        record {
          code = is_hand;
          fits = refl;
          pass = passes;
          formed = formed_is ∙ well;
          moves = ap₂ (λ left (x : Option BoardMessage). leaves left (rig.deliver_at (order cfg) (encode cfg) (decode cfg) cfg q x))
              (sym (map_without (message_of cfg) i rs)) (at_map (message_of cfg) rs i handed stands);
          after = ap (λ x. without i rs ++ map (record_of cfg) x)
              (drop_at (messages_of cfg (without i rs)) ms (length rs - 1)
              (length-map (without i rs) (message_of cfg) ∙ length_without i rs (omega (arith, there, length_records r.count l.messages))));
        }

    -- ---- what the party asks

    server_named : well_formed cfg handed ≡ true → (message_of cfg handed).server ≡ server_number p.pair.node.state.me
    unfolding message_of
    server_named well =
        sym (server_me ready
        ∙ place_back cfg.n (server_at handed) p.server
        (ready.names.server
        ∙ ap (place_for cfg.n)
        (sym (by_record p.count a.code a.party i 2 l.messages code inside (count_fits ready)) ∙ sym (record_byte i 2 l.messages (omega arith))))
        (its_server cfg handed well))

    client_named : well_formed cfg handed ≡ true → (message_of cfg handed).client ≡ client_number p.pair.client.me
    unfolding message_of
    client_named well =
        sym (client_me ready
        ∙ place_back cfg.c (client_at handed) p.client
        (ready.names.client
        ∙ ap (place_for cfg.c)
        (sym (by_record p.count a.code a.party i 1 l.messages code inside (count_fits ready)) ∙ sym (record_byte i 1 l.messages (omega arith))))
        (its_client cfg handed well))

    -- 16 is answered yes where 12 is
    by_12 : (mine : Bool) → (well_formed cfg handed ≡ true → mine ≡ true) → first_no (ask 12 (well_formed cfg handed) ∷ ask 16 mine ∷ []) ≡ cond (well_formed cfg handed) 0 12
    unfolding first_no
    by_12 mine own = told (well_formed cfg handed) refl
      where
        told : (b : Bool) → well_formed cfg handed ≡ b → ◌≡◌ {A = ℕ} (cond (well_formed cfg handed) (cond mine 0 16) 12) (cond (well_formed cfg handed) 0 12)
        told true well = rw (well, own well)
        told false ill = rw ill

    to_server_number : is_for_server (kind_of (kind_at (record_at a.position l.messages))) ≡ true → (store answer : ℕ) → store ≡ store_length cfg → answer ≡ 80
        → first_no (step_questions cfg p.pair.node.state (record_at a.position l.messages) store answer)
        ≡ cond (well_formed cfg (record_at a.position l.messages)) 0 12
    unfolding step_questions message_of
    to_server_number kind store answer s e =
        first_no_pass (questions cfg) _ (questions_numbered cfg) (valid_asked cfg (is_valid ready))
        ∙ first_no_yes 6 (eqb (length handed) 80 && eqb store (store_length cfg) && eqb answer 80 && server_state_within cfg p.pair.node.state) _
        (rw (eq-eqb (length handed) 80 handed_long, eq-eqb store (store_length cfg) s, eq-eqb answer 80 e, server_kept ready))
        ∙ by_12 (for_server (server_number p.pair.node.state.me) (message_of cfg handed))
        (λ well. ap₂ ◌&&◌ (eq-eqb (message_of cfg handed).server (server_number p.pair.node.state.me) (server_named well)) kind)

    to_client_number : is_for_client (kind_of (kind_at (record_at a.position l.messages))) ≡ true → (kept elements sends read : ℕ)
        → kept ≡ board_length cfg → elements ≡ cfg.n * cfg.e → sends ≡ 80 * cfg.n → read ≡ board_length cfg
        → first_no (to_client_questions cfg p.pair.client (record_at a.position l.messages) kept elements sends read)
        ≡ cond (well_formed cfg (record_at a.position l.messages)) 0 12
    unfolding to_client_questions message_of
    to_client_number kind kept elements sends lent k es s b =
        first_no_pass (questions cfg) _ (questions_numbered cfg) (valid_asked cfg (is_valid ready))
        ∙ first_no_yes 6 (step_sized cfg (length handed) kept elements sends lent && state_within cfg p.pair.client) _
        (rw (
          eq-eqb (length handed) 80 handed_long,
          eq-eqb kept (board_length cfg) k,
          eq-eqb elements (cfg.n * cfg.e) es,
          eq-eqb sends (80 * cfg.n) s,
          eq-eqb lent (board_length cfg) b,
          client_within ready,
        ))
        ∙ by_12 (is_for p.pair.client (message_of cfg handed))
        (λ well. ap₂ ◌&&◌ (eq-eqb (message_of cfg handed).client (client_number p.pair.client.me) (client_named well)) kind)

-- a kind that no server receives is a client's
answer_kind : (k : Kind) → is_for_server k ≡ false → is_for_client k ≡ true
answer_kind k e = ap not e

-- handing over is accepted
ended_accepted : (c : ℕ) (e : BoardEnded) → is_accepted (parties.answer_of c e) ≡ true
unfolding parties.answer_of is_accepted
ended_accepted c client.nothing = refl
ended_accepted c (client.written t) = refl
ended_accepted c client.spent = refl
ended_accepted c (client.read t v) = refl

delivered : (cfg : Config) (q : BoardParties) (x : BoardMessage) → is_accepted (deliver cfg q x).answer ≡ true
unfolding parties.deliver server_acts client_acts quiet is_accepted
delivered cfg q x =
    cond_elim (λ (t : BoardActed). is_accepted t.answer ≡ true) (is_for_server x.kind) _ _
    (λ _. cond_elim (λ (t : BoardActed). is_accepted t.answer ≡ true) (q.up x.server) _ _ (λ _. refl) (λ _. refl))
    (λ _. ended_accepted x.client _)

not_of : (b c : Bool) → c ≡ not b → b ≡ not c
not_of true c e = ap not (sym e)
not_of false c e = ap not (sym e)

-- ---- what the parties have done

module _ {cfg : Config} {m : ℕ} {r : Rig} {p : Part} {a : Call} {board read : List ℕ} {l : Lent} (ready : Ready cfg m r p a board read l)
    (code : a.code ≡ 3) (inside : a.position < p.count)
    {number : ℕ} {y : Acted} {ps : Parts} {sends sends' read' : List ℕ} {l' : Lent}
    (post : ActPost cfg number (delivers cfg (record_at a.position l.messages)) p.pair (parts_of cfg p l) sends read y ps sends' read')
    (put : Back cfg p l ps l') (asks : number ≡ cond (well_formed cfg (record_at a.position l.messages)) 0 12)
  where
    abbrev record_handed : List ℕ
    record_handed = record_at a.position l.messages

    abbrev q : BoardParties
    q = parties_of cfg r l

    abbrev act : BoardParties → BoardActed
    act = delivers cfg (record_at a.position l.messages)

    accepts : number ≡ 0 → is_refusal y.answer ≡ false
    accepts z =
        not_of (is_refusal y.answer) true
        (sym (delivered cfg q (message_of cfg record_handed))
        ∙ sym (ap is_accepted (post.answer q ∙ ap (λ (x : BoardActed). x.answer) (acted ready post put 0 z)))
        ∙ told_refusal y.answer read')

    refuses : (number ≡ 0 → ⊥) → is_refusal y.answer ≡ true
    unfolding is_accepted
    refuses ne =
        let z : eqb number 0 ≡ false = ne_eqb number 0 ne in
        let answers : answer_of y.answer read' ≡ refused number = rw z at (post.answer q) in
        not_of (is_refusal y.answer) false (sym (ap is_accepted answers) ∙ told_refusal y.answer read')

    sent_none : (number ≡ 0 → ⊥) → y.sent ≡ 0
    sent_none ne = rw (ne_eqb number 0 ne) at (post.sent q)

    -- the message leaves the list, and what they send, where it stands, is added at the end
    module _ (sent : List ℕ) (same : records y.sent sent ≡ records y.sent sends') {x : Change}
        (settles : SettlePost p a.position y sent l.messages x l'.messages) (room : p.count - 1 + y.sent ≤ m)
      where
        pub handed_event : EventPost cfg m r (called a board) read l (turned r (acting y settles.n p)) read' l'
        handed_event = by (well_formed cfg record_handed) refl
          where
            by : (b : Bool) → well_formed cfg record_handed ≡ b → EventPost cfg m r (called a board) read l (turned r (acting y settles.n p)) read' l'
            by false ill =
                let twelve : number ≡ 12 = asks ∙ rw ill in
                let ne : number ≡ 0 → ⊥ = λ z. omega (arith, twelve, z) in
                let held = settles.held (refuses ne) in
                acted_no ready post put settles.n ne (ill_no ready code inside ill ∙ sym twelve) held.0 held.1
            by true well =
                let z : number ≡ 0 = asks ∙ rw well in
                let done = settles.settled (accepts z) inside (count_fits ready) (omega (arith, room, messages_long ready)) in
                acted_yes ready post put settles.n z (hand_moves ready code inside well) (omega (arith, done.0, room)) settles.long
                (done.1
                ∙ ap₂ (λ k rs. without a.position (records k l.messages) ++ rs) (sym ready.part.count)
                (same ∙ ap (λ k. records k sends') (sends_many ready post put 0 z)
                ∙ records_out cfg (is_valid ready).e_high (act q).sends (sends_sound ready post put 0 z) sends sends' (sends_out ready post put 0 z)))
                (λ none_named. absurd (false≢true (unfold names_board in sym none_named)))

    -- 13
    too_many : m < p.count - 1 + y.sent → event_no cfg m r (called a board) read l ≡ 13
    too_many over =
        let some-sent : 1 ≤ y.sent = omega (arith, over, count_below ready) in
        by (well_formed cfg record_handed) refl
      where
        by : (b : Bool) → well_formed cfg record_handed ≡ b → event_no cfg m r (called a board) read l ≡ 13
        by false ill =
            let twelve : number ≡ 12 = asks ∙ rw ill in
            absurd (omega (arith, over, count_below ready, sent_none (λ z. omega (arith, twelve, z))))
        by true well =
            let z : number ≡ 0 = asks ∙ rw well in
            full-no ready (hand_moves ready code inside well) (omega (arith, over, many_left ready code inside, sends_many ready post put 0 z))

-- ---- a server

module _ (cfg : Config) (high : cfg.e ≤ 64) (p : Part) (a : Call) (handed messages stores : List ℕ) (inside : a.position < p.count)
    (taken : handed ≡ record_at a.position messages) (kind : is_for_server (kind_of (kind_at handed)) ≡ true)
    (y : Acted) (store store' answer answer' stores' messages' : List ℕ) (x : Change)
    (Store-is : store ≡ part (store_length cfg) p.server stores) (stores_are : stores' ≡ over (p.server * store_length cfg) (store_length cfg) store' stores)
    (eighty : length answer ≡ 80) (as_long : length answer' ≡ length answer)
    (post : (kept es read : List ℕ) → ActPost cfg (first_no (step_questions cfg p.pair.node.state handed (length store) (length answer)))
    (delivers cfg handed) p.pair (parts store kept es) answer read y (parts store' kept es) answer' read)
    (settles : SettlePost p a.position y answer' messages x messages')
  where
    pub served : ToServerPost cfg p a messages stores x messages' stores'
    served m board read boards elements code =
        let l = lent messages stores boards elements in
        let ps = parts_of cfg p l in
        let mine : (h st : List ℕ) → Type 0 =
        λ h st. ActPost cfg (first_no (step_questions cfg p.pair.node.state h (length st) (length answer))) (delivers cfg h) p.pair
        (parts st ps.kept ps.elements) answer read y (parts store' ps.kept ps.elements) answer' read in
        let own : mine (record_at a.position messages) ps.store =
        subst (λ (h : List ℕ). mine h ps.store) taken (subst (λ (st : List ℕ). mine handed st) Store-is (post ps.kept ps.elements read)) in
        acted_on y settles.n read (lent messages' stores' boards elements) settles.acts (λ r ready.
        handed_event ready code inside own
        (record {
          stores = stores_are;
          boards = sym (over_same (p.client * board_length cfg) (board_length cfg) boards);
          elements = sym (over_same (p.client * (cfg.n * cfg.e)) (cfg.n * cfg.e) elements);
        })
        (to_server_number ready code inside (ap (λ (h : List ℕ). is_for_server (kind_of (kind_at h))) (sym taken) ∙ kind) (length ps.store) (length answer) (store_long ready) eighty)
        answer' refl settles
        (omega (arith, sent_room high own, as_long, eighty, count_below ready, inside)))

-- ---- a client

module _ (cfg : Config) (m : ℕ) (high : cfg.e ≤ 64) (p : Part) (a : Call) (handed read messages boards elements : List ℕ) (inside : a.position < p.count)
    (taken : handed ≡ record_at a.position messages) (kind : is_for_server (kind_of (kind_at handed)) ≡ false)
    (y : Acted) (kept received received' sends sends' read' elements' : List ℕ) (x : Change)
    (kept_is : kept ≡ part (board_length cfg) p.client boards) (received_is : received ≡ part (cfg.n * cfg.e) p.client elements)
    (elements_are : elements' ≡ over (p.client * (cfg.n * cfg.e)) (cfg.n * cfg.e) received' elements)
    (long : length sends ≡ 80 * cfg.n)
    (post : (store : List ℕ) → ClientPost cfg
    (first_no (to_client_questions cfg p.pair.client handed (length kept) (length received) (length sends) (length read)))
    (delivers cfg handed) p.pair (parts store kept received) sends read y (parts store kept received') sends' read')
  where
    module _ (board stores : List ℕ) where
      abbrev l : Lent
      l = lent messages stores boards elements

      abbrev ps : Parts
      ps = parts_of cfg p l

      abbrev Mine : List ℕ → List ℕ → List ℕ → Type 0
      Mine h k es =
          ActPost cfg (first_no (to_client_questions cfg p.pair.client h (length k) (length es) (length sends) (length read))) (delivers cfg h) p.pair
          (parts ps.store k es) sends read y (parts ps.store k received') sends' read'

      own : Mine (record_at a.position messages) ps.kept ps.elements
      own =
          subst (λ (h : List ℕ). Mine h ps.kept ps.elements) taken
          (subst (λ (k : List ℕ). Mine handed k ps.elements) kept_is (subst (λ (es : List ℕ). Mine handed kept es) received_is (post ps.store).acts))

      back : (messages' : List ℕ) → Back cfg p l (parts ps.store ps.kept received') (lent messages' stores boards elements')
      back messages' =
          record {
            stores = sym (over_same (p.server * store_length cfg) (store_length cfg) stores);
            boards = sym (over_same (p.client * board_length cfg) (board_length cfg) boards);
            elements = elements_are;
          }

      asks : {r : Rig} → Ready cfg m r p a board read l → a.code ≡ 3
          → first_no (to_client_questions cfg p.pair.client (record_at a.position messages) (length ps.kept) (length ps.elements) (length sends) (length read))
          ≡ cond (well_formed cfg (record_at a.position messages)) 0 12
      asks ready code =
          to_client_number ready code inside
          (answer_kind (kind_of (kind_at (record_at a.position messages))) (ap (λ (h : List ℕ). is_for_server (kind_of (kind_at h))) (sym taken) ∙ kind))
          (length ps.kept) (length ps.elements) (length sends) (length read) (kept_long ready) (received_long ready) long (read_long ready)

    -- what it sends is added at the end
    pub received_done : (sent messages' : List ℕ) → records y.sent sent ≡ records y.sent sends' → SettlePost p a.position y sent messages x messages'
        → p.count - 1 + y.sent ≤ m → ToClientPost cfg m p a read messages boards elements x read' messages' elements'
    received_done sent messages' same settles room board stores code =
        acted_on y settles.n read' (lent messages' stores boards elements') settles.acts (λ r ready.
        handed_event ready code inside (own board stores) (back board stores messages') (asks board stores ready code) sent same settles room)

    -- 13: what it sends has no room, and then it has touched nothing else
    pub received_full : x ≡ refusing Refusal.Full p → m < p.count - 1 + y.sent → ToClientPost cfg m p a read messages boards elements x read' messages elements'
    received_full refuses more board stores code =
        turn_on (refusing Refusal.Full p) read' (lent messages stores boards elements') refuses refl refl (λ r ready.
        let some-sent : 1 ≤ y.sent = omega (arith, more, count_below ready) in
        let still = (post (ps board stores).store).quiet some-sent in
        let same : elements' ≡ elements =
        elements_are
        ∙ ap (λ (z : List ℕ). over (p.client * (cfg.n * cfg.e)) (cfg.n * cfg.e) z elements) (ap (λ (z : Parts). z.elements) still.0 ∙ received_is)
        ∙ over_same (p.client * (cfg.n * cfg.e)) (cfg.n * cfg.e) elements in
        let t = turned r (refusing Refusal.Full p) in
        subst (λ (z : List ℕ). EventPost cfg m r (called a board) read (l board stores) t z (lent messages stores boards elements')) (sym still.1)
        (subst (λ (z : List ℕ). EventPost cfg m r (called a board) read (l board stores) t read (lent messages stores boards z)) (sym same)
        (refused_turn ready Refusal.Full (too_many ready code inside (own board stores) (back board stores messages) (asks board stores ready code) more))))

-- ---- 8

pub hand_missing : (cfg : Config) (m : ℕ) (p : Part) (a : Call) (read : List ℕ) (l : Lent) (x : Change) → x ≡ refusing Refusal.Missing p → p.count ≤ a.position
    → HandOverPost cfg m p a read l x read l
unfolding code_of questions_to11 write_fits
hand_missing cfg m p a read l x refuses past board code =
    refused_on Refusal.Missing refuses (missing cfg m p a board read l handOver (ap code_of code) refl past (λ r. refl))
