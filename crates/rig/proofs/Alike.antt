-- "no answer's bytes depend on either" the store's order or the bytes of places not in use: of two rigs that differ in these alone every event
-- gets one number or one answer, and leaves two such rigs; the same of the event by the part that it names, and along lists of events. Assumes
-- nothing.
use Prim.Native.Nat.{ℕ, ◌+◌, ◌-◌, ◌*◌, ◌<◌}
use mathlib.Core.Path.{◌≡◌, refl, sym, ap, ap₂, subst, subst₂, ◌∙◌}
use mathlib.Core.Bool.{Bool, true, false, cond, ◌&&◌, true≢false}
use mathlib.Core.Option.{Option, none, some}
use mathlib.Core.List.{List, [], ◌∷◌, ◌++◌, map}
use native.Mathlib.Omega.{arith}
use native.Mathlib.Decide.{ℕ_discrete}
use borrow.Author.Tests.{ltb-true}
use lib.Dec.{eqb, leb, ltb}
use lib.ListN.{length, get_or, get_elem?}
use Rattle.laws.specs.Parts.{part}
use Rattle.laws.proofs.Bools.{and_left, and_right}
use Rattle.config.specs.declared.Config.{Config}
use Rattle.config.specs.Config.{Valid, board_length, rig_questions, store_length}
use Rattle.config.specs.Number.{client_number, server_number}
use Rattle.config.specs.Questions.{Question, ask, first_no, within}
use Rattle.config.specs.Refusal.{verdict_number}
use Rattle.config.proofs.Questions.{first_no_behind, none_first, none_rest, rig_questions_numbered, within_high, within_low, yes_next}
use Rattle.config.proofs.Valid.{rig_valid}
use Rattle.tag.specs.Tag.{key}
use Rattle.record.specs.Record.{message_of}
use Rattle.flight.specs.Flight.{record_at, records, stands}
use Rattle.flight.proofs.Laws.{at_record, length_records, record_byte}
use Rattle.server.specs.Within as limits
use Rattle.server.specs.View as serverView
use Rattle.server.proofs.Alike.{server_once, state_alike}
use Rattle.server.proofs.Laws.{server-within}
use Rattle.protocol.specs.Alike as protocol
use Rattle.protocol.specs.Alike.{AlikeRigs, StoredOnce, OnceEach}
use Rattle.protocol.specs.Board.{nothing_ended, read_by, refused, spent_by, written_by}
use Rattle.protocol.specs.Boards.{BoardAnswer, BoardCall, BoardEvent, decode, encode, fresh_rig, order, questions, starting_board, write_fits}
use Rattle.protocol.specs.Rig as model
use Rattle.protocol.specs.Rig.{code_of}
use Rattle.protocol.specs.Server.{no_server}
use Rattle.protocol.proofs.Basics.{some-injective}
use Rattle.protocol.proofs.Alike.{alike_self, move_alike, questions_alike, unless_alike}
use Rattle.client.specs.declared.State as client
use Rattle.client.proofs.Seen as states
use Rattle.parties.specs.declared.Answer.{Answer}
use Rattle.parties.specs.declared.Node.{Node}
use Rattle.parties.specs.Acts.{answer_of, is_read}
use Rattle.events.specs.declared.Call.{Call}
use Rattle.events.specs.declared.Change.{Change}
use Rattle.rig.specs.declared.Made.{Made}
use Rattle.events.specs.declared.Places.{Places}
use Rattle.events.specs.declared.Rig.{Rig}
use Rattle.events.specs.declared.Turn.{Turn}
use Rattle.rig.specs.Alike.{Alike, AlikeClients, AlikeNodes, AlikePlaces, AlikeTurns, SameCalls}
use Rattle.events.specs.View.{Lent, flight, parties_of, place, server_of, server_seen, view}
use Rattle.parties.specs.Within.{client_in_place, server_in_place}
use Rattle.rig.specs.Calls.{make_questions}
use Rattle.events.specs.Questions.{byte_of, event_questions, formed_for, later_questions, named_by, place_for, places_of, rig_within, sized}
use Rattle.events.specs.Calls.{ChangePost, EventPost, event_no, outcome, part_at, records_after, turned}
use Rattle.rig.specs.Calls.{MakePost, make_no}
use Rattle.rig.specs.Runs.{Runs, event, made}
use Rattle.rig.proofs.Making.{make_sized}
use Rattle.laws.proofs.Below.{below_at, below_same}
use Rattle.events.proofs.Entry.{changed}
use Rattle.events.proofs.RigWithin.{servers_within}

-- ---- question 6 says that each server's stored tags are there once

module _ (cfg : Config) (v : Valid cfg) where
  -- what stands in a place
  place_once : (i : ℕ) (x : Option Node) (store : List ℕ) → server_in_place cfg i x ≡ true → StoredOnce (key cfg) (server_seen cfg x store).stored
  unfolding server_in_place server_seen
  place_once i none store h = absurd (true≢false (sym h))
  place_once i (some x) store h =
      server_once cfg v (serverView.view cfg x.state store)
      (server-within cfg x.state store
      (and_right (eqb (server_number x.state.me) (i + 1)) (limits.state_within cfg x.state) h))

  seen_once : (m : ℕ) (r : Rig) (l : Lent) → rig_within cfg m r ≡ true → OnceEach (key cfg) (parties_of cfg r l)
  unfolding parties_of server_of place server_seen no_server StoredOnce
  seen_once m r l h s = by (within 1 cfg.n s) refl
    where
      by : (b : Bool) → within 1 cfg.n s ≡ b
          → StoredOnce (key cfg) (server_seen cfg (cond b (get_elem? r.servers (s - 1)) none) (part (store_length cfg) (s - 1) l.stores)).stored
      by true e =
          place_once (s - 1) (get_elem? r.servers (s - 1)) (part (store_length cfg) (s - 1) l.stores)
          (below_at cfg.n (λ i. server_in_place cfg i (get_elem? r.servers i)) (servers_within cfg m r h) (s - 1)
          (omega (arith, within_low 1 cfg.n s e, within_high 1 cfg.n s e)))
      by false e = tt

-- ---- question 6 is answered alike of rigs that are alike place by place

node_alike : (cfg : Config) (i : ℕ) (x y : Option Node) (storeX storeY : List ℕ) → AlikeNodes cfg x storeX y storeY → server_in_place cfg i x ≡ server_in_place cfg i y
unfolding AlikeNodes server_in_place
node_alike cfg i (some x) (some y) storeX storeY alike =
    ap₂ (λ n b. eqb n (i + 1) && b) alike.me (state_alike cfg x.state y.state storeX storeY alike)
node_alike cfg i (some x) none storeX storeY alike = absurd alike
node_alike cfg i none (some y) storeX storeY alike = absurd alike
node_alike cfg i none none storeX storeY alike = refl

client_alike : (cfg : Config) (i : ℕ) (x y : Option client.State) (keptX elementsX keptY elementsY : List ℕ) → AlikeClients cfg x keptX elementsX y keptY elementsY
    → client_in_place cfg i x ≡ client_in_place cfg i y
unfolding AlikeClients client_in_place
client_alike cfg i (some x) (some y) keptX elementsX keptY elementsY alike =
    ap₂ (λ n b. eqb (client_number n) (i + 1) && b) alike.0 (states.within_alike cfg x y keptX keptY elementsX elementsY alike.0 alike.1)
client_alike cfg i (some x) none keptX elementsX keptY elementsY alike = absurd alike
client_alike cfg i none (some y) keptX elementsX keptY elementsY alike = absurd alike
client_alike cfg i none none keptX elementsX keptY elementsY alike = refl

pub within_alike : {cfg : Config} {r z : Rig} {l lentZ : Lent} → AlikePlaces cfg r l z lentZ → (m : ℕ) → rig_within cfg m r ≡ rig_within cfg m z
unfolding rig_within
within_alike {cfg} {r} {z} alike m =
    ap₂ ◌&&◌ (ap (λ n. leb n m) alike.count)
    (ap₂ ◌&&◌
    (below_same cfg.n (λ i. server_in_place cfg i (get_elem? r.servers i)) (λ i. server_in_place cfg i (get_elem? z.servers i))
    (λ i h. node_alike cfg i (get_elem? r.servers i) (get_elem? z.servers i) _ _ (alike.servers i h)))
    (below_same cfg.c (λ i. client_in_place cfg i (get_elem? r.clients i)) (λ i. client_in_place cfg i (get_elem? z.clients i))
    (λ i h. client_alike cfg i (get_elem? r.clients i) (get_elem? z.clients i) _ _ _ _ (alike.clients i h))))

-- ---- the buffer lent for a read, by the answer

-- a read's bytes, or what was there
abbrev shown : BoardAnswer → List ℕ → List ℕ
shown nothing_ended read = read
shown (written_by c t) read = read
shown (spent_by c) read = read
shown (read_by c t v) read = v.bytes
shown (refused n) read = read

read_is : (x : Answer) (read read' : List ℕ) → (is_read x ≡ false → read' ≡ read) → read' ≡ shown (answer_of x read') read
read_is Answer.Nothing read read' h = h refl
read_is (Answer.Written c t) read read' h = h refl
read_is (Answer.Spent c) read read' h = h refl
read_is (Answer.Read c t length) read read' h = refl
read_is (Answer.No why) read read' h = h refl

-- ---- an event

module _ (cfg : Config) (m : ℕ) (r z : Rig) (l k : Lent) (alike : Alike cfg m r l z k) (a : BoardCall) (read readZ : List ℕ)
    (long : length read ≡ length readZ)
  where
    -- the lengths of the board handed in and of the buffer lent for a read
    abbrev lengths : ℕ → Bool
    lengths n = eqb (length a.board.bytes) (board_length cfg) && eqb n (board_length cfg)

    -- question 6
    abbrev six : Bool
    six = lengths (length read) && sized cfg m l && rig_within cfg m r

    view_once : first_no (rig_questions cfg m) ≡ 0 → six ≡ true → OnceEach (key cfg) (view cfg r l).parties
    unfolding view
    view_once five h = seen_once cfg (rig_valid cfg m refl five) m r l (and_right (lengths (length read) && sized cfg m l) (rig_within cfg m r) h)

    -- 7 to 13 have the same answers
    later_one : first_no (rig_questions cfg m) ≡ 0 → six ≡ true → later_questions cfg m r a l ≡ later_questions cfg m z a k
    later_one five h =
        let code = code_of a.code in
        questions_alike (order cfg) (encode cfg) (decode cfg) cfg (view cfg r l) (view cfg z k) alike.seen (view_once five h) a m
        (formed_for cfg (flight r l) a.position code) code
        ∙ ap (λ rs. questions cfg m (view cfg z k) a (formed_for cfg rs a.position code) code) alike.records

    -- 19, which asks of the call alone, and they
    abbrev after : Rig → Lent → List Question
    after x k = ask 19 (write_fits cfg a (code_of a.code)) ∷ later_questions cfg m x a k

    -- an event is refused alike
    pub refused_alike : event_no cfg m r a read l ≡ event_no cfg m z a readZ k
    unfolding event_questions
    refused_alike =
        first_no_behind (rig_questions cfg m) 6 six (after r l) (after z k)
        (λ five h. ap (λ qs. first_no (ask 19 (write_fits cfg a (code_of a.code)) ∷ qs)) (later_one five h))
        ∙ (λ i. first_no (rig_questions cfg m ++ ask 6 (lengths (long i) && alike.lengths i && alike.within i) ∷ after z k))

    -- where it is not refused
    module _ (e : event_no cfg m r a read l ≡ 0) where
      five_yes : first_no (rig_questions cfg m) ≡ 0
      unfolding event_questions
      five_yes = none_first (rig_questions cfg m) _ e

      six_yes : six ≡ true
      unfolding event_questions
      six_yes = (yes_next 6 six _ (omega arith) (none_rest (rig_questions cfg m) _ (rig_questions_numbered cfg m) e)).0

    -- the protocol's events: one answer, and rigs that differ in the order alone
    outcome_alike : protocol.AlikeTurns (outcome cfg m r a read l) (outcome cfg m z a readZ k)
    outcome_alike =
        unless_alike alike.seen refused_alike
        (λ e. move_alike (order cfg) (encode cfg) (decode cfg) cfg (view cfg r l) (view cfg z k) alike.seen (view_once (five_yes e) (six_yes e)) a (code_of a.code))

    module _ {t u : Turn} {read' readZ' : List ℕ} {l' k' : Lent} (postT : EventPost cfg m r a read l t read' l')
        (postU : EventPost cfg m z a readZ k u readZ' k')
      where
        answer_alike : answer_of t.answer read' ≡ answer_of u.answer readZ'
        answer_alike = postT.answer ∙ outcome_alike.answer ∙ sym postU.answer

        left_alike : Alike cfg m t.rig l' u.rig k'
        left_alike = elim (ℕ_discrete (event_no cfg m r a read l) 0) as (λ _. Alike cfg m t.rig l' u.rig k') [
          | yes e ↦
              let f : event_no cfg m z a readZ k ≡ 0 = sym refused_alike ∙ e in
              record {
                seen = seen_one;
                records =
                    postT.records e
                    ∙ ap₂ (λ rs ms. records_after cfg rs a.position ms (code_of a.code)) alike.records outcome_alike.rig.in_flight
                    ∙ sym (postU.records f);
                within = postT.within e ∙ sym (postU.within f);
                lengths = long_one;
              }
          | no ne ↦
              let nf : event_no cfg m z a readZ k ≡ 0 → ⊥ = λ f. ne (refused_alike ∙ f) in
              let heldT = postT.held ne in
              let heldU = postU.held nf in
              record {
                seen = seen_one;
                records = ap₂ flight heldT.0 heldT.1 ∙ alike.records ∙ sym (ap₂ flight heldU.0 heldU.1);
                within = ap (rig_within cfg m) heldT.0 ∙ alike.within ∙ sym (ap (rig_within cfg m) heldU.0);
                lengths = long_one;
              }
        ]
          where
            seen_one : AlikeRigs (view cfg t.rig l') (view cfg u.rig k')
            seen_one = subst₂ AlikeRigs (sym postT.seen) (sym postU.seen) outcome_alike.rig

            long_one : sized cfg m l' ≡ sized cfg m k'
            long_one = postT.lengths ∙ alike.lengths ∙ sym postU.lengths

-- Two events of like rigs with the same call, board and buffer lent for a read, refused or not: one answer and one content of that buffer, and
-- two such rigs.
pub event_alike : {cfg : Config} {m : ℕ} {r z : Rig} {l k : Lent} → Alike cfg m r l z k → {a : BoardCall} {read : List ℕ}
    → {t u : Turn} {readT readU : List ℕ} {l' k' : Lent} → EventPost cfg m r a read l t readT l' → EventPost cfg m z a read k u readU k'
    → AlikeTurns cfg m t readT l' u readU k'
event_alike {cfg} {m} {r} {z} {l} {k} alike {a} {read} {t} {u} {readT} {readU} postT postU =
    let answer = answer_alike cfg m r z l k alike a read read refl postT postU in
    record {
      answer = answer;
      read =
          read_is t.answer read readT postT.untouched ∙ ap (λ x. shown x read) answer ∙ sym (read_is u.answer read readU postU.untouched);
      rigs = left_alike cfg m r z l k alike a read read refl postT postU;
    }

-- ---- the event by the part that it names

module _ {cfg : Config} {m : ℕ} {r z : Rig} {l k : Lent} (alike : Alike cfg m r l z k) (all : rig_within cfg m r ≡ true) (a : Call) where
  abbrev named_r : Places
  named_r = places_of cfg r.count a l.messages

  abbrev named_z : Places
  named_z = places_of cfg z.count a k.messages

  -- Two events of like rigs that pass question 6, each by the part that the event names there: one answer, and the rigs with what is left put
  -- back are alike.
  pub changes_alike : {nodeR nodeZ : Node} {stateR stateZ : client.State}
      → get_elem? r.servers named_r.server ≡ some nodeR → get_elem? r.clients named_r.client ≡ some stateR
      → get_elem? z.servers named_z.server ≡ some nodeZ → get_elem? z.clients named_z.client ≡ some stateZ
      → {board read : List ℕ} {x y : Change} {readX read_y : List ℕ} {l' k' : Lent}
      → ChangePost cfg m (part_at named_r nodeR stateR r.count) a board read l x readX l'
      → ChangePost cfg m (part_at named_z nodeZ stateZ z.count) a board read k y read_y k'
      → AlikeTurns cfg m (turned r x) readX l' (turned z y) read_y k'
  changes_alike nodeR stateR nodeZ stateZ {board} {read} postX postY =
      event_alike alike
      (changed cfg m r a board read l all (record { node = nodeR; client = stateR; count = refl }) (record { server = refl; client = refl }) postX)
      (changed cfg m z a board read k (sym alike.within ∙ all) (record { node = nodeZ; client = stateZ; count = refl }) (record { server = refl; client = refl }) postY)

-- ---- the places that an event names

module _ (n o : ℕ) (xs ys : List ℕ) (same : records n xs ≡ records o ys) (long : length xs ≡ length ys) where
  count_one : n ≡ o
  count_one = sym (length_records n xs) ∙ ap length same ∙ length_records o ys

  byte_one : (i offset : ℕ) → offset < 80 → i < n → byte_of i offset xs ≡ byte_of i offset ys
  byte_one i offset low h =
      let at : some (record_at i xs) ≡ some (record_at i ys) =
      sym (at_record n i xs h) ∙ ap (λ rs. get_elem? rs i) same ∙ at_record o i ys (omega (arith, h, count_one)) in
      sym (record_byte i offset xs low) ∙ ap (λ x. get_or x offset 0) (some-injective at) ∙ record_byte i offset ys low

  named_one : (code party i offset : ℕ) → offset < 80 → named_by n code party i offset xs ≡ named_by o code party i offset ys
  named_one code party i offset low =
      ap (λ x. cond (eqb code 3) x party)
      (by (stands n i xs) refl ∙ ap₂ (λ c w. cond (ltb i c && leb (80 * c) w) (byte_of i offset ys) 0) count_one long)
    where
      by : (b : Bool) → stands n i xs ≡ b → cond b (byte_of i offset xs) 0 ≡ cond b (byte_of i offset ys) 0
      by true e = byte_one i offset low (ltb-true i n (and_left (ltb i n) (leb (80 * n) (length xs)) e))
      by false e = refl

  -- They go by the records in flight: bytes that are not in use tell nothing.
  pub names_alike : (cfg : Config) (a : Call) → places_of cfg n a xs ≡ places_of cfg o a ys
  names_alike cfg a =
      ap₂ (λ s c. record { server = place_for cfg.n s; client = place_for cfg.c c })
      (named_one a.code a.party a.position 2 (omega arith)) (named_one a.code a.party a.position 1 (omega arith))

-- ---- a making, and a list of events

nothing_mapped : {A B : Type 0} (f : A → B) (xs : List A) → map f xs ≡ [] → xs ≡ []
nothing_mapped f [] e = refl
nothing_mapped f (x ∷ xs) e = cc

module _ (cfg : Config) (m : ℕ) (start : List ℕ) where
  made_empty : (l : Lent) {r : Made} {l' : Lent} → MakePost cfg m start l r l' → make_no cfg m start l ≡ 0 → flight r.rig l' ≡ []
  unfolding view model.fresh_rig
  made_empty l {r} {l'} post e = nothing_mapped (message_of cfg) (flight r.rig l') (ap (λ v. v.in_flight) (post.seen e))

  -- Two makings with buffers of the same lengths, whatever bytes they hold: one number, and where there is none two rigs alike.
  pub make_alike : {l k : Lent} {r z : Made} {l' k' : Lent} → sized cfg m l ≡ sized cfg m k → MakePost cfg m start l r l' → MakePost cfg m start k z k'
      → (verdict_number r.verdict ≡ verdict_number z.verdict) × (verdict_number r.verdict ≡ 0 → Alike cfg m r.rig l' z.rig k')
  unfolding make_questions
  make_alike {l} {k} {r} {z} {l'} {k'} long postR postZ =
      let one : make_no cfg m start l ≡ make_no cfg m start k =
      ap (λ b. first_no (rig_questions cfg m ++ ask 6 (eqb (length start) (board_length cfg) && b) ∷ [])) long in (
        postR.number ∙ one ∙ sym postZ.number,
        λ none_no.
            let e : make_no cfg m start l ≡ 0 = sym postR.number ∙ none_no in
            let f : make_no cfg m start k ≡ 0 = sym one ∙ e in
            record {
              seen = subst₂ AlikeRigs (sym (postR.seen e)) (sym (postZ.seen f)) (alike_self (fresh_rig cfg (starting_board cfg start)));
              records = made_empty l postR e ∙ sym (made_empty k postZ f);
              within = postR.within e ∙ sym (postZ.within f);
              lengths = postR.lengths ∙ long ∙ sym postZ.lengths;
            },
      )

  -- Two lists of events with the same calls, each from a making: the same answers, and rigs alike.
  pub runs_alike : {r z : Rig} {l k : Lent} {xs ys : List BoardEvent} (runs : Runs cfg m start r l xs) (others : Runs cfg m start z k ys)
      → SameCalls runs others → (xs ≡ ys) × Alike cfg m r l z k
  unfolding SameCalls
  runs_alike (made {l = l} b p e) (made {l = k} c q f) same =
      (refl, (make_alike (make_sized cfg m start l (sym p.number ∙ e) ∙ sym (make_sized cfg m start k (sym q.number ∙ f))) p q).1 e)
  runs_alike (made b p e) (event others x c lent lent' q) same = absurd same
  runs_alike (event runs a b read read' p) (made c q f) same = absurd same
  runs_alike (event {r = r} {l = l} runs a b read read' p) (event {r = z} {l = k} {l' = k'} {t = u} others x c lent lent' q) same =
      let before = runs_alike runs others same.0 in
      let post : EventPost cfg m z a lent k u lent' k' = subst (λ y. EventPost cfg m z y lent k u lent' k') (sym same.1) q in
      let told = answer_alike cfg m r z l k before.1 a read lent same.2 p post in (
        λ i. before.0 i ++ (record { call = same.1 i; answer = told i } ∷ []),
        left_alike cfg m r z l k before.1 a read lent same.2 p post,
      )
