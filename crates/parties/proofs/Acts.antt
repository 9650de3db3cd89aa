-- What a call of the parties leaves, from what the party's own call leaves.
use Rattle.std.proofs.Common.{Ok, Err}
use Prim.Native.Nat.{ℕ}
use mathlib.Core.Path.{◌≡◌, refl, sym, ap, ap₂, subst, ◌∙◌}
use mathlib.Core.Bool.{Bool, true, false, cond, ◌&&◌, true≢false}
use mathlib.Core.List.{List}
use native.Mathlib.Omega.{arith}
use borrow.Author.Tests.{eq-eqb, ne_eqb}
use lib.Dec.{eqb}
use lib.ListN.{length}
use Rattle.laws.proofs.Bools.{and_left, and_right}
use Rattle.config.specs.declared.Client.{Client}
use Rattle.config.specs.declared.Config.{Config}
use Rattle.config.specs.declared.Refusal.{Refusal}
use Rattle.config.specs.Refusal.{Verdict}
use Rattle.config.specs.Number.{client_number, server_number}
use Rattle.config.specs.Refusal.{refusal_number, verdict_number}
use Rattle.record.proofs.Parties.{number_low}
use Rattle.config.specs.Config.{store_length}
use Rattle.server.specs.Within.{state_within as server_state_within}
use Rattle.server.specs.View as serverView
use Rattle.client.specs.declared.Ended.{Ended}
use Rattle.client.specs.declared.Ended.TheVariants.{Nothing, Written, Spent, Read}
use Rattle.client.specs.declared.Moved.{Moved}
use Rattle.client.specs.Calls.{Answered, unless_no}
use Rattle.client.specs.Send.{front, records_of}
use Rattle.client.specs.Calls.{ended_of, shown}
use Rattle.client.specs.State as clientView
use Rattle.client.specs.State.{state_within}
use Rattle.protocol.specs.Board.{refused}
use Rattle.protocol.specs.Boards.{BoardActed, BoardAnswer, BoardClient, BoardMessage, BoardMoved, BoardParties, BoardServer}
use Rattle.protocol.specs.Client as protocolClient
use Rattle.protocol.specs.Parties as protocol
use Rattle.protocol.specs.Parties.{with_pair}
use Rattle.parties.specs.declared.Acted.{Acted}
use Rattle.parties.specs.declared.Pair.{Pair}
use Rattle.parties.specs.Acts.{ActPost, Parts, among, answer_of, is_read, pair_within}
use Rattle.protocol.specs.Sound.{Sound}
use Rattle.parties.specs.inner.Acted.{ended_by, moved_on, refusing}

module _ (cfg : Config) (number : ℕ) (act : BoardParties → BoardActed) (x : Pair) (l : Parts) (sends read : List ℕ) where
  -- a refusal
  pub refused_act : (why : Refusal) → refusal_number why ≡ number → ActPost cfg number act x l sends read (refusing why x) l sends read
  unfolding records_of
  refused_act why e =
      let some_no : number ≡ 0 → ⊥ = λ z. omega (arith, number_low why, e, z) in
      record {
        seen = λ p. rw (ne_eqb number 0 some_no);
        answer = λ p. rw (ne_eqb number 0 some_no) (ap refused e);
        sent = λ p. rw (ne_eqb number 0 some_no);
        out = λ p. rw (ne_eqb number 0 some_no);
        sound = λ z. absurd (some_no z);
        untouched = λ _. refl;
        held = λ _. (refl, refl);
        me = (refl, refl);
        within = λ h _. h;
        long = (refl, refl, refl);
      }

  -- what was accepted: the protocol's act, and what it sends and answers
  module _ (none_no : number ≡ 0) (r : Acted) (l' : Parts) (sends' read' : List ℕ) (ms : List BoardMessage) (said : BoardAnswer)
      (is : (p : BoardParties) → act (among cfg p x l) ≡ record { parties = among cfg p r.pair l'; sends = ms; answer = said })
      (says : answer_of r.answer read' ≡ said) (many : r.sent ≡ length ms) (out : sends' ≡ front (records_of cfg ms) sends) (sound : Sound cfg ms)
      (untouched : is_read r.answer ≡ false → read' ≡ read)
      (me : (r.pair.node.state.me ≡ x.node.state.me) × (r.pair.client.me ≡ x.client.me))
      (within : pair_within cfg x ≡ true → length l.store ≡ store_length cfg → pair_within cfg r.pair ≡ true)
      (long : (length l'.store ≡ length l.store) × (length l'.kept ≡ length l.kept) × (length l'.elements ≡ length l.elements)) where
    pub accepted_act : ActPost cfg number act x l sends read r l' sends' read'
    accepted_act =
        record {
          seen = λ p. rw (eq-eqb number 0 none_no) (sym (ap (λ t. t.parties) (is p)));
          answer = λ p. rw (eq-eqb number 0 none_no) (says ∙ sym (ap (λ t. t.answer) (is p)));
          sent = λ p. rw (eq-eqb number 0 none_no) (many ∙ sym (ap (λ t. length t.sends) (is p)));
          out = λ p. rw (eq-eqb number 0 none_no) (out ∙ sym (ap (λ t. front (records_of cfg t.sends) sends) (is p)));
          sound = λ _ p. subst (λ t. Sound cfg t.sends) (sym (is p)) sound;
          untouched = untouched;
          held = λ some_no. absurd (some_no none_no);
          me = me;
          within = within;
          long = long;
        }

-- the answer is the protocol's
pub its_answer : (me : Client) (e : Ended) (read : List ℕ) → answer_of (ended_by me e) read ≡ protocol.answer_of (client_number me) (ended_of e read)
unfolding protocol.answer_of
its_answer me Nothing read = refl
its_answer me (Written t) read = refl
its_answer me Spent read = refl
its_answer me (Read t length) read = refl

-- the lent board stays but where a read ends
pub not_read : (me : Client) (e : Ended) (read read' : List ℕ) → is_read (ended_by me e) ≡ false → shown (ended_of e read') read ≡ read
not_read me Nothing read read' h = refl
not_read me (Written t) read read' h = refl
not_read me Spent read read' h = refl
not_read me (Read t length) read read' h = absurd (true≢false h)

-- A client's move: `move` is the protocol's, y the code's, by the number of the first question that is answered no.
module _ (cfg : Config) (number : ℕ) (act : BoardParties → BoardActed) (x : Pair) (l l' : Parts) (sends sends' read read' : List ℕ) (move : BoardMoved) (y : Moved) where
  abbrev s : ℕ
  s = server_number x.node.state.me

  abbrev v : BoardServer
  v = serverView.view cfg x.node.state l.store

  abbrev c : ℕ
  c = client_number x.client.me

  abbrev before : BoardClient
  before = clientView.view cfg x.client l.kept l.elements

  module _ (is : number ≡ 0 → (p : BoardParties) → act (among cfg p x l)
      ≡ record { parties = with_pair p s v x.node.up c move.client; sends = move.sends; answer = protocol.answer_of c move.ended })
      (sound : number ≡ 0 → Sound cfg move.sends)
      (answered : Answered cfg number x.client before (clientView.view cfg y.state l'.kept l'.elements) move sends sends' y)
      (ended : ended_of y.ended read' ≡ (unless_no number before move).ended)
      (lent : read' ≡ shown (unless_no number before move).ended read)
      (store : l'.store ≡ l.store)
      (stays : (number ≡ 0 → ⊥) → l' ≡ l)
      (long : (length l'.kept ≡ length l.kept) × (length l'.elements ≡ length l.elements)) where
    moved : y.verdict ≡ (Ok tt) → ActPost cfg number act x l sends read (moved_on (Ok tt) x y) l' sends' read'
    moved e =
        let none_no : number ≡ 0 = sym answered.number ∙ ap verdict_number e in
        let z : eqb number 0 ≡ true = eq-eqb number 0 none_no in
        let m : unless_no number before move ≡ move = ap (λ (b : Bool). cond b move (protocolClient.stays before)) z in
        let own : client_number y.state.me ≡ c = ap client_number answered.self in
        let seen : clientView.view cfg y.state l'.kept l'.elements ≡ move.client = answered.client ∙ ap (λ (t : BoardMoved). t.client) m in
        accepted_act cfg number act x l sends read none_no (moved_on (Ok tt) x y) l' sends' read' move.sends (protocol.answer_of c move.ended)
        (λ p. is none_no p
        ∙ λ i. record {
          parties = with_pair p s (serverView.view cfg x.node.state (sym store i)) x.node.up (sym own i) (sym seen i);
          sends = move.sends;
          answer = protocol.answer_of c move.ended;
        })
        (its_answer y.state.me y.ended read' ∙ ap₂ protocol.answer_of own (ended ∙ ap (λ (t : BoardMoved). t.ended) m))
        (answered.count ∙ ap (λ (t : BoardMoved). length t.sends) m)
        (answered.out ∙ ap (λ (t : BoardMoved). front (records_of cfg t.sends) sends) m)
        (sound none_no)
        (λ h. lent ∙ ap (λ o. shown o read) (sym ended) ∙ not_read y.state.me y.ended read read' h)
        (refl, answered.self)
        (λ h _. ap₂ ◌&&◌ (and_left (server_state_within cfg x.node.state) (state_within cfg x.client) h)
        (answered.within (and_right (server_state_within cfg x.node.state) (state_within cfg x.client) h)))
        (ap length store, long.0, long.1)

    refuses : (why : Refusal) → y.verdict ≡ Err why → ActPost cfg number act x l sends read (moved_on (Err why) x y) l' sends' read'
    unfolding protocolClient.stays records_of
    refuses why e =
        let same : refusal_number why ≡ number = sym (ap verdict_number e) ∙ answered.number in
        let some_no : number ≡ 0 → ⊥ = λ z. omega (arith, number_low why, same, z) in
        let z : eqb number 0 ≡ false = ne_eqb number 0 some_no in
        let m : unless_no number before move ≡ protocolClient.stays before = ap (λ (b : Bool). cond b move (protocolClient.stays before)) z in
        let sends-stay : sends' ≡ sends = answered.out ∙ ap (λ (t : BoardMoved). front (records_of cfg t.sends) sends) m in
        let read_stays : read' ≡ read = lent ∙ ap (λ (t : BoardMoved). shown t.ended read) m in
        subst (λ (w : Parts). ActPost cfg number act x l sends read (refusing why x) w sends' read') (sym (stays some_no))
        (subst (λ (w : List ℕ). ActPost cfg number act x l sends read (refusing why x) l w read') (sym sends-stay)
        (subst (λ (w : List ℕ). ActPost cfg number act x l sends read (refusing why x) l sends w) (sym read_stays)
        (refused_act cfg number act x l sends read why same)))

    pub client_act : (r : Acted) → r ≡ moved_on y.verdict x y → ActPost cfg number act x l sends read r l' sends' read'
    client_act r e = subst (λ (w : Acted). ActPost cfg number act x l sends read w l' sends' read') (sym e) (by y.verdict refl)
      where
        by : (w : Verdict) → y.verdict ≡ w → ActPost cfg number act x l sends read (moved_on w x y) l' sends' read'
        by (Ok tt) h = moved h
        by (Err why) h = refuses why h
