-- Fresh parties: a server's element is encoded and put into its store; what the questions of a making show. Assumes nothing.
use Rattle.std.proofs.Common.{Ok, Err}
use Prim.Native.Nat.{ℕ, ◌≤◌}
use mathlib.Core.Path.{◌≡◌, refl, sym, ap, ap₂, ◌∙◌}
use mathlib.Core.Bool.{Bool, true, false, cond, ◌&&◌}
use mathlib.Core.List.{List, [], ◌∷◌}
use native.Mathlib.Omega.{arith}
use borrow.Author.Tests.{eq-eqb, eqb-true}
use lib.Dec.{eqb}
use lib.ListN.{length}
use Rattle.laws.proofs.Bools.{and_left, and_right}
use Rattle.config.specs.declared.Config.{Config}
use Rattle.config.specs.declared.Client.{Client as ClientNumber}
use Rattle.std.specs.Result.{IsOk}
use mathlib.Core.Bool.{true≢false}
use Rattle.record.proofs.Parties.{no_client, no-server}
use Rattle.config.proofs.Refusals.{refusal_some}
use Rattle.config.specs.Number.{NewClient, NewServer, NewServerPost}
use Rattle.config.specs.declared.Refusal.{Refusal}
use Rattle.config.specs.declared.Server.{Server as ServerNumber}
use Rattle.config.specs.Refusal.{Verdict}
use Rattle.config.specs.Config.{Valid, board_length, questions, store_length}
use Rattle.config.specs.Number.{NewClientPost, client_number, client_questions, server_number}
use Rattle.config.specs.Questions.{Question, ask, first_no, numbered, within}
use Rattle.config.specs.Refusal.{refusal_number, verdict_number}
use Rattle.config.proofs.Questions.{Given, first_no_given, first_no_no, first_no_pass, first_no_yes, last_yes, later, none_first, none_rest, numbered_both, questions_numbered, within_high, within_low, yes_next}
use Rattle.config.proofs.Refusals.{refusal_low}
use Rattle.config.proofs.Valid.{valid, valid_asked}
use Rattle.code.specs.Element.{element}
use Rattle.code.specs.Encode.{EncodePost}
use Rattle.code.proofs.Decoding.{length_element}
use Rattle.code.proofs.Around.{encodes}
use Rattle.record.specs.Element.{Element, element_with}
use Rattle.server.specs.declared.Stepped.{Stepped}
use Rattle.server.specs.Calls as server
use Rattle.server.specs.Within as limits
use Rattle.server.specs.View as serverView
use Rattle.server.proofs.Invariant.{fresh_within}
use Rattle.server.proofs.Laws as serverLaws
use Rattle.client.specs.declared.NewState.{NewState}
use Rattle.client.specs.declared.State as client
use Rattle.client.specs.Calls as clientCalls
use Rattle.client.specs.State.{lengths_within, phase_within, state_within}
use Rattle.protocol.specs.Server.{fresh_server}
use Rattle.parties.specs.declared.Node.{Node}
use Rattle.parties.specs.Fresh.{FreshClientPost, FreshServerPost, fresh_node, fresh_state, server_no, fresh_server_questions}
use Rattle.parties.specs.inner.Fresh.{NodePost, NodePre}

-- the questions of a server, where 1 to 5 and 21 are answered yes
module _ (cfg : Config) (s start store : ℕ) {asked : ℕ} (e : asked ≡ first_no (questions cfg)) (none_yet : asked ≡ 0) where
  abbrev long : Bool
  long = eqb start (board_length cfg) && eqb store (store_length cfg)

  abbrev others : List Question
  others = ask 6 long ∷ ask 8 (within 1 cfg.n s) ∷ []

  pub six_no : long ≡ false → 6 ≡ first_no (fresh_server_questions cfg s start store)
  unfolding fresh_server_questions
  six_no h = later cfg e none_yet others (sym (first_no_no 6 long _ h))

  pub eight_no : long ≡ true → within 1 cfg.n s ≡ false → 8 ≡ first_no (fresh_server_questions cfg s start store)
  unfolding fresh_server_questions
  eight_no h k = later cfg e none_yet others (sym (first_no_yes 6 long _ h ∙ first_no_no 8 _ [] k))

  pub none_no : long ≡ true → within 1 cfg.n s ≡ true → 0 ≡ first_no (fresh_server_questions cfg s start store)
  unfolding fresh_server_questions first_no
  none_no h k = later cfg e none_yet others (sym (first_no_yes 6 long (ask 8 (within 1 cfg.n s) ∷ []) h ∙ first_no_yes 8 (within 1 cfg.n s) [] k))

-- what they show
module _ (cfg : Config) (s : ℕ) (start store : List ℕ) where
  pub server_pre : server_no cfg s start store ≡ 0 → NodePre cfg s start store
  unfolding fresh_server_questions
  server_pre z =
      let six = yes_next 6 _ _ (omega arith) (none_rest (questions cfg) _ (questions_numbered cfg) z) in
      record {
        valid = valid cfg (none_first (questions cfg) _ z);
        inside = (yes_next 8 _ [] (omega arith) six.1).0;
        start_length = eqb-true (length start) (board_length cfg) (and_left _ _ six.0);
        store_length = eqb-true (length store) (store_length cfg) (and_right (eqb (length start) (board_length cfg)) _ six.0);
      }

  pub server_passes : Valid cfg → within 1 cfg.n s ≡ true → length start ≡ board_length cfg → length store ≡ store_length cfg → server_no cfg s start store ≡ 0
  server_passes v inside a b =
      sym (none_no cfg s (length start) (length store) refl (valid_asked cfg v)
      (ap₂ ◌&&◌ (eq-eqb (length start) (board_length cfg) a) (eq-eqb (length store) (store_length cfg) b)) inside)

  number_given : Given (server_no cfg s start store)
  unfolding fresh_server_questions numbered
  number_given = first_no_given (fresh_server_questions cfg s (length start) (length store)) (numbered_both (questions cfg) _ (questions_numbered cfg) refl)

  pub server_refused : (why : Refusal) → refusal_number why ≡ server_no cfg s start store → (x : Node)
      → x ≡ fresh_node 1 1 → FreshServerPost cfg s start store store (record { verdict = Err why; node = x })
  server_refused why e x least =
      let some = (refusal_some why e).1 in
      record { number = e; made = λ z. absurd (some z); seen = λ z. absurd (some z); long = refl; refused = λ _. (least, refl) }

  pub server-made : server_no cfg s start store ≡ 0 → (after : List ℕ) (x : Node) → NodePost cfg s start store after x
      → FreshServerPost cfg s start store after (record { verdict = (Ok tt); node = x })
  server-made z after x post =
      record {
        number = sym z;
        made = λ _. post.is;
        seen = λ _. post.seen;
        long = post.long;
        refused = λ ne. absurd (ne z);
      }

-- server s
module _ (cfg : Config) (s : ℕ) (start store : List ℕ) (pre : NodePre cfg s start store) where
  -- its element is encoded
  pub encoded : (buffer after : List ℕ) (r : Verdict) → length buffer ≡ cfg.e → EncodePost cfg start s buffer after r → after ≡ element cfg start s
  encoded buffer after r long post =
      encodes cfg start s buffer after r post pre.valid pre.start_length long (within_low 1 cfg.n s pre.inside)
      (within_high 1 cfg.n s pre.inside)

  -- and put into its store
  pub node_made : (me : ServerNumber) → server_number me ≡ s → (buffer after : List ℕ) → buffer ≡ element cfg start s → (r : Stepped)
      → server.FreshPost cfg me buffer store after r → NodePost cfg s start store after (record { state = r.state; up = true })
  unfolding server.fresh_questions first_no
  node_made me own buffer after is r post =
      let accepted : verdict_number r.verdict ≡ 0 =
      post.number
      ∙ first_no_pass (questions cfg) (ask 6 (eqb (length buffer) cfg.e && eqb (length store) (store_length cfg)) ∷ ask 8 (within 1 cfg.n (server_number me)) ∷ []) (questions_numbered cfg) (valid_asked cfg pre.valid)
      ∙ first_no_yes 6 _ (ask 8 (within 1 cfg.n (server_number me)) ∷ [])
      (ap₂ ◌&&◌ (eq-eqb (length buffer) cfg.e (ap length is ∙ length_element cfg start s)) (eq-eqb (length store) (store_length cfg) pre.store_length))
      ∙ first_no_yes 8 _ [] (ap (within 1 cfg.n) own ∙ pre.inside) in
      let length : server.fresh_length cfg me buffer store ≡ board_length cfg =
      ap (λ (b : Bool). cond b (board_length cfg) 0) (eq-eqb _ 0 (sym post.number ∙ accepted)) in
      let node : record { state = r.state; up = true } ≡ fresh_node (board_length cfg) s =
      ap (λ z. record { state = z; up = true }) post.state ∙ ap₂ fresh_node length own in
      record {
        is = node;
        seen = ap (λ (x : Node). serverView.view cfg x.state after) (sym node) ∙ serverLaws.fresh_view cfg me buffer store after r post accepted
            ∙ ap (λ (bs : List ℕ). fresh_server (element_with (board_length cfg) bs)) is;
        long = (serverLaws.fresh_valid cfg me buffer store after r post accepted).long ∙ sym pre.store_length;
      }

-- it passes question 6
pub node_within : (cfg : Config) (s : ℕ) (store : List ℕ) (e : Element) → e.length ≤ board_length cfg → within 1 cfg.n s ≡ true
    → serverView.view cfg (fresh_node (board_length cfg) s).state store ≡ fresh_server e → limits.state_within cfg (fresh_node (board_length cfg) s).state ≡ true
unfolding server.fresh_state
node_within cfg s store e fits inside is =
    serverLaws.within_state cfg (fresh_node (board_length cfg) s).state store inside (ap (limits.server_within cfg) is ∙ fresh_within cfg e fits)

-- client c
module _ (cfg : Config) (c : ℕ) (valid : Valid cfg) (inside : within 1 cfg.c c ≡ true) where
  client_asked : first_no (client_questions cfg c) ≡ 0
  unfolding client_questions
  client_asked = last_yes (questions cfg) 8 _ (questions_numbered cfg) (valid_asked cfg valid) inside

  pub client_is : (r : NewState) → FreshClientPost cfg c r → r.state ≡ fresh_state c
  client_is r post = post.made client_asked

  pub client_within : state_within cfg (fresh_state c) ≡ true
  unfolding state_within phase_within lengths_within
  client_within = rw inside

-- what its number, made, gives, or what refuses it
pub client_fresh : (cfg : Config) (c : ℕ) (got : NewClient) → NewClientPost cfg c got → (me : ClientNumber) → got ≡ Ok me → client_number me ≡ c → (r : NewState)
    → clientCalls.FreshPost cfg me r → FreshClientPost cfg c r
client_fresh cfg c got asked me is own r post =
    let none : first_no (client_questions cfg c) ≡ 0 = sym (sym (ap verdict_number is) ∙ asked.number) in
    record {
      number = post.number ∙ ap (λ n. first_no (client_questions cfg n)) own;
      made = λ z. post.state ∙ ap fresh_state own;
      refused = λ ne. absurd (ne none);
    }

pub client_refused : (cfg : Config) (c : ℕ) (got : NewClient) (why : Refusal) → NewClientPost cfg c got → got ≡ Err why → (x : client.State)
    → x ≡ fresh_state 1 → FreshClientPost cfg c (record { verdict = Err why; state = x })
client_refused cfg c got why post e x is =
    let number : refusal_number why ≡ first_no (client_questions cfg c) = sym (ap verdict_number e) ∙ post.number in
    record { number = number; made = λ z. absurd (omega (arith, refusal_low why, number, z)); refused = λ _. is }

-- a client or a server within the limits is made
pub some_client_made : (cfg : Config) (c : ℕ) → Valid cfg → (r : NewClient) → NewClientPost cfg c r → within 1 cfg.c c ≡ true → IsOk r
some_client_made cfg c v (Ok me) post h = refl
some_client_made cfg c v (Err why) post h = absurd (true≢false (sym h ∙ no_client cfg c v (Err why) why post refl))

pub some_server_made : (cfg : Config) (s : ℕ) → Valid cfg → (r : NewServer) → NewServerPost cfg s r → within 1 cfg.n s ≡ true → IsOk r
some_server_made cfg s v (Ok me) post h = refl
some_server_made cfg s v (Err why) post h = absurd (true≢false (sym h ∙ no-server cfg s v (Err why) why post refl))
