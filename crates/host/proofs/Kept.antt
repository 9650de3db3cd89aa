-- What the calls of servers and clients leave, from what the calls below leave. Assumes nothing.
use Prim.Native.Nat.{ℕ, ◌≤◌, ◌<◌}
use mathlib.Core.Path.{◌≡◌, refl, sym, ap, subst, ◌∙◌}
use mathlib.Core.Bool.{Bool, true, false≢true}
use mathlib.Core.Option.{Option}
use mathlib.Core.List.{List, [], ◌∷◌, ◌++◌}
use native.Mathlib.Omega.{arith}
use borrow.Author.Tests.{eq-eqb, eqb-true, ne_eqb}
use lib.Dec.{eqb}
use lib.ListN.{length}
use Rattle.std.proofs.Common.{Ok, Err}
use Rattle.laws.proofs.Bools.{and_left}
use Rattle.config.specs.declared.Config.{Config}
use Rattle.config.specs.declared.Refusal.{Refusal}
use Rattle.config.specs.Config.{Valid, questions}
use Rattle.config.proofs.Valid.{valid}
use Rattle.config.specs.Questions.{Question, ask, first_no}
use Rattle.config.specs.Refusal.{refusal_number, verdict_number}
use Rattle.config.proofs.Questions.{first_no_no, first_no_yes, last_all, none_first, questions_numbered, yes_next}
use Rattle.config.proofs.Refusals.{refusal_some}
use Rattle.states.specs.Clients as clients
use Rattle.states.specs.Servers as servers
use Rattle.server.specs.declared.Stepped.{Stepped}
use Rattle.server.specs.Calls as server
use Rattle.client.specs.declared.State as clientState
use Rattle.client.specs.declared.Ended.{Ended}
use Rattle.client.specs.declared.Moved.{Moved}
use Rattle.client.specs.Calls as client
use Rattle.client.specs.Questions as asking
use Rattle.client.specs.Send.{records_of}
use Rattle.client.specs.State.{Lent}
use Rattle.client.specs.State as clientView
use Rattle.protocol.specs.Boards.{Board, BoardClient, BoardMoved, decode, encode, order}
use Rattle.protocol.proofs.Basics.{cond_elim}
use Rattle.protocol.proofs.Few.{step_few}
use Rattle.protocol.specs.Client as protocol
use Rattle.host.specs.declared.told.OfClient.{OfClient}
use Rattle.host.specs.declared.told.OfServer.{OfServer}
use Rattle.host.specs.Calls.{BeginPost, ClientStepPost, ServerStepPost, client_step_questions}
use Rattle.host.specs.Config.{client_questions, config_length, config_of, server_questions}
use Rattle.host.specs.Outcome.{OutcomePost, outcome_length}
use Rattle.host.specs.inner.Told.{ClientTold, ServerTold}
use Rattle.host.proofs.Clients.{client_numbered}
use Rattle.host.proofs.Servers.{server_numbered}
use Rattle.host.proofs.told.Laws.{not_zero, passes_told, stops_told}

-- where the bytes of a state pass, they have its length
pub server_long : (config state : List ℕ) → first_no (server_questions config state) ≡ 0 → length state ≡ servers.packed_length
unfolding server_questions servers.unpack_questions servers.is_state
server_long config state h =
    let cfg = config_of config in
    let later = (yes_next 6 (eqb (length config) config_length) _ (omega arith) h).1 in
    let six = (last_all (questions cfg) 6 (servers.is_state cfg state) (questions_numbered cfg) (omega arith) later).1 in
    eqb-true (length state) servers.packed_length (and_left (eqb (length state) servers.packed_length) _ six)

pub client_long : (config state : List ℕ) → first_no (client_questions config state) ≡ 0 → length state ≡ clients.packed_length
unfolding client_questions clients.unpack_questions clients.is_state
client_long config state h =
    let cfg = config_of config in
    let later = (yes_next 6 (eqb (length config) config_length) _ (omega arith) h).1 in
    let six = (last_all (questions cfg) 6 (clients.is_state cfg state) (questions_numbered cfg) (omega arith) later).1 in
    eqb-true (length state) clients.packed_length (and_left (eqb (length state) clients.packed_length) _ six)

-- and their configuration is valid
pub client_valid : (config state : List ℕ) → first_no (client_questions config state) ≡ 0 → Valid (config_of config)
unfolding client_questions clients.unpack_questions
client_valid config state h =
    valid (config_of config) (none_first (questions (config_of config)) _ (yes_next 6 (eqb (length config) config_length) _ (omega arith) h).1)

-- ---- a server's step

module _ (config state message store answer : List ℕ) where
  abbrev server_asks : List Question
  server_asks = server.step_questions (config_of config) (servers.state_of state) message (length store) (length answer)

  -- the configuration or the state is refused
  pub step_not_told : {why : Refusal} {n : ℕ} → ServerTold config state (Err why) → n ≡ refusal_number why
      → ServerStepPost config state message store answer state store answer n
  step_not_told told is =
      record {
        number = stops_told told is server_asks;
        left = record { verdict = Ok tt; state = servers.state_of state };
        step = λ z. absurd (not_zero told refl (told.number ∙ z));
        kept = λ z. absurd (not_zero told is z);
        held = λ _. (refl, refl, refl);
      }

  module _ {x : OfServer} (told : ServerTold config state (Ok x)) {store' answer' : List ℕ} {left : Stepped}
      (post : server.StepPost x.cfg x.state message store answer store' answer' left) where
    below : server.StepPost (config_of config) (servers.state_of state) message store answer store' answer' left
    below = subst (λ (y : OfServer). server.StepPost y.cfg y.state message store answer store' answer' left) told.gives post

    number : (n : ℕ) → n ≡ verdict_number left.verdict → n ≡ first_no (server_questions config state ++ server_asks)
    number n is = passes_told told (server_numbered config state) server_asks n (is ∙ below.number)

    -- the step is refused
    pub step_not_taken : {why : Refusal} {n : ℕ} → left.verdict ≡ Err why → n ≡ refusal_number why
        → ServerStepPost config state message store answer state store' answer' n
    step_not_taken {why} {n} refused is =
        let e : refusal_number why ≡ first_no server_asks = sym (ap verdict_number refused) ∙ below.number in
        let some_no = (refusal_some why e).1 in
        record {
          number = number n (is ∙ sym (ap verdict_number refused));
          left = left;
          step = λ _. below;
          kept = λ z. absurd ((refusal_some why (sym is)).1 z);
          held = λ _. (refl, below.store some_no, below.answer ∙ rw (ne_eqb (first_no server_asks) 0 some_no));
        }

    -- or taken
    pub step_taken : left.verdict ≡ Ok tt → (state' : List ℕ) → servers.PackPost left.state state'
        → ServerStepPost config state message store answer state' store' answer' 0
    step_taken taken state' packed =
        record {
          number = number 0 (sym (ap verdict_number taken));
          left = left;
          step = λ _. below;
          kept = λ _. packed;
          held = λ refuses. absurd (refuses refl);
        }

-- ---- a client's begin

module _ (config state : List ℕ) where
  pub begin_not_told : (asks : List Question) (board : Option Board) (kept sends : List ℕ) {why : Refusal} {n : ℕ} → ClientTold config state (Err why)
      → n ≡ refusal_number why → BeginPost config state asks board kept sends state kept sends n
  begin_not_told asks board kept sends told is =
      record {
        number = stops_told told is asks;
        left = record { verdict = Ok tt; state = clients.state_of state; sent = 0; ended = Ended.Nothing };
        begins = λ z. absurd (not_zero told refl (told.number ∙ z));
        saved = λ z. absurd (not_zero told is z);
        held = λ _. (refl, refl, refl);
      }

  -- the questions are those of a configuration and a state
  module _ {x : OfClient} (told : ClientTold config state (Ok x)) (asks : Config → clientState.State → List Question) (board : Option Board)
      {kept kept' sends sends' : List ℕ} {left : Moved}
      (post : (es : List ℕ) → client.BeginPost x.cfg (first_no (asks x.cfg x.state)) x.state board kept kept' es sends sends' left) where
    abbrev asked : List Question
    asked = asks (config_of config) (clients.state_of state)

    begun : (es : List ℕ) → client.BeginPost (config_of config) (first_no asked) (clients.state_of state) board kept kept' es sends sends' left
    begun es =
        subst (λ (y : OfClient). client.BeginPost y.cfg (first_no (asks y.cfg y.state)) y.state board kept kept' es sends sends' left) told.gives (post es)

    begun_number : (n : ℕ) → n ≡ verdict_number left.verdict → n ≡ first_no (client_questions config state ++ asked)
    begun_number n is = passes_told told (client_numbered config state) asked n (is ∙ (begun []).answered.number)

    pub begin_not_taken : {why : Refusal} {n : ℕ} → left.verdict ≡ Err why → n ≡ refusal_number why
        → BeginPost config state asked board kept sends state kept' sends' n
    unfolding protocol.stays records_of
    begin_not_taken {why} {n} refused is =
        let e : refusal_number why ≡ first_no asked = sym (ap verdict_number refused) ∙ (begun []).answered.number in
        let is-no = ne_eqb (first_no asked) 0 (refusal_some why e).1 in
        record {
          number = begun_number n (is ∙ sym (ap verdict_number refused));
          left = left;
          begins = λ _ es. begun es;
          saved = λ z. absurd ((refusal_some why (sym is)).1 z);
          held = λ _. (refl, (begun []).keeps ∙ rw is-no, (begun []).answered.out ∙ rw is-no);
        }

    pub begin_taken : left.verdict ≡ Ok tt → (state' : List ℕ) → clients.PackPost left.state state' → BeginPost config state asked board kept sends state' kept' sends' 0
    begin_taken taken state' packed =
        record {
          number = begun_number 0 (sym (ap verdict_number taken));
          left = left;
          begins = λ _ es. begun es;
          saved = λ _. packed;
          held = λ refuses. absurd (refuses refl);
        }

  -- ---- a client's step

  module _ (message : List ℕ) (l : Lent) (outcome : List ℕ) where
    abbrev sized : Bool
    sized = eqb (length outcome) outcome_length

    abbrev client_asks : List Question
    client_asks = asking.step_questions (config_of config) (clients.state_of state) message l

    abbrev early : List Question
    early = client_questions config state

    to_six : first_no (early ++ ask 6 sized ∷ []) ≡ 0 → (first_no early ≡ 0) × (sized ≡ true)
    to_six z = last_all early 6 sized (client_numbered config state) (omega arith) z

    -- the configuration or the state is refused, or the outcome's length
    pub client_not_told : {why : Refusal} {n : ℕ} → ClientTold config state (Err why) → n ≡ refusal_number why
        → ClientStepPost config state message l outcome state l outcome n
    unfolding client_step_questions
    client_not_told told is =
        record {
          number = stops_told told is (ask 6 sized ∷ client_asks);
          left = record { verdict = Ok tt; state = clients.state_of state; sent = 0; ended = Ended.Nothing };
          step = λ z. absurd (not_zero told refl (told.number ∙ (to_six z).0));
          saved = λ z. absurd (not_zero told is z);
          tells = λ z. absurd (not_zero told is z);
          held = λ _. (refl, refl, refl);
        }

    module _ {x : OfClient} (told : ClientTold config state (Ok x)) where
      pub client_short : (length outcome ≡ outcome_length → ⊥) → ClientStepPost config state message l outcome state l outcome 6
      unfolding client_step_questions
      client_short short =
          let is-no = ne_eqb (length outcome) outcome_length short in
          record {
            number = passes_told told (client_numbered config state) (ask 6 sized ∷ client_asks) 6 (sym (first_no_no 6 sized client_asks is-no));
            left = record { verdict = Ok tt; state = clients.state_of state; sent = 0; ended = Ended.Nothing };
            step = λ z. absurd (false≢true (sym is-no ∙ (to_six z).1));
            saved = λ z. absurd (omega (arith, z));
            tells = λ z. absurd (omega (arith, z));
            held = λ _. (refl, refl, refl);
          }

      module _ (long : length outcome ≡ outcome_length) {l' : Lent} {left : Moved} (post : client.StepPost x.cfg x.state message l l' left) where
        stepped : client.StepPost (config_of config) (clients.state_of state) message l l' left
        stepped = subst (λ (y : OfClient). client.StepPost y.cfg y.state message l l' left) told.gives post

        stepped_number : (n : ℕ) → n ≡ verdict_number left.verdict → n ≡ first_no (client_step_questions config state message l (length outcome))
        unfolding client_step_questions
        stepped_number n is =
            passes_told told (client_numbered config state) (ask 6 sized ∷ client_asks) n
            (is ∙ stepped.answered.number ∙ sym (first_no_yes 6 sized client_asks (eq-eqb (length outcome) outcome_length long)))

        pub client_not_taken : {why : Refusal} {n : ℕ} → left.verdict ≡ Err why → n ≡ refusal_number why
            → ClientStepPost config state message l outcome state l' outcome n
        unfolding protocol.stays records_of
        client_not_taken {why} {n} refused is =
            let e : refusal_number why ≡ first_no client_asks = sym (ap verdict_number refused) ∙ stepped.answered.number in
            let is-no = ne_eqb (first_no client_asks) 0 (refusal_some why e).1 in
            let board : l'.board ≡ l.board = stepped.lent ∙ rw is-no in
            let elements : l'.elements ≡ l.elements = stepped.elements ∙ rw is-no in
            let sends : l'.sends ≡ l.sends = stepped.answered.out ∙ rw is-no in
            let refuses = (refusal_some why (sym is)).1 in
            record {
              number = stepped_number n (is ∙ sym (ap verdict_number refused));
              left = left;
              step = λ _. stepped;
              saved = λ z. absurd (refuses z);
              tells = λ z. absurd (refuses z);
              held = λ _. (refl, (λ i. record { kept = stepped.kept i; elements = elements i; sends = sends i; board = board i }), refl);
            }

        -- it sends few
        pub client_few : left.sent < 256
        unfolding protocol.stays
        client_few =
            let cfg = config_of config in
            let seen : BoardClient = clientView.seen cfg (clients.state_of state) l in
            let few = cond_elim (λ (y : BoardMoved). length y.sends ≤ cfg.n) (eqb (first_no client_asks) 0) (client.client_step cfg (clients.state_of state) message l) (protocol.stays seen)
            (λ _. step_few (order cfg) (encode cfg) (decode cfg) cfg _ _ _) (λ _. omega arith) in
            omega (arith, stepped.answered.count, few, (client_valid config state (sym told.number)).n_high)

        pub client_taken : left.verdict ≡ Ok tt → (state' outcome' : List ℕ) → clients.PackPost left.state state' → OutcomePost left.ended left.sent outcome'
            → ClientStepPost config state message l outcome state' l' outcome' 0
        client_taken taken state' outcome' packed tells =
            record {
              number = stepped_number 0 (sym (ap verdict_number taken));
              left = left;
              step = λ _. stepped;
              saved = λ _. packed;
              tells = λ _. tells;
              held = λ refuses. absurd (refuses refl);
            }
