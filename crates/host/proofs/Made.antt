-- Fresh parties that the calls made are the protocol's fresh parties. Assumes nothing.
use Prim.Native.Nat.{ℕ, ◌≤◌}
use mathlib.Core.Path.{◌≡◌, refl, sym, ap, subst, ◌∙◌}
use mathlib.Core.Bool.{Bool, true, ◌&&◌}
use mathlib.Core.List.{List, [], ◌∷◌}
use native.Mathlib.Omega.{arith}
use borrow.Author.Tests.{eq-eqb, eqb-true}
use lib.Dec.{eqb}
use lib.ListN.{length}
use Rattle.std.proofs.Common.{Ok}
use Rattle.laws.specs.Bytes.{Bytes}
use Rattle.laws.proofs.Bools.{and_left, and_right}
use Rattle.config.specs.declared.Config.{Config}
use Rattle.config.specs.Config.{Valid, board_length, questions, store_length}
use Rattle.config.specs.Number.{client_number, server_number}
use Rattle.config.specs.Questions.{ask, first_no, numbered, within}
use Rattle.config.proofs.Questions.{first_no_pass, first_no_yes, none_rest, questions_numbered, within_true, yes_next}
use Rattle.config.proofs.Valid.{valid, valid_asked}
use Rattle.code.specs.Encode.{encode_questions}
use Rattle.record.specs.Element.{element_with}
use Rattle.protocol.specs.Boards.{Board, IsBoard, fresh_parties, starting_board}
use Rattle.protocol.specs.Client as protocol
use Rattle.protocol.specs.Hosts.{fresh}
use Rattle.protocol.specs.Parties as parties
use Rattle.protocol.specs.Server.{fresh_server}
use Rattle.protocol.proofs.Cut.{cut_all}
use Rattle.server.specs.declared.State as server
use Rattle.server.specs.Calls as serverCalls
use Rattle.server.specs.View as serverView
use Rattle.server.proofs.Laws.{fresh_view}
use Rattle.client.specs.declared.State as client
use Rattle.client.specs.Calls as clientCalls
use Rattle.client.specs.State as clientView
use Rattle.states.specs.Clients as clients
use Rattle.states.specs.Servers as servers
use Rattle.states.proofs.clients.Laws as clientLaws
use Rattle.states.proofs.servers.Laws as serverLaws
use Rattle.host.specs.Calls.{fresh_server_questions}
use Rattle.host.specs.Config.{config_length, config_of, config_questions}
use Rattle.host.specs.inner.Told.{ConfigTold}
use Rattle.host.specs.Runs.{ClientKept, ClientMade, Kept, ServerKept, ServerMade}
use Rattle.host.proofs.Tied.{ClientIs, Comes, ServerIs}

pub config_numbered : (config : List ℕ) → numbered (config_questions config) ≡ true
unfolding config_questions numbered questions
config_numbered config = refl

-- a configuration of which no question is answered no
pub config_valid : (config : List ℕ) → first_no (config_questions config) ≡ 0 → Valid (config_of config)
unfolding config_questions
config_valid config h =
    valid (config_of config) (yes_next 6 (eqb (length config) config_length) (questions (config_of config)) (omega arith) h).1

-- the same of the configuration that bytes told
pub valid_told : (config : List ℕ) {cfg : Config} → ConfigTold config (Ok cfg) → Valid cfg
valid_told config told = subst Valid (sym told.gives) (config_valid config (sym told.number))

module _ (config start : List ℕ) where
  abbrev cfg : Config
  cfg = config_of config

  abbrev origin : Board
  origin = starting_board cfg start

  module _ (ok : Valid cfg) where
    -- the starting board has V bytes, as the encoding of an element shows
    start_long : (s : ℕ) (x : ServerKept) → ServerMade config start s x → length start ≡ board_length cfg
    unfolding encode_questions
    start_long s x made =
        let sized = eqb (length start) (board_length cfg) && eqb (length made.part) cfg.e in
        let later = (yes_next 6 (eqb (length config) config_length) _ (omega arith) (sym made.encoded.number)).1 in
        let six = yes_next 6 sized (ask 18 (within 1 cfg.n s) ∷ []) (omega arith) (none_rest (questions cfg) _ (questions_numbered cfg) later) in
        eqb-true (length start) (board_length cfg) (and_left (eqb (length start) (board_length cfg)) (eqb (length made.part) cfg.e) six.0)

    pub start_board : Bytes start → ((s : ℕ) → within 1 cfg.n s ≡ true → (x : ServerKept) × ServerMade config start s x) → IsBoard cfg origin
    start_board bytes made =
        let one = made 1 (within_true 1 cfg.n 1 (omega arith) ok.n_low) in
        let whole = start_long 1 one.0 one.1 in
        record { whole = whole; fits = omega arith; filled = record { bytes = bytes; zeros = cut_all (board_length cfg) start (omega (arith, whole)) } }

  module _ (ok : Valid cfg) where
    -- a server
    module _ (s : ℕ) (here : within 1 cfg.n s ≡ true) (x : ServerKept) (made : ServerMade config start s x) where
      abbrev new : server.State
      new = serverCalls.fresh_state (record { 0 = s }) (board_length cfg)

      abbrev lengths : Bool
      lengths = eqb (length made.element) cfg.e && eqb (length made.store_before) (store_length cfg)

      sized : lengths ≡ true
      unfolding fresh_server_questions
      sized =
          let state = eqb (length made.state_before) servers.packed_length in
          let later = none_rest (config_questions config) _ (config_numbered config) (sym made.made.number) in
          and_right state lengths (yes_next 6 (state && lengths) _ (omega arith) later).0

      asks : first_no (serverCalls.fresh_questions cfg (record { 0 = s }) made.element made.store_before) ≡ 0
      unfolding serverCalls.fresh_questions first_no
      asks =
          first_no_pass (questions cfg) (ask 6 lengths ∷ ask 8 (within 1 cfg.n s) ∷ []) (questions_numbered cfg) (valid_asked cfg ok)
          ∙ first_no_yes 6 lengths (ask 8 (within 1 cfg.n s) ∷ []) sized ∙ first_no_yes 8 (within 1 cfg.n s) [] here

      as_fresh : serverCalls.FreshPost cfg (record { 0 = s }) made.element made.store_before x.store (record { verdict = Ok tt; state = new })
      as_fresh =
          record {
            number = sym asks;
            state = rw (eq-eqb (first_no (serverCalls.fresh_questions cfg (record { 0 = s }) made.element made.store_before)) 0 asks);
            store = made.made.stored ∙ rw (eq-eqb (first_no (serverCalls.fresh_questions cfg (record { 0 = s }) made.element made.store_before)) 0 asks);
          }

      back : servers.state_of x.state ≡ servers.tidy new
      back = (made.made.made refl).back

      new_one : new.count ≤ 8
      unfolding serverCalls.fresh_state
      new_one = omega arith

      new_me : server_number (servers.tidy new).me ≡ s
      unfolding servers.tidy serverCalls.fresh_state
      new_me = refl

      pub server-made : ServerIs cfg s x ((fresh_parties cfg origin).servers s)
      unfolding parties.fresh_parties
      server-made =
          rw here (record {
            me = ap (λ (y : server.State). server_number y.me) back ∙ new_me;
            seen = ap (λ (y : server.State). serverView.view cfg y x.store) back
                ∙ serverLaws.tidy_view cfg new x.store new_one
                ∙ fresh_view cfg (record { 0 = s }) made.element made.store_before x.store (record { verdict = Ok tt; state = new }) as_fresh refl
                ∙ ap (λ (bs : List ℕ). fresh_server (element_with (board_length cfg) bs)) made.encoded.encodes;
          })

    -- a client
    module _ (c : ℕ) (here : within 1 cfg.c c ≡ true) (x : ClientKept) (made : ClientMade config c x) where
      abbrev idle : client.State
      idle = clientCalls.fresh_state (record { 0 = c })

      returns : clients.state_of x.state ≡ clients.tidy idle
      returns = (made.made.made refl).back

      idle_within : clientView.state_within cfg idle ≡ true
      unfolding clientView.state_within clientView.phase_within clientView.lengths_within
      idle_within = rw here

      idle_me : client_number (clients.tidy idle).me ≡ c
      unfolding clients.tidy
      idle_me = refl

      idle_view : clientView.view cfg idle x.board x.elements ≡ protocol.fresh_client
      unfolding clientView.view clientView.phase_of protocol.fresh_client
      idle_view = refl

      pub client-made : ClientIs cfg c x ((fresh_parties cfg origin).clients c)
      unfolding parties.fresh_parties
      client-made =
          record {
            me = ap (λ (y : client.State). client_number y.me) returns ∙ idle_me;
            seen = ap (λ (y : client.State). clientView.view cfg y x.board x.elements) returns
                ∙ clientLaws.tidy_view cfg idle x.board x.elements idle_within ok.n_high ∙ idle_view;
          }

    -- all of them, with nothing sent
    pub made_comes : {k : Kept} → ((s : ℕ) → within 1 cfg.n s ≡ true → ServerMade config start s (k.servers s))
        → ((c : ℕ) → within 1 cfg.c c ≡ true → ClientMade config c (k.clients c)) → k.sent ≡ [] → Comes cfg origin k []
    made_comes {k} ofServers ofClients nothing =
        record {
          parties = fresh_parties cfg origin;
          messages = [];
          hosted = fresh;
          tied =
              record {
                servers = λ s h. server-made s h (k.servers s) (ofServers s h);
                clients = λ c h. client-made c h (k.clients c) (ofClients c h);
                sent = nothing;
              };
        }
