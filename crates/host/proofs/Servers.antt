-- A server's step, accepted or refused, is one of the protocol's, or nothing. Assumes nothing.
use Prim.Native.Nat.{ℕ}
use mathlib.Core.Path.{◌≡◌, refl, sym, ap, ap₂, subst, ◌∙◌}
use mathlib.Core.Bool.{true}
use mathlib.Core.List.{List, [], ◌∷◌, ◌++◌, map, append-nil, Memᴰ}
use native.Mathlib.Decide.{ℕ_discrete}
use borrow.Author.Tests.{eq-eqb, eqb-true, ne_eqb}
use lib.Dec.{eqb}
use lib.ListN.{length}
use Rattle.laws.proofs.Bools.{and_left}
use Rattle.config.specs.declared.Config.{Config}
use Rattle.config.specs.Config.{Valid, questions}
use Rattle.config.specs.Number.{server_number}
use Rattle.config.specs.Questions.{first_no, numbered, within}
use Rattle.config.proofs.Questions.{none_first, none_rest}
use Rattle.record.specs.Kinds.{is_for_server}
use Rattle.record.specs.Record.{message_of, of_config, record_of, well_formed}
use Rattle.record.proofs.Laws.{reads_back}
use Rattle.protocol.specs.Boards.{Board, BoardEvent, BoardMessage, BoardParties, BoardServed, BoardServer, IsBoard, server_step}
use Rattle.protocol.specs.Hosts.{serves}
use Rattle.protocol.specs.Number.{to_list, upd}
use Rattle.protocol.specs.Parties as parties
use Rattle.protocol.proofs.Basics.{upd_own}
use Rattle.protocol.proofs.Hosted.{hosted_fits}
use Rattle.server.specs.declared.State.{State}
use Rattle.server.specs.Calls.{StepPost, for_server, step_questions}
use Rattle.server.specs.View.{view}
use Rattle.server.specs.Within.{ValidState}
use Rattle.server.proofs.Asked.{passed_valid, step_accepted}
use Rattle.server.proofs.Laws.{OnMessage, on_message}
use Rattle.server.proofs.Limits.{state_eight}
use Rattle.states.specs.Servers.{state_of, tidy, unpack_questions}
use Rattle.states.proofs.servers.Laws.{tidy_me, tidy_view}
use Rattle.host.specs.Calls.{ServerStepPost}
use Rattle.host.specs.Config.{config_of, server_questions}
use Rattle.host.specs.Runs.{Handed, Kept, ServerKept, after_server, answer_sent, served}
use Rattle.host.proofs.Tied.{Comes, ServerIs, Tied, both_changed, sent_more, was_sent}

pub server_numbered : (config state : List ℕ) → numbered (server_questions config state) ≡ true
unfolding server_questions unpack_questions numbered questions
server_numbered config state = refl

module _ (config : List ℕ) (origin : Board) where
  abbrev cfg : Config
  cfg = config_of config

  module _ (valid : Valid cfg) (is_board : IsBoard cfg origin) {k : Kept} {events : List BoardEvent} (a : Comes cfg origin k events) (s : ℕ) (here : within 1 cfg.n s ≡ true)
      (message answer : List ℕ) (handed : Handed config k.sent message) {state' store' answer' : List ℕ} {told : ℕ}
      (post : ServerStepPost config (k.servers s).state message (k.servers s).store answer state' store' answer' told) where
    abbrev before : State
    before = state_of (k.servers s).state

    abbrev store : List ℕ
    store = (k.servers s).store

    abbrev left : ServerKept
    left = served state' store'

    abbrev p : BoardParties
    p = a.parties

    is : ServerIs cfg s (k.servers s) (p.servers s)
    is = a.tied.servers s here

    -- refused: all is as it was
    server_refused : (told ≡ 0 → ⊥) → Comes cfg origin (after_server k s left (answer_sent told answer')) events
    server_refused refuses =
        let held = post.held refuses in
        let same : left ≡ k.servers s = λ i. record { state = held.0 i; store = held.1 i } in
        let kept : upd k.servers s left ≡ k.servers = ap (upd k.servers s) same ∙ upd_own k.servers s in
        let none-sent : k.sent ++ answer_sent told answer' ≡ k.sent = rw (ne_eqb told 0 refuses) (append-nil k.sent) in
        subst (λ (z : Kept). Comes cfg origin z events) (λ i. record { servers = sym kept i; clients = k.clients; sent = sym none-sent i }) a

    -- accepted: the protocol's server does its step on a message that was sent
    module _ (accepted : told ≡ 0) where
      asked : first_no (server_questions config (k.servers s).state ++ step_questions cfg before message (length store) (length answer)) ≡ 0
      asked = sym post.number ∙ accepted

      front : first_no (server_questions config (k.servers s).state) ≡ 0
      front = none_first (server_questions config (k.servers s).state) (step_questions cfg before message (length store) (length answer)) asked

      rest : first_no (step_questions cfg before message (length store) (length answer)) ≡ 0
      rest =
          none_rest (server_questions config (k.servers s).state) (step_questions cfg before message (length store) (length answer))
          (server_numbered config (k.servers s).state) asked

      held : ValidState cfg before store
      held = passed_valid {store = store} (step_accepted cfg before message (length store) (length answer) rest).0

      well : well_formed cfg message ≡ true
      well = (step_accepted cfg before message (length store) (length answer) rest).0.well-formed

      eighty : length answer ≡ 80
      eighty = (step_accepted cfg before message (length store) (length answer) rest).0.answer_eighty

      origin_of : (m : BoardMessage) × (Memᴰ m a.messages) × (message ≡ record_of cfg m)
      origin_of = was_sent config a.tied message handed well

      abbrev m : BoardMessage
      m = origin_of.0

      good : of_config cfg m ≡ true
      good = (hosted_fits cfg valid origin is_board a.hosted).sent.each m origin_of.1

      reads : message_of cfg message ≡ m
      reads = ap (message_of cfg) origin_of.2 ∙ reads_back cfg valid m good

      mine : for_server (server_number before.me) m ≡ true
      mine =
          ap (for_server (server_number before.me)) (sym reads)
          ∙ (step_accepted cfg before message (length store) (length answer) rest).1

      on : OnMessage cfg before m store store' answer' post.left
      on =
          on_message cfg before m store answer store' answer' post.left
          held good mine eighty
          (subst (λ (bs : List ℕ). StepPost cfg before bs store answer store' answer' post.left) origin_of.2 (post.step front))

      named : m.server ≡ s
      named = eqb-true m.server (server_number before.me) (and_left (eqb m.server (server_number before.me)) (is_for_server m.kind) mine) ∙ is.me

      back : state_of state' ≡ tidy post.left.state
      back = (post.kept accepted).back

      abbrev steps : ℕ → BoardServer → BoardServed
      steps i v = server_step cfg i v m

      -- what is kept then is what the protocol's step leaves
      now_is : ServerIs cfg m.server left (steps m.server (p.servers m.server)).server
      now_is =
          record {
            me = ap (λ (x : State). server_number x.me) back
                ∙ ap server_number (tidy_me post.left.state ∙ on.me) ∙ is.me ∙ sym named;
            seen = ap (λ (x : State). view cfg x store') back
                ∙ tidy_view cfg post.left.state store' (state_eight cfg post.left.state on.held.within valid)
                ∙ on.seen
                ∙ ap₂ (λ (i : ℕ) (v : BoardServer). (steps i v).server) (is.me ∙ sym named) (is.seen ∙ ap p.servers (sym named));
          }

      -- and what it sends is its answer
      answer_is : to_list (steps m.server (p.servers m.server)).answer ≡ on.said ∷ []
      unfolding to_list
      answer_is =
          ap to_list (ap₂ (λ (i : ℕ) (v : BoardServer). (steps i v).answer) (named ∙ sym is.me) (ap p.servers named ∙ sym is.seen) ∙ on.sends)

      server_accepted : Comes cfg origin (after_server k s left (answer_sent told answer')) events
      unfolding parties.server_acts parties.with_server
      server_accepted =
          record {
            parties = parties.with_server p m.server (steps m.server (p.servers m.server)).server;
            messages = a.messages ++ to_list (steps m.server (p.servers m.server)).answer;
            hosted = serves a.hosted m origin_of.1;
            tied =
                subst (λ (j : ℕ). Tied cfg (after_server k j left (answer_sent told answer')) (parties.with_server p m.server (steps m.server (p.servers m.server)).server) (a.messages ++ to_list (steps m.server (p.servers m.server)).answer)) named
                (record {
                  servers = both_changed (ServerIs cfg) k.servers p.servers m.server left _ (within 1 cfg.n) a.tied.servers now_is;
                  clients = a.tied.clients;
                  sent = rw (eq-eqb told 0 accepted)
                      (sent_more cfg a.messages _ a.tied.sent (ap (λ (bs : List ℕ). bs ∷ []) on.answer ∙ sym (ap (map (record_of cfg)) answer_is)));
                });
          }

    pub server_comes : Comes cfg origin (after_server k s left (answer_sent told answer')) events
    server_comes = elim (ℕ_discrete told 0) as (λ _. Comes cfg origin (after_server k s left (answer_sent told answer')) events) [
      | yes z ↦ server_accepted z
      | no n ↦ server_refused n
    ]
