-- A client's calls, accepted or refused, are the protocol's. Assumes nothing.
use Prim.Native.Nat.{ℕ}
use mathlib.Core.Path.{◌≡◌, refl, sym, ap, ap₂, subst, ◌∙◌}
use mathlib.Core.Bool.{Bool, true}
use mathlib.Core.Option.{Option, none, some}
use mathlib.Core.List.{List, [], ◌∷◌, ◌++◌, map, append-nil, Memᴰ}
use native.Mathlib.Decide.{ℕ_discrete}
use native.Mathlib.Omega.{arith}
use borrow.Author.Tests.{eq-eqb, eqb-true, leb-true, ltb-true, ne_eqb}
use lib.Dec.{eqb}
use lib.ListN.{length}
use Rattle.laws.specs.Bytes.{Bytes}
use Rattle.laws.proofs.Bools.{and_left}
use Rattle.config.specs.declared.Config.{Config}
use Rattle.config.specs.Config.{Valid, board_length, questions}
use Rattle.config.specs.Number.{client_number}
use Rattle.config.specs.Questions.{Question, ask, first_no, numbered, within}
use Rattle.config.proofs.Questions.{first_no_yes, last_yes, none_first, none_rest, yes_next}
use Rattle.record.specs.Kinds.{is_for_client}
use Rattle.record.specs.Record.{highest_number, message_of, of_config, record_of, well_formed}
use Rattle.record.specs.Records.{records}
use Rattle.record.proofs.Laws.{reads_back}
use Rattle.protocol.specs.Board.{nothing_ended, refused}
use Rattle.protocol.specs.Boards.{Board, BoardActed, BoardAnswer, BoardCall, BoardClient, BoardEvent, BoardHosted, BoardMessage, BoardMoved, BoardParties, IsBoard, awaited, begin_client, board_of, client_step, fits_in}
use Rattle.protocol.specs.Client as protocol
use Rattle.protocol.specs.Hosts.{call_by, reads, refuses, steps, then, writes}
use Rattle.protocol.specs.Number.{upd}
use Rattle.protocol.specs.Parties as parties
use Rattle.protocol.specs.Parties.{answer_of, questions_to_begin}
use Rattle.protocol.proofs.Basics.{length_to_each, upd_own}
use Rattle.protocol.proofs.Cut.{filled, length_cut}
use Rattle.protocol.proofs.Formed.{begun_sound, step_fits}
use Rattle.protocol.proofs.Hosted.{begin_low, hosted_fits}
use Rattle.client.specs.declared.State.{State}
use Rattle.client.specs.Calls as client
use Rattle.client.specs.Calls.{ended_of}
use Rattle.client.specs.State.{Lent, bare, lent, state_within, view}
use Rattle.client.specs.Questions.{answer_questions, begin_read_questions, begin_write_questions, is_for, is_sends, step_questions, step_sized, write_sized}
use Rattle.client.specs.Send.{front, records_of}
use Rattle.client.proofs.Asked.{call_passed}
use Rattle.client.proofs.Sends.{records_out}
use Rattle.client.proofs.Theorems.{bare_begin}
use Rattle.states.specs.Clients.{state_of, unpack_questions}
use Rattle.states.proofs.clients.Laws.{tidy_me, tidy_view}
use Rattle.host.specs.Calls.{BeginPost, ClientReadPost, ClientStepPost, ClientWritePost, client_step_questions}
use Rattle.host.specs.Config.{client_questions, config_of}
use Rattle.host.specs.Outcome.{outcome_length, sent_from}
use Rattle.host.specs.Runs.{ClientKept, Handed, Kept, after_client, answered, ended_by, begun, no_board, records_sent, sends, stepped}
use Rattle.host.proofs.Tied.{ClientIs, Comes, Tied, both_changed, sent_more, was_sent}

pub client_numbered : (config state : List ℕ) → numbered (client_questions config state) ≡ true
unfolding client_questions unpack_questions numbered questions
client_numbered config state = refl

module _ (config : List ℕ) (origin : Board) where
  abbrev cfg : Config
  cfg = config_of config

  module _ (valid : Valid cfg) (is_board : IsBoard cfg origin) {k : Kept} {events : List BoardEvent} (a : Comes cfg origin k events) (c : ℕ) (here : within 1 cfg.c c ≡ true) where
    abbrev p : BoardParties
    p = a.parties

    abbrev x : ClientKept
    x = k.clients c

    abbrev before : State
    before = state_of x.state

    abbrev seen : BoardClient
    seen = view cfg before x.board x.elements

    is : ClientIs cfg c x (p.clients c)
    is = a.tied.clients c here

    -- a refused call: all is as it was
    refused_comes : (left : ClientKept) → left ≡ x → (told : ℕ) → (told ≡ 0 → ⊥) → (rs : List (List ℕ)) (call : BoardCall) (answer : BoardAnswer)
        → Comes cfg origin (after_client k c left (sends told rs)) (then events call (answered told answer))
    refused_comes left same told refuses-it rs call answer =
        let kept : upd k.clients c left ≡ k.clients = ap (upd k.clients c) same ∙ upd_own k.clients c in
        let none-sent : k.sent ++ sends told rs ≡ k.sent = rw (ne_eqb told 0 refuses-it) (append-nil k.sent) in
        let is_refused : refused told ≡ answered told answer = rw (ne_eqb told 0 refuses-it) in
        let now : Comes cfg origin k (then events call (refused told)) = record { parties = p; messages = a.messages; hosted = refuses a.hosted call told; tied = a.tied } in
        subst (λ (z : Kept). Comes cfg origin z (then events call (answered told answer))) (λ i. record { servers = k.servers; clients = sym kept i; sent = sym none-sent i })
        (subst (λ (r : BoardAnswer). Comes cfg origin k (then events call r)) is_refused now)

    -- an accepted one: the client moves, and what it sends are messages of the configuration
    module _ (left : ClientKept) (move : BoardMoved) (rs : List (List ℕ)) (now : ClientIs cfg c left move.client) (sent : rs ≡ map (record_of cfg) move.sends) (told : ℕ) (accepted : told ≡ 0) where
      moved_tied : Tied cfg (after_client k c left (sends told rs)) (parties.with_client p c move.client) (a.messages ++ move.sends)
      unfolding parties.with_client
      moved_tied =
          record {
            servers = a.tied.servers;
            clients = both_changed (ClientIs cfg) k.clients p.clients c left move.client (within 1 cfg.c) a.tied.clients now;
            sent = rw (eq-eqb told 0 accepted) (sent_more cfg a.messages move.sends a.tied.sent sent);
          }

    -- ---- a beginning

    module _ (asks : List Question) (board : Option Board) (out : List ℕ) {state' board' out' : List ℕ} {told : ℕ}
        (post : BeginPost config x.state asks board x.board out state' board' out' told) where
      abbrev begun_left : ClientKept
      begun_left = begun x state' board'

      begun_refused : (told ≡ 0 → ⊥) → (rs : List (List ℕ)) (call : BoardCall) → Comes cfg origin (after_client k c begun_left (sends told rs)) (then events call (answered told nothing_ended))
      begun_refused refuses-it rs call =
          let held = post.held refuses-it in
          refused_comes begun_left (λ i. record { state = held.0 i; board = held.1 i; elements = x.elements }) told refuses-it rs call nothing_ended

      module _ (accepted : told ≡ 0) where
        asked : first_no (client_questions config x.state ++ asks) ≡ 0
        asked = sym post.number ∙ accepted

        none_asked : first_no asks ≡ 0
        none_asked = none_rest (client_questions config x.state) asks (client_numbered config x.state) asked

        begins : client.BeginPost cfg (first_no asks) before board x.board board' x.elements out out' post.left
        begins = post.begins (none_first (client_questions config x.state) asks asked) x.elements

        abbrev move : BoardMoved
        move = begin_client cfg c (p.clients c) board

        -- the client's move is the protocol's
        is_move : client.unless_no (first_no asks) seen (begin_client cfg (client_number before.me) seen board) ≡ move
        is_move =
            rw (eq-eqb (first_no asks) 0 none_asked)
            (ap₂ (λ (i : ℕ) (v : BoardClient). begin_client cfg i v board) is.me is.seen)

        module _ (inside : state_within cfg before ≡ true) (idle : first_no (protocol.begin_questions (bare cfg before)) ≡ 0) where
          now_begun : ClientIs cfg c begun_left move.client
          now_begun =
              record {
                me = ap (λ (y : State). client_number y.me) (post.saved accepted).back
                    ∙ ap client_number (tidy_me post.left.state ∙ begins.answered.self) ∙ is.me;
                seen = ap (λ (y : State). view cfg y board' x.elements) (post.saved accepted).back
                    ∙ tidy_view cfg post.left.state board' x.elements (begins.answered.within inside) valid.n_high
                    ∙ begins.answered.client ∙ ap (λ (y : BoardMoved). y.client) is_move;
              }

          may_begin : first_no (questions_to_begin cfg p c) ≡ 0
          unfolding questions_to_begin
          may_begin =
              first_no_yes 8 (within 1 cfg.c c) (protocol.begin_questions (p.clients c)) here
              ∙ ap (λ (v : BoardClient). first_no (protocol.begin_questions v)) (sym is.seen) ∙ ap first_no (bare_begin cfg before x.board x.elements) ∙ idle

          many : length move.sends ≡ cfg.n
          unfolding protocol.begin_client protocol.send_each
          many = length_to_each cfg.n _

          -- the queries, one to each server
          queries : records cfg.n out' ≡ map (record_of cfg) move.sends
          queries =
              ap (λ (n : ℕ). records n out') (sym many)
              ∙ records_out cfg valid.e_high move.sends
              (begun_sound cfg c here (p.clients c) (ltb-true (p.clients c).operation highest_number (begin_low cfg p c may_begin).1) board) out out'
              (begins.answered.out ∙ ap (λ (y : BoardMoved). front (records_of cfg y.sends) out) is_move)

    -- a write
    module _ (n : ℕ) (board out : List ℕ) (bytes : Bytes board) {state' board' out' : List ℕ} {told : ℕ}
        (post : ClientWritePost config x.state n board x.board out state' board' out' told) where
      abbrev write_asks : List Question
      write_asks = begin_write_questions cfg before n board x.board out

      abbrev v : Board
      v = board_of n board

      abbrev written : ClientKept
      written = begun x state' board'

      write_accepted : told ≡ 0 → Comes cfg origin (after_client k c written (records_sent told cfg.n out')) (then events (call_by 1 c v) (answered told nothing_ended))
      unfolding parties.begin parties.client_acts answer_of protocol.begin_client
      write_accepted accepted =
          let passed = call_passed cfg before (write_sized cfg (length board) (length x.board) (length out)) (ask 19 (fits_in cfg v) ∷ protocol.begin_questions (bare cfg before)) (none_asked write_asks (some v) out post accepted) in
          let fits = yes_next 19 (fits_in cfg v) (protocol.begin_questions (bare cfg before)) (omega arith) passed.3 in
          let whole : length board ≡ board_length cfg = eqb-true (length board) (board_length cfg) (and_left (eqb (length board) (board_length cfg)) _ passed.1) in
          let may = may_begin write_asks (some v) out post accepted passed.2 fits.1 in
          let is-board : IsBoard cfg v = record { whole = length_cut n board ∙ whole; fits = leb-true n (board_length cfg) fits.0; filled = filled n board bytes } in
          let told_is : nothing_ended ≡ answered told nothing_ended = rw (eq-eqb told 0 accepted) in
          subst (λ (r : BoardAnswer). Comes cfg origin (after_client k c written (records_sent told cfg.n out')) (then events (call_by 1 c v) r)) told_is
          (record {
            parties = (parties.begin cfg p c (some v)).parties;
            messages = a.messages ++ (parties.begin cfg p c (some v)).sends;
            hosted = writes a.hosted c v may is-board;
            tied = moved_tied written (begin_client cfg c (p.clients c) (some v)) (records cfg.n out')
                (now_begun write_asks (some v) out post accepted passed.2 fits.1) (queries write_asks (some v) out post accepted passed.2 fits.1) told accepted;
          })

      pub write_comes : Comes cfg origin (after_client k c written (records_sent told cfg.n out')) (then events (call_by 1 c v) (answered told nothing_ended))
      write_comes = elim (ℕ_discrete told 0) as (λ _. Comes cfg origin (after_client k c written (records_sent told cfg.n out')) (then events (call_by 1 c v) (answered told nothing_ended))) [
        | yes z ↦ write_accepted z
        | no n ↦ begun_refused write_asks (some v) out post n (records cfg.n out') (call_by 1 c v)
      ]

    -- a read
    module _ (out : List ℕ) {state' out' : List ℕ} {told : ℕ} (posts : ClientReadPost config x.state out state' out' told) where
      abbrev read_asks : List Question
      read_asks = begin_read_questions cfg before out

      abbrev reading : ClientKept
      reading = begun x state' x.board

      post : BeginPost config x.state read_asks none x.board out state' x.board out' told
      post = posts x.board

      read_accepted : told ≡ 0 → Comes cfg origin (after_client k c reading (records_sent told cfg.n out')) (then events (call_by 2 c no_board) (answered told nothing_ended))
      unfolding parties.begin parties.client_acts answer_of protocol.begin_client
      read_accepted accepted =
          let passed = call_passed cfg before (is_sends cfg (length out)) (protocol.begin_questions (bare cfg before)) (none_asked read_asks none out post accepted) in
          let may = may_begin read_asks none out post accepted passed.2 passed.3 in
          let told_is : nothing_ended ≡ answered told nothing_ended = rw (eq-eqb told 0 accepted) in
          subst (λ (r : BoardAnswer). Comes cfg origin (after_client k c reading (records_sent told cfg.n out')) (then events (call_by 2 c no_board) r)) told_is
          (record {
            parties = (parties.begin cfg p c none).parties;
            messages = a.messages ++ (parties.begin cfg p c none).sends;
            hosted = reads a.hosted c no_board may;
            tied = moved_tied reading (begin_client cfg c (p.clients c) none) (records cfg.n out')
                (now_begun read_asks none out post accepted passed.2 passed.3) (queries read_asks none out post accepted passed.2 passed.3) told accepted;
          })

      pub read_comes : Comes cfg origin (after_client k c reading (records_sent told cfg.n out')) (then events (call_by 2 c no_board) (answered told nothing_ended))
      read_comes = elim (ℕ_discrete told 0) as (λ _. Comes cfg origin (after_client k c reading (records_sent told cfg.n out')) (then events (call_by 2 c no_board) (answered told nothing_ended))) [
        | yes z ↦ read_accepted z
        | no n ↦ begun_refused read_asks none out post n (records cfg.n out') (call_by 2 c no_board)
      ]

    -- ---- a step

    module _ (message out read outcome : List ℕ) (handed : Handed config k.sent message) {state' elements' out' read' outcome' : List ℕ} {told : ℕ}
        (post : ClientStepPost config x.state message (lent x.board x.elements out read) outcome state' (lent x.board elements' out' read') outcome' told) where
      abbrev l : Lent
      l = lent x.board x.elements out read

      abbrev l' : Lent
      l' = lent x.board elements' out' read'

      abbrev moved_on : ClientKept
      moved_on = stepped x state' elements'

      abbrev Now : Type 0
      Now = Comes cfg origin (after_client k c moved_on (records_sent told (sent_from outcome') out')) (then events (call_by 3 c no_board) (answered told (ended_by c outcome' read')))

      step_refused : (told ≡ 0 → ⊥) → Now
      step_refused refuses-it =
          let held = post.held refuses-it in
          refused_comes moved_on (λ i. record { state = held.0 i; board = x.board; elements = (held.1 i).elements }) told refuses-it
          (records (sent_from outcome') out') (call_by 3 c no_board) (ended_by c outcome' read')

      -- accepted: the protocol's client does its step on a message that was sent
      module _ (accepted : told ≡ 0) where
        abbrev early : List Question
        early = client_questions config x.state

        abbrev sized : Bool
        sized = eqb (length outcome) outcome_length

        abbrev step_asks : List Question
        step_asks = step_questions cfg before message l

        all_asked : first_no (early ++ ask 6 sized ∷ step_asks) ≡ 0
        unfolding client_step_questions
        all_asked = sym post.number ∙ accepted

        six : (sized ≡ true) × (first_no step_asks ≡ 0)
        six = yes_next 6 sized step_asks (omega arith) (none_rest early (ask 6 sized ∷ step_asks) (client_numbered config x.state) all_asked)

        to_six : first_no (early ++ ask 6 sized ∷ []) ≡ 0
        to_six =
            last_yes early 6 sized (client_numbered config x.state) (none_first early (ask 6 sized ∷ step_asks) all_asked) six.0

        step : client.StepPost cfg before message l l' post.left
        step = post.step to_six

        passed : Valid cfg × (step_sized cfg (length message) (length x.board) (length x.elements) (length out) (length read) ≡ true) × (state_within cfg before ≡ true)
            × (first_no (answer_questions cfg before message (awaited cfg seen (message_of cfg message))) ≡ 0)
        passed =
            call_passed cfg before (step_sized cfg (length message) (length x.board) (length x.elements) (length out) (length read))
            (answer_questions cfg before message (awaited cfg seen (message_of cfg message))) six.1

        twelve : (well_formed cfg message ≡ true) × (first_no (ask 16 (is_for before (message_of cfg message)) ∷ ask 14 (awaited cfg seen (message_of cfg message)) ∷ []) ≡ 0)
        twelve = yes_next 12 (well_formed cfg message) _ (omega arith) passed.3

        origin_of : (m : BoardMessage) × (Memᴰ m a.messages) × (message ≡ record_of cfg m)
        origin_of = was_sent config a.tied message handed twelve.0

        abbrev m : BoardMessage
        m = origin_of.0

        good : of_config cfg m ≡ true
        good = (hosted_fits cfg valid origin is_board a.hosted).sent.each m origin_of.1

        is_read : message_of cfg message ≡ m
        is_read = ap (message_of cfg) origin_of.2 ∙ reads_back cfg valid m good

        named : m.client ≡ c
        named =
            let mine = (yes_next 16 (is_for before (message_of cfg message)) _ (omega arith) twelve.1).0 in
            ap (λ (w : BoardMessage). w.client) (sym is_read)
            ∙ eqb-true (message_of cfg message).client (client_number before.me)
            (and_left (eqb (message_of cfg message).client (client_number before.me)) (is_for_client (message_of cfg message).kind) mine)
            ∙ is.me

        abbrev moves : ℕ → BoardMoved
        moves i = client_step cfg i (p.clients i) m

        is_step : client.step_of cfg before message l ≡ moves c
        is_step =
            rw (eq-eqb (first_no step_asks) 0 six.1)
            (ap (λ (w : BoardMessage). client_step cfg (client_number before.me) seen w) is_read
            ∙ ap₂ (λ (i : ℕ) (v : BoardClient). client_step cfg i v m) is.me is.seen)

        now_stepped : ClientIs cfg c moved_on (moves c).client
        now_stepped =
            record {
              me = ap (λ (y : State). client_number y.me) (post.saved accepted).back
                  ∙ ap client_number (tidy_me post.left.state ∙ step.answered.self) ∙ is.me;
              seen = ap (λ (y : State). view cfg y x.board elements') (post.saved accepted).back
                  ∙ tidy_view cfg post.left.state x.board elements' (step.answered.within passed.2) valid.n_high
                  ∙ step.answered.client ∙ ap (λ (y : BoardMoved). y.client) is_step;
            }

        sent_is : records (sent_from outcome') out' ≡ map (record_of cfg) (moves c).sends
        sent_is =
            ap (λ (n : ℕ). records n out') ((post.tells accepted).sends ∙ step.answered.count ∙ ap (λ (y : BoardMoved). length y.sends) is_step)
            ∙ records_out cfg valid.e_high (moves c).sends
            (step_fits cfg c here (p.clients c) valid ((hosted_fits cfg valid origin is_board a.hosted).parties.clients c) m good named).sends out out'
            (step.answered.out ∙ ap (λ (y : BoardMoved). front (records_of cfg y.sends) out) is_step)

        ended_is : answer_of c (moves c).ended ≡ answered told (ended_by c outcome' read')
        ended_is =
            rw (eq-eqb told 0 accepted)
            (sym (ap (λ e. answer_of c (ended_of e read')) (post.tells accepted).ends
            ∙ ap (answer_of c) (step.ended ∙ ap (λ (y : BoardMoved). y.ended) is_step)))

        abbrev acts : ℕ → BoardActed
        acts i = parties.client_acts p i (moves i)

        hosted_step : BoardHosted cfg origin (acts c).parties (a.messages ++ (acts c).sends) (then events (call_by 3 c no_board) (acts c).answer)
        hosted_step =
            subst (λ (i : ℕ). BoardHosted cfg origin (acts i).parties (a.messages ++ (acts i).sends) (then events (call_by 3 i no_board) (acts i).answer)) named
            (steps a.hosted m origin_of.1 no_board)

        step_accepted : Now
        unfolding parties.client_acts
        step_accepted =
            subst (λ (r : BoardAnswer). Comes cfg origin (after_client k c moved_on (records_sent told (sent_from outcome') out')) (then events (call_by 3 c no_board) r)) ended_is
            (record {
              parties = (acts c).parties;
              messages = a.messages ++ (acts c).sends;
              hosted = hosted_step;
              tied = moved_tied moved_on (moves c) (records (sent_from outcome') out') now_stepped sent_is told accepted;
            })

      pub step_comes : Now
      step_comes = elim (ℕ_discrete told 0) as (λ _. Now) [
        | yes z ↦ step_accepted z
        | no n ↦ step_refused n
      ]
