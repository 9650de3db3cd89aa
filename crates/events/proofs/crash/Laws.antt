-- Events 6, 7 and 8. Assumes nothing.
use Prim.Native.Nat.{ℕ, ◌+◌}
use mathlib.Core.Path.{◌≡◌, refl, sym, ap, ◌∙◌}
use mathlib.Core.Bool.{Bool, true, false, cond, not}
use mathlib.Core.Option.{some}
use mathlib.Core.List.{List, [], ◌∷◌, ◌++◌, append-nil}
use native.Mathlib.Omega.{arith}
use Rattle.config.specs.declared.Config.{Config}
use Rattle.config.specs.declared.Refusal.{Refusal}
use Rattle.config.specs.Number.{server_number}
use Rattle.config.specs.Questions.{ask, first_no, within}
use Rattle.client.specs.Questions.{crash_questions}
use Rattle.client.specs.State as clientView
use Rattle.flight.specs.Flight.{records}
use Rattle.protocol.specs.Boards.{BoardActed, BoardCall, BoardClient, BoardMessage, BoardParties, BoardRig, move, write_fits}
use Rattle.protocol.specs.Client as client
use Rattle.protocol.specs.Parties as parties
use Rattle.protocol.specs.Parties.{quiet, questions_to_crash_client, questions_to_crash_server, questions_to_restart_server, with_up}
use Rattle.protocol.specs.Rig as rig
use Rattle.protocol.specs.Rig.{Code, code_of, crash_client, crash_server, leaves, questions_to11, restart_server}
use Rattle.parties.specs.declared.Acted.{Acted}
use Rattle.parties.specs.Acts.{ActPost, Parts, crashes_client, crashes_server, restarts_server}
use Rattle.events.specs.declared.Call.{Call}
use Rattle.events.specs.declared.Change.{Change}
use Rattle.events.specs.declared.Part.{Part}
use Rattle.events.specs.declared.Rig.{Rig}
use Rattle.events.specs.View.{Lent, flight, parties_of, view}
use Rattle.events.specs.Questions.{formed_for}
use Rattle.events.specs.Calls.{called, records_after}
use Rattle.events.specs.inner.CrashOrRestart.{BarePost}
use Rattle.events.specs.inner.Part.{acting, refusing}
use Rattle.events.specs.inner.Turn.{Ready}
use Rattle.client.proofs.Theorems.{bare_up}
use Rattle.events.proofs.Clients.{crash_number}
use Rattle.events.proofs.Numbers.{early_number}
use Rattle.events.proofs.Pairs.{back_same, client-at, parts_of, up_at}
use Rattle.events.proofs.Ready.{client_below, client_me, client_within, count_below, is_valid, party_client, party_server, server_below, server_me}
use Rattle.events.proofs.outcome.Laws.{Moves, acted_on, acted_turn, refused_on}

other : (code k : ℕ) → code ≡ k → (k ≡ 3 → ⊥) → code ≡ 3 → ⊥
other code k e ne z = ne (sym e ∙ z)

-- an event of a server, which is asked 8 and 9, is then up or down, and sends nothing
record ServerEvent (k : ℕ) (w : Code) (asked : Bool → Bool) (up : Bool) : Type 0 where
  code : code_of k ≡ some w
  other : k ≡ 3 → ⊥
  fits : (cfg : Config) (a : BoardCall) → write_fits cfg a (some w) ≡ true
  asks : (cfg : Config) (v : BoardRig) (a : BoardCall)
      → questions_to11 cfg v a w ≡ ask 8 (within 1 cfg.n a.party) ∷ ask 9 (asked (v.parties.up a.party)) ∷ []
  formed : (cfg : Config) (rs : List (List ℕ)) (i : ℕ) → formed_for cfg rs i (some w) ≡ true
  moves : (cfg : Config) (v : BoardRig) (a : BoardCall) → move cfg v a w ≡ leaves v.in_flight (quiet (with_up v.parties a.party up))
  after : (cfg : Config) (rs : List (List ℕ)) (i : ℕ) (ms : List BoardMessage) → records_after cfg rs i ms (some w) ≡ rs

crashes : ServerEvent 6 crash_server (λ up. up) false
unfolding code_of rig.write_fits questions_to11 questions_to_crash_server formed_for rig.move records_after parties.crash_server
crashes =
    record {
      code = refl;
      other = λ z. omega (arith, z);
      fits = λ cfg a. refl;
      asks = λ cfg v a. refl;
      formed = λ cfg rs i. refl;
      moves = λ cfg v a. refl;
      after = λ cfg rs i ms. refl;
    }

restarts : ServerEvent 8 restart_server not true
unfolding code_of rig.write_fits questions_to11 questions_to_restart_server formed_for rig.move records_after parties.restart_server
restarts =
    record {
      code = refl;
      other = λ z. omega (arith, z);
      fits = λ cfg a. refl;
      asks = λ cfg v a. refl;
      formed = λ cfg rs i. refl;
      moves = λ cfg v a. refl;
      after = λ cfg rs i ms. refl;
    }

module _ {cfg : Config} {m : ℕ} {r : Rig} {p : Part} {a : Call} {board read : List ℕ} {l : Lent} (ready : Ready cfg m r p a board read l) where
  -- the records in flight stay
  stay : records p.count l.messages ≡ flight r l ++ []
  stay = ap (λ k. records k l.messages) (sym ready.part.count) ∙ sym (append-nil (flight r l))

  -- events 6 and 8
  module _ {k : ℕ} {w : Code} {asked : Bool → Bool} {up : Bool} (is : ServerEvent k w asked up) (code : a.code ≡ k) (there : within 1 cfg.n a.party ≡ true) where
    server_is : p.server + 1 ≡ a.party
    server_is = party_server ready (other a.code k code is.other) there

    server_asks : first_no (questions_to11 cfg (view cfg r l) (called a board) w) ≡ first_no (ask 9 (asked p.pair.node.up) ∷ [])
    unfolding first_no view
    server_asks =
        ap first_no (is.asks cfg (view cfg r l) (called a board))
        ∙ rw there
        (ap (λ b. cond (asked b) 0 9) (ap (parties_of cfg r l).up (sym server_is) ∙ up_at cfg r l p (server_below ready) (client_below ready) ready.part))

    server_moves : first_no (ask 9 (asked p.pair.node.up) ∷ []) ≡ 0
        → Moves cfg r l (called a board) w (λ q. quiet (with_up q (server_number p.pair.node.state.me) up)) (flight r l)
    unfolding view quiet
    server_moves none =
        record {
          code = ap code_of code ∙ is.code;
          fits = is.fits cfg (called a board);
          pass = server_asks ∙ none;
          formed = is.formed cfg (flight r l) a.position;
          moves = is.moves cfg (view cfg r l) (called a board)
              ∙ ap (λ s. leaves (view cfg r l).in_flight (quiet (with_up (parties_of cfg r l) s up))) (sym (server_me ready ∙ server_is));
          after = is.after cfg (flight r l) a.position _ ∙ sym (append-nil (flight r l));
        }

  -- event 7
  module _ (code : a.code ≡ 7) (there : within 1 cfg.c a.party ≡ true) where
    client_is : p.client + 1 ≡ a.party
    client_is = party_client ready (other a.code 7 code (λ z. omega (arith, z))) there

    client_asks : first_no (questions_to11 cfg (view cfg r l) (called a board) crash_client) ≡ first_no (crash_questions cfg p.pair.client)
    unfolding questions_to11 questions_to_crash_client first_no view clientView.view
    client_asks =
        rw there
        (ap (λ (x : BoardClient). cond (client.is_up x.phase) 0 9)
        (ap (parties_of cfg r l).clients (sym client_is) ∙ client-at cfg r l p (server_below ready) (client_below ready) ready.part)
        ∙ ap (λ b. cond b 0 9) (bare_up cfg p.pair.client (parts_of cfg p l).kept (parts_of cfg p l).elements))
        ∙ sym (crash_number cfg (is_valid ready) p.pair.client (client_within ready))

    client_moves : first_no (crash_questions cfg p.pair.client) ≡ 0 → Moves cfg r l (called a board) crash_client (crashes_client p.pair) (flight r l)
    unfolding code_of rig.move formed_for records_after view quiet rig.write_fits parties.crash_client
    client_moves none =
        record {
          code = ap code_of code;
          fits = refl;
          pass = client_asks ∙ none;
          formed = refl;
          moves = ap (λ c. leaves (view cfg r l).in_flight (parties.crash_client (parties_of cfg r l) c)) (sym (client_me ready ∙ client_is));
          after = sym (append-nil (flight r l));
        }

module _ (cfg : Config) (p : Part) (a : Call) (x : Change) where
  server_missing : {k : ℕ} {w : Code} {asked : Bool → Bool} {up : Bool} → ServerEvent k w asked up
      → x ≡ refusing Refusal.Missing p → within 1 cfg.n a.party ≡ false → BarePost k cfg p a x
  unfolding first_no
  server_missing {w = w} is e h m board read l code =
      refused_on Refusal.Missing e (λ r ready.
      early_number cfg m r (called a board) read l ready.yes w (ap code_of code ∙ is.code) (is.fits cfg (called a board)) 8
      (ap first_no (is.asks cfg (view cfg r l) (called a board)) ∙ rw h) (λ z. omega (arith, z)))

  pub crash_missing : x ≡ refusing Refusal.Missing p → within 1 cfg.n a.party ≡ false → BarePost 6 cfg p a x
  crash_missing = server_missing crashes

  pub restart_missing : x ≡ refusing Refusal.Missing p → within 1 cfg.n a.party ≡ false → BarePost 8 cfg p a x
  restart_missing = server_missing restarts

  pub client_missing : x ≡ refusing Refusal.Missing p → within 1 cfg.c a.party ≡ false → BarePost 7 cfg p a x
  unfolding code_of questions_to11 questions_to_crash_client first_no rig.write_fits
  client_missing e h m board read l code =
      refused_on Refusal.Missing e (λ r ready.
      early_number cfg m r (called a board) read l ready.yes crash_client (ap code_of code) refl 8 (rw h) (λ z. omega (arith, z)))

  module _ (y : Acted) (e : x ≡ acting y p.count p) where
    -- an event that the parties ask for by a number, and do
    abbrev Does : ℕ → (BoardParties → BoardActed) → Type 0
    Does number act = (l : Parts) (sends read : List ℕ) → ActPost cfg number act p.pair l sends read y l sends read

    server_does : {k : ℕ} {w : Code} {asked : Bool → Bool} {up : Bool} → ServerEvent k w asked up → within 1 cfg.n a.party ≡ true
        → Does (first_no (ask 9 (asked p.pair.node.up) ∷ [])) (λ q. quiet (with_up q (server_number p.pair.node.state.me) up)) → BarePost k cfg p a x
    unfolding quiet
    server_does {w = w} is there post m board read l code =
        acted_on y p.count read l e (λ r ready.
        acted_turn ready (post (parts_of cfg p l) [] read) (back_same cfg p l l.messages) p.count w (flight r l) (ap code_of code ∙ is.code)
        (is.fits cfg (called a board)) (server_asks ready is code there) (λ _. (refl, refl))
        (λ none. (server_moves ready is code there none, count_below ready, refl, stay ready)) (λ _. refl))

    pub server_crashed : within 1 cfg.n a.party ≡ true → Does (first_no (ask 9 p.pair.node.up ∷ [])) (crashes_server p.pair) → BarePost 6 cfg p a x
    unfolding parties.crash_server
    server_crashed = server_does crashes

    pub server_restarted : within 1 cfg.n a.party ≡ true → Does (first_no (ask 9 (not p.pair.node.up) ∷ [])) (restarts_server p.pair) → BarePost 8 cfg p a x
    unfolding parties.restart_server
    server_restarted = server_does restarts

    pub client_crashed : within 1 cfg.c a.party ≡ true → Does (first_no (crash_questions cfg p.pair.client)) (crashes_client p.pair) → BarePost 7 cfg p a x
    unfolding code_of parties.crash_client quiet rig.write_fits
    client_crashed there post m board read l code =
        acted_on y p.count read l e (λ r ready.
        acted_turn ready (post (parts_of cfg p l) [] read) (back_same cfg p l l.messages) p.count crash_client (flight r l) (ap code_of code) refl
        (client_asks ready code there) (λ _. (refl, refl))
        (λ none. (client_moves ready code there none, count_below ready, refl, stay ready)) (λ _. refl))
