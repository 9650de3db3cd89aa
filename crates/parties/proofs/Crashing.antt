-- A party crashes, or a server is started again.
use Rattle.std.proofs.Common.{Ok, Err}
use Prim.Native.Nat.{ℕ}
use mathlib.Core.Path.{◌≡◌, refl, sym, ap, subst, ◌∙◌}
use mathlib.Core.Bool.{Bool, true, false, cond, not}
use mathlib.Core.List.{List, [], ◌∷◌}
use borrow.Author.Tests.{eq-eqb}
use Rattle.laws.proofs.Bools.{and_left, and_right}
use Rattle.config.specs.declared.Config.{Config}
use Rattle.config.specs.declared.Refusal.{Refusal}
use Rattle.config.specs.Refusal.{Verdict}
use Rattle.config.specs.Number.{client_number, server_number}
use Rattle.config.specs.Questions.{ask, first_no}
use Rattle.config.specs.Refusal.{verdict_number}
use Rattle.config.proofs.Questions.{first_no_no, first_no_yes}
use Rattle.server.specs.Within.{state_within as server_state_within}
use Rattle.server.specs.View as serverView
use Rattle.client.specs.declared.Phase.{Phase}
use Rattle.client.specs.declared.Moved.{Moved}
use Rattle.client.specs.Calls.{CrashPost, in_phase}
use Rattle.client.specs.Questions.{crash_questions}
use Rattle.client.specs.State as clientView
use Rattle.client.specs.State.{lengths_within, phase_of, phase_within, state_within}
use Rattle.protocol.specs.Board.{nothing_ended}
use Rattle.protocol.specs.Boards.{BoardActed, BoardParties}
use Rattle.protocol.specs.Parties as protocol
use Rattle.protocol.specs.Parties.{quiet, with_up}
use Rattle.protocol.proofs.Pairs.{crash_client_pair, up_pair}
use Rattle.parties.specs.declared.Acted.{Acted}
use Rattle.parties.specs.declared.Pair.{Pair}
use Rattle.parties.specs.Acts.{ActPost, Parts, among, crashes_client, crashes_server, restarts_server}
use Rattle.parties.specs.inner.Acted.{ended_by, moved_on, quietly, refusing}
use Rattle.parties.proofs.Acts.{accepted_act, refused_act}
use Rattle.protocol.proofs.Sound.{sound_none}
use Rattle.client.proofs.Phases.{self_in}
use Rattle.client.specs.Send.{records_of}

-- the pair with its server up or down, and with its client down
abbrev pub server_up : Pair → Bool → Pair
server_up x up = record { node = record { state = x.node.state; up = up }; client = x.client }

abbrev pub client_down : Pair → Pair
client_down x =
    record { node = x.node; client = in_phase x.client Phase.Down }

module _ (cfg : Config) (x : Pair) (l : Parts) (sends read : List ℕ) where
  -- the server is up or down from now on: it is asked 9, and that is all that the protocol does
  module _ (up asked : Bool) (act : BoardParties → BoardActed) (does : (p : BoardParties) → act p ≡ quiet (with_up p (server_number x.node.state.me) up)) where
    abbrev UpPost : Acted → Type 0
    UpPost r = ActPost cfg (first_no (ask 9 asked ∷ [])) act x l sends read r l sends read

    up_now : asked ≡ true → (r : Acted) → r ≡ quietly (server_up x up) → UpPost r
    unfolding quiet records_of first_no
    up_now taken r e =
        subst UpPost (sym e)
        (accepted_act cfg (first_no (ask 9 asked ∷ [])) act x l sends read (first_no_yes 9 asked [] taken) (quietly (server_up x up)) l sends read [] nothing_ended
        (λ p. does (among cfg p x l)
        ∙ up_pair p (server_number x.node.state.me) (serverView.view cfg x.node.state l.store) x.node.up (client_number x.client.me)
        (clientView.view cfg x.client l.kept l.elements) up)
        refl refl refl sound_none (λ _. refl) (refl, refl) (λ h _. h) (refl, refl, refl))

    up_refused : asked ≡ false → (r : Acted) → r ≡ refusing Refusal.UpOrDown x → UpPost r
    up_refused not_taken r e =
        subst UpPost (sym e) (refused_act cfg (first_no (ask 9 asked ∷ [])) act x l sends read Refusal.UpOrDown (sym (first_no_no 9 asked [] not_taken)))

  abbrev number : ℕ
  number = first_no (crash_questions cfg x.client)

  client-down : number ≡ 0 → ActPost cfg number (crashes_client x) x l sends read (quietly (client_down x)) l sends read
  unfolding quiet records_of first_no clientView.view phase_of state_within phase_within lengths_within
  client-down none =
      accepted_act cfg number (crashes_client x) x l sends read none (quietly (client_down x)) l sends read [] nothing_ended
      (λ p. crash_client_pair p (server_number x.node.state.me) (serverView.view cfg x.node.state l.store) x.node.up
      (client_number x.client.me) (clientView.view cfg x.client l.kept l.elements))
      refl refl refl sound_none (λ _. refl) (refl, refl)
      (λ h _. rw (
        and_left (server_state_within cfg x.node.state) (state_within cfg x.client) h,
        self_in cfg x.client (and_right (server_state_within cfg x.node.state) (state_within cfg x.client) h),
      ))
      (refl, refl, refl)

  abbrev ClientPost : Acted → Type 0
  ClientPost r = ActPost cfg number (crashes_client x) x l sends read r l sends read

  -- of what the code gives
  pub server_crashed : x.node.up ≡ true → (r : Acted) → r ≡ quietly (server_up x false)
      → ActPost cfg (first_no (ask 9 x.node.up ∷ [])) (crashes_server x) x l sends read r l sends read
  server_crashed = up_now false x.node.up (crashes_server x) (λ p. unfold protocol.crash_server in refl)

  pub server_is_down : x.node.up ≡ false → (r : Acted) → r ≡ refusing Refusal.UpOrDown x
      → ActPost cfg (first_no (ask 9 x.node.up ∷ [])) (crashes_server x) x l sends read r l sends read
  server_is_down = up_refused false x.node.up (crashes_server x) (λ p. unfold protocol.crash_server in refl)

  pub server_restarted : x.node.up ≡ false → (r : Acted) → r ≡ quietly (server_up x true)
      → ActPost cfg (first_no (ask 9 (not x.node.up) ∷ [])) (restarts_server x) x l sends read r l sends read
  server_restarted down = up_now true (not x.node.up) (restarts_server x) (λ p. unfold protocol.restart_server in refl) (ap not down)

  pub server_is_up : x.node.up ≡ true → (r : Acted) → r ≡ refusing Refusal.UpOrDown x
      → ActPost cfg (first_no (ask 9 (not x.node.up) ∷ [])) (restarts_server x) x l sends read r l sends read
  server_is_up up = up_refused true (not x.node.up) (restarts_server x) (λ p. unfold protocol.restart_server in refl) (ap not up)

  pub client_crashed : (y : Moved) → CrashPost cfg x.client y → (r : Acted) → r ≡ moved_on y.verdict x y → ClientPost r
  client_crashed y post r e = subst ClientPost (sym e) (by y.verdict refl)
    where
      is_down : number ≡ 0 → moved_on (Ok tt) x y ≡ quietly (client_down x)
      is_down none =
          let s = post.state ∙ ap (λ (b : Bool). cond b (in_phase x.client Phase.Down) x.client) (eq-eqb number 0 none) in
          λ i. record { answer = ended_by (s i).me (post.nothing i); pair = record { node = x.node; client = s i }; sent = post.sent i }

      by : (w : Verdict) → y.verdict ≡ w → ClientPost (moved_on w x y)
      by (Ok tt) h =
          let none : number ≡ 0 = sym post.number ∙ ap verdict_number h in
          subst ClientPost (sym (is_down none)) (client-down none)
      by (Err why) h =
          refused_act cfg number (crashes_client x) x l sends read why (sym (ap verdict_number h) ∙ post.number)
