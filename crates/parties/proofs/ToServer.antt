-- A record handed to a server: what is left.
use Rattle.std.proofs.Common.{Ok, Err}
use Prim.Native.Nat.{ℕ}
use mathlib.Core.Path.{◌≡◌, refl, sym, ap, ap₂, subst, ◌∙◌}
use mathlib.Core.Bool.{true, false, ◌&&◌}
use mathlib.Core.List.{List, [], ◌∷◌, ◌++◌, append-nil}
use native.Mathlib.Omega.{arith}
use borrow.Author.Tests.{ne_eqb, eqb-true}
use lib.Dec.{eqb}
use lib.ListN.{length, drop, drop_of_length-le}
use Rattle.laws.proofs.Bools.{and_left, and_right}
use Rattle.config.specs.declared.Config.{Config}
use Rattle.config.specs.declared.Refusal.{Refusal}
use Rattle.config.specs.Refusal.{Verdict}
use Rattle.config.specs.Config.{store_length}
use Rattle.config.specs.Number.{client_number, server_number}
use Rattle.config.specs.Questions.{first_no}
use Rattle.config.specs.Refusal.{refusal_number, verdict_number}
use Rattle.record.specs.Kinds.{is_for_server}
use Rattle.record.specs.Record.{message_of, of_config, record_of, well_formed}
use Rattle.laws.specs.Bytes.{Bytes}
use Rattle.record.proofs.Laws.{message_of_config, record_long, writes_again}
use Rattle.record.proofs.Parties.{number_low}
use Rattle.server.specs.declared.State.{State}
use Rattle.server.specs.declared.Stepped.{Stepped}
use Rattle.server.specs.Calls.{StepPost, for_server, outcome, step_questions}
use Rattle.server.specs.Within.{ValidState, state_within as server_state_within}
use Rattle.server.specs.View as serverView
use Rattle.server.proofs.Asked.{passed_valid, step_accepted}
use Rattle.server.proofs.Laws.{OnMessage, on_message}
use Rattle.client.specs.Send.{front, records_of}
use Rattle.client.specs.State as clientView
use Rattle.client.specs.State.{state_within}
use Rattle.protocol.specs.Board.{nothing_ended}
use Rattle.protocol.specs.Boards.{BoardActed, BoardMessage, BoardParties, BoardServed, BoardServer, decode, encode, order, server_step}
use Rattle.protocol.specs.Number.{to_list}
use Rattle.protocol.specs.Parties.{quiet, with_pair}
use Rattle.protocol.proofs.Pairs.{deliver_down, deliver_up}
use Rattle.parties.specs.declared.Acted.{Acted}
use Rattle.parties.specs.declared.Pair.{Pair}
use Rattle.parties.specs.Acts.{ActPost, Parts, among, delivers, pair_within, parts}
use Rattle.protocol.specs.Sound.{Sound}
use Rattle.parties.specs.inner.Acted.{quietly, refusing, stepped_on, with_state}
use Rattle.parties.proofs.Acts.{accepted_act, refused_act}
use Rattle.protocol.proofs.Formed.{answer_sound}
use Rattle.parties.proofs.Formed.{NumberedServer, server_seen_fits}
use Rattle.protocol.proofs.Sound.{sound_first, sound_none}

-- a record is at the front of a buffer of its length
front_one : (cfg : Config) (m : BoardMessage) (answer answer' : List ℕ) → answer' ≡ record_of cfg m → length answer' ≡ length answer
    → answer' ≡ front (records_of cfg (m ∷ [])) answer
unfolding records_of
front_one cfg m answer answer' is long =
    let whole : record_of cfg m ++ [] ≡ answer' = append-nil (record_of cfg m) ∙ sym is in
    sym (append-nil answer')
    ∙ ap (λ (z : List ℕ). answer' ++ z) (sym (drop_of_length-le answer {i = length answer'} (omega (arith, long))))
    ∙ ap (λ (z : List ℕ). z ++ drop (length z) answer) (sym whole)

-- The server of a pair, with a record handed over.
module _ (cfg : Config) (x : Pair) (handed store store' answer answer' kept es read : List ℕ) (is-bytes : Bytes handed) (numbers : NumberedServer x.node.state) where
  abbrev s : State
  s = x.node.state

  abbrev me : ℕ
  me = server_number s.me

  abbrev m : BoardMessage
  m = message_of cfg handed

  abbrev refusal : ℕ
  refusal = first_no (step_questions cfg s handed (length store) (length answer))

  abbrev v : BoardServer
  v = serverView.view cfg s store

  abbrev c : ℕ
  c = client_number x.client.me

  abbrev l : Parts
  l = parts store kept es

  abbrev Post : Acted → List ℕ → List ℕ → Type 0
  Post r st an = ActPost cfg refusal (delivers cfg handed) x l answer read r (parts st kept es) an read

  module _ (none_no : refusal ≡ 0) where
    abbrev mine_yes : for_server me m ≡ true
    mine_yes = (step_accepted cfg s handed (length store) (length answer) none_no).1

    for_me : m.server ≡ me
    for_me = eqb-true m.server me (and_left (eqb m.server me) (is_for_server m.kind) mine_yes)

    its_kind : is_for_server m.kind ≡ true
    its_kind = and_right (eqb m.server me) (is_for_server m.kind) mine_yes

    -- it is down
    pub gone : x.node.up ≡ false → (r : Acted) → r ≡ quietly x → Post r store answer
    unfolding quiet records_of
    gone down r e = subst (λ (w : Acted). Post w store answer) (sym e)
        (accepted_act cfg refusal (delivers cfg handed) x l answer read none_no (quietly x) l answer read [] nothing_ended is
        refl refl refl sound_none (λ _. refl) (refl, refl) (λ h _. h) (refl, refl, refl))
      where
        is : (p : BoardParties) → delivers cfg handed (among cfg p x l) ≡ record { parties = among cfg p x l; sends = []; answer = nothing_ended }
        is p =
            subst (λ n. delivers cfg handed (with_pair p n v x.node.up c (clientView.view cfg x.client kept es))
            ≡ quiet (with_pair p n v x.node.up c (clientView.view cfg x.client kept es))) for_me
            (subst (λ b. delivers cfg handed (with_pair p m.server v b c (clientView.view cfg x.client kept es))
            ≡ quiet (with_pair p m.server v b c (clientView.view cfg x.client kept es))) (sym down)
            (deliver_down (order cfg) (encode cfg) (decode cfg) cfg p v (clientView.view cfg x.client kept es) m c its_kind))

    -- it has done its step
    module _ (up : x.node.up ≡ true) (y : Stepped) (post : StepPost cfg s handed store answer store' answer' y) where
      abbrev held : ValidState cfg s store
      held = passed_valid (step_accepted cfg s handed (length store) (length answer) none_no).0

      formed : well_formed cfg handed ≡ true
      formed = (step_accepted cfg s handed (length store) (length answer) none_no).0.well-formed

      eighty : length answer ≡ 80
      eighty = (step_accepted cfg s handed (length store) (length answer) none_no).0.answer_eighty

      ok : of_config cfg m ≡ true
      ok = message_of_config cfg held.valid.e_high handed is-bytes formed

      on : OnMessage cfg s m store store' answer' y
      on =
          on_message cfg s m store answer store' answer' y held ok mine_yes eighty
          (subst (λ (b : List ℕ). StepPost cfg s b store answer store' answer' y) (sym (writes_again cfg held.valid.e_high handed is-bytes formed)) post)

      abbrev o : BoardServed
      o = outcome cfg s store m

      abbrev step_of : ℕ → BoardServed
      step_of n = server_step cfg n v m

      is : (p : BoardParties) → delivers cfg handed (among cfg p x l)
          ≡ record { parties = among cfg p (with_state x y) (parts store' kept es); sends = to_list o.answer; answer = nothing_ended }
      is p =
          subst (λ n. delivers cfg handed (with_pair p n v x.node.up c (clientView.view cfg x.client kept es))
          ≡ record { parties = among cfg p (with_state x y) (parts store' kept es); sends = to_list o.answer; answer = nothing_ended }) for_me
          (subst (λ b. delivers cfg handed (with_pair p m.server v b c (clientView.view cfg x.client kept es))
          ≡ record { parties = among cfg p (with_state x y) (parts store' kept es); sends = to_list o.answer; answer = nothing_ended }) (sym up)
          (deliver_up (order cfg) (encode cfg) (decode cfg) cfg p v (clientView.view cfg x.client kept es) m c its_kind ∙ stepped p))
        where
          stepped : (p : BoardParties) → ◌≡◌ {A = BoardActed} (record {
            parties = with_pair p m.server (step_of m.server).server true c (clientView.view cfg x.client kept es);
            sends = to_list (step_of m.server).answer;
            answer = nothing_ended;
          }) (record { parties = among cfg p (with_state x y) (parts store' kept es); sends = to_list o.answer; answer = nothing_ended })
          stepped p = λ i. record {
            parties = with_pair p ((for_me ∙ sym (ap server_number on.me)) i) ((ap (λ n. (step_of n).server) for_me ∙ sym on.seen) i) (sym up i) c (clientView.view cfg x.client kept es);
            sends = to_list (ap (λ n. (step_of n).answer) for_me i);
            answer = nothing_ended;
          }

      sound : Sound cfg (to_list o.answer)
      sound = answer_sound cfg me v (server_seen_fits cfg s store held.within held.long numbers) m ok for_me

      within : pair_within cfg x ≡ true → length store ≡ store_length cfg → pair_within cfg (with_state x y) ≡ true
      within h _ = ap₂ ◌&&◌ on.held.within (and_right (server_state_within cfg s) (state_within cfg x.client) h)

      long : (length store' ≡ length store) × (length kept ≡ length kept) × (length es ≡ length es)
      long = (on.held.long ∙ sym held.long, refl, refl)

      -- with the answer
      pub answered_act : Post (stepped_on (Ok tt) x y) store' answer'
      unfolding to_list
      answered_act =
          let e = on.sends in
          let fits : Sound cfg (on.said ∷ []) = subst (λ w. Sound cfg (to_list w)) e sound in
          let size : length answer' ≡ length answer =
          ap length on.answer ∙ record_long cfg held.valid.e_high on.said (sound_first fits) ∙ sym eighty in
          accepted_act cfg refusal (delivers cfg handed) x l answer read none_no (stepped_on (Ok tt) x y) (parts store' kept es) answer' read
          (to_list o.answer) nothing_ended is refl (sym (ap (λ w. length (to_list w)) e))
          (front_one cfg on.said answer answer' on.answer size ∙ sym (ap (λ w. front (records_of cfg (to_list w)) answer) e))
          sound (λ _. refl) (on.me, refl) within long

  -- a step, whatever its verdict
  module _ (up : x.node.up ≡ true) (y : Stepped) (post : StepPost cfg s handed store answer store' answer' y) where
    is_refused : (why : Refusal) → y.verdict ≡ Err why → Post (refusing why x) store' answer'
    is_refused why e =
        let same : refusal_number why ≡ refusal = sym (ap verdict_number e) ∙ post.number in
        let some_no : refusal ≡ 0 → ⊥ = λ z. omega (arith, number_low why, same, z) in
        let held-answer : answer' ≡ answer = post.answer ∙ rw (ne_eqb refusal 0 some_no) in
        subst (λ (w : List ℕ). Post (refusing why x) w answer') (sym (post.store some_no))
        (subst (λ (w : List ℕ). Post (refusing why x) store w) (sym held-answer)
        (refused_act cfg refusal (delivers cfg handed) x l answer read why same))

    pub stepped_act : (r : Acted) → r ≡ stepped_on y.verdict x y → Post r store' answer'
    stepped_act r e = subst (λ (w : Acted). Post w store' answer') (sym e) (by y.verdict refl)
      where
        by : (w : Verdict) → y.verdict ≡ w → Post (stepped_on w x y) store' answer'
        by (Ok tt) h = answered_act (sym post.number ∙ ap verdict_number h) up y post
        by (Err why) h = is_refused why h

  -- a server that is down, and refused
  pub down_refused : (why : Refusal) → refusal_number why ≡ refusal → (r : Acted) → r ≡ refusing why x → Post r store answer
  down_refused why e r f = subst (λ (w : Acted). Post w store answer) (sym f) (refused_act cfg refusal (delivers cfg handed) x l answer read why e)
