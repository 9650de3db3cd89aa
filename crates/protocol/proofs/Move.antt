-- Every event of a run keeps the invariant.
use Prim.Native.Nat.{ℕ, ◌+◌, ◌≤◌}
use mathlib.Core.Path.{◌≡◌, refl, sym, ◌∙◌, ap, subst, fun_ext}
use mathlib.Core.Bool.{Bool, true, false, cond, ◌&&◌, false≢true}
use mathlib.Core.Logic.{⊎_elim}
use mathlib.Core.Option.{Option, none, some}
use mathlib.Core.List.Memᴰ
use mathlib.Core.List.{List, [], ◌∷◌, ◌++◌, append-nil, Memᴰ}
use lib.Dec.{eqb, ltb}
use lib.ListN.{length, get_elem?, length-append}
use borrow.Author.Tests.{eqb-true}
use native.Mathlib.Omega.{arith}
use Rattle.config.specs.Questions.{Question, ask, first_no, within}
use Rattle.config.proofs.Questions.{within_low, within_high}
use Rattle.record.specs.Kinds.{is_for_server}
use Rattle.record.specs.Message.{Message}
use Rattle.protocol.specs.Server.{server_step}
use Rattle.protocol.specs.Client.{Client, Phase, idle, asking, pre_writing, finalising_write, finalising_read, down, is_idle, is_up, begin_client, begin_questions, client_step, highest_number}
use Rattle.protocol.specs.Board.{Call, Event, refused, nothing_ended, is_accepted, names}
use Rattle.protocol.specs.Parties as parties
use Rattle.protocol.specs.Parties.{Parties, Acted, quiet, server_acts, client_acts, answer_of, begin, deliver, questions_to_begin, with_up}
use Rattle.protocol.specs.Rig.{Rig, Code, begin_write, begin_read, handOver, lose, double, crash_server, crash_client, restart_server, code_of, without, doubled, leaves, fresh_rig, deliver_at, move, questions_to11, Elsewhere, Execution, fresh, refuses, moves, elsewhere}
use Rattle.protocol.proofs.Basics.{cond_elim, none≢some, some-injective}
use Rattle.protocol.proofs.World.{Setting, Ghost, Knowledge, know, Idle, GoodMessage, GoodPhase, Good}
use Rattle.protocol.proofs.Change.{later, flight_changed}
use Rattle.protocol.proofs.ServerMove.{server_good}
use Rattle.protocol.proofs.ClientChange.{client_moved, begins, client_began}
use Rattle.protocol.proofs.Settle.{Outcome, still, closes, client_good}
use Rattle.protocol.proofs.Recorded.{Coded, Recorded, next_still, next_closes, next_begins}
use Rattle.protocol.proofs.Fresh.{blank, fresh_good, fresh_recorded}
use Rattle.protocol.proofs.Flight.{at_mem, without_mem, doubled_mem}

-- the number of an event
unfoldable pub code_number : Code → ℕ
code_number begin_write = 1
code_number begin_read = 2
code_number handOver = 3
code_number lose = 4
code_number double = 5
code_number crash_server = 6
code_number crash_client = 7
code_number restart_server = 8

pub code-number : (n : ℕ) (w : Code) → code_of n ≡ some w → n ≡ code_number w
unfolding code_of code_number
code-number n w =
    pick 1 begin_write refl _
    (pick 2 begin_read refl _
    (pick 3 handOver refl _
    (pick 4 lose refl _
    (pick 5 double refl _
    (pick 6 crash_server refl _
    (pick 7 crash_client refl _ (pick 8 restart_server refl none (λ e. absurd (none≢some e)))))))))
  where
    pick : (i : ℕ) (x : Code) → i ≡ code_number x → (o : Option Code) → (o ≡ some w → n ≡ code_number w) → cond (eqb n i) (some x) o ≡ some w → n ≡ code_number w
    pick i x e o h =
        cond_elim (λ (z : Option Code). z ≡ some w → n ≡ code_number w) (eqb n i) (some x) o (λ f j. eqb-true n i f ∙ e ∙ ap code_number (some-injective j)) (λ f. h)

-- the number of an event is not that of another
differs : (n i : ℕ) (w : Code) → code_of n ≡ some w → eqb (code_number w) i ≡ false → eqb n i ≡ false
differs n i w e f = rw (code-number n w e) f

-- where no number is given, the first question was answered with yes, and so were the others
asked_yes : (n : ℕ) (b : Bool) (xs : List Question) → (n ≡ 0 → ⊥) → first_no (ask n b ∷ xs) ≡ 0 → (b ≡ true) × (first_no xs ≡ 0)
unfolding first_no
asked_yes n true xs h e = (refl, e)
asked_yes n false xs h e = absurd (h e)

module _ (S : Setting) where
  open S use {Value, Element, cfg, key, encode, decode, IsBoard, start}

  idle_is : (ph : Phase Value Element) (k : Knowledge S) (g : Ghost S) (c : ℕ) → is_idle ph ≡ true → GoodPhase S k g c ph → Idle S g c
  unfolding is_idle
  idle_is idle k g c e a = a
  idle_is (asking b t cs) k g c e a = absurd (false≢true e)
  idle_is (pre_writing t cs) k g c e a = absurd (false≢true e)
  idle_is (finalising_write t cs) k g c e a = absurd (false≢true e)
  idle_is (finalising_read t cs es) k g c e a = absurd (false≢true e)
  idle_is down k g c e a = absurd (false≢true e)

  -- a rig and its events, with a record of them that is good
  pub record Invariant (r : Rig Value Element) (h : List (Event Value)) : Type 0 where
    pub ghost : Ghost S
    pub good : Good S r.parties r.in_flight ghost (length h)
    pub recorded : Recorded S h ghost

  more : (h : List (Event Value)) (x : Event Value) → length (h ++ (x ∷ [])) ≡ length h + 1
  more h x = length-append h (x ∷ [])

  -- what the parties do, with these messages in flight, leaves a good record; nothing is begun
  abbrev pub Turned : Ghost S → ℕ → List (Message Element) → Acted Value Element → Type 0
  Turned g now ms x = (g' : Ghost S) × Good S x.parties (ms ++ x.sends) g' (now + 1) × Outcome S g g' now x.answer

  pub turned : {r : Rig Value Element} {h : List (Event Value)} (a : Invariant r h) (call : Call Value) (w : Code) → code_of call.code ≡ some w → eqb (code_number w) 1 ≡ false → eqb (code_number w) 2 ≡ false → (ms : List (Message Element)) (x : Acted Value Element) → Turned a.ghost (length h) ms x → Invariant (leaves ms x).rig (h ++ (record { call = call; answer = (leaves ms x).answer } ∷ []))
  unfolding leaves
  turned {h = h} a call w coded one two ms x left =
      record {
        ghost = left.0;
        good = subst (Good S x.parties (ms ++ x.sends) left.0) (sym (more h event)) left.1;
        recorded = outcome left.2;
      }
    where
      event : Event Value
      event = record { call = call; answer = x.answer }

      no_begin : (b : Bool) → ((b && eqb call.code 1) ≡ false) × ((b && eqb call.code 2) ≡ false)
      no_begin true = (differs call.code 1 w coded one, differs call.code 2 w coded two)
      no_begin false = (refl, refl)

      nobody_named : x.answer ≡ nothing_ended → (c : ℕ) → names c x.answer ≡ false
      nobody_named e c = unfold names in ap (names c) e

      outcome : Outcome S a.ghost left.0 (length h) x.answer → Recorded S (h ++ (event ∷ [])) left.0
      outcome (still b e n) = next_still S a.recorded event left.0 (no_begin (is_accepted x.answer)) b e (nobody_named n)
      outcome (closes c board o u b e n) =
          next_closes S a.recorded event a.good.log left.0 (no_begin (is_accepted x.answer)) b c board o u e n

  module _ {ps : Parties Value Element} {ms : List (Message Element)} {g : Ghost S} {now : ℕ} (a : Good S ps ms g now) where
    -- nothing but an event went by
    quiet_good : Turned g now ms (quiet ps)
    unfolding quiet
    quiet_good = (g, subst (λ (z : List (Message Element)). Good S ps z g (now + 1)) (sym (append-nil ms)) (later S a), still refl refl refl)

    -- a good message is handed over
    deliver_good : (m : Message Element) → GoodMessage S (know S ps g) m → Turned g now ms (deliver key encode decode cfg ps m)
    unfolding deliver server_acts client_acts
    deliver_good m good =
        cond_elim (Turned g now ms) (is_for_server m.kind) (cond (ps.up m.server) (server_acts ps m.server (server_step key cfg.d m.server (ps.servers m.server) m)) (quiet ps)) (client_acts ps m.client (client_step key encode decode cfg m.client (ps.clients m.client) m))
        (λ e. cond_elim (Turned g now ms) (ps.up m.server) (server_acts ps m.server (server_step key cfg.d m.server (ps.servers m.server) m)) (quiet ps)
        (λ f. (g, later S (server_good S a m good), still refl refl refl))
        (λ f. quiet_good))
        (λ e. client_good S a m good)

    -- a server crashes, or is started again: what is good does not look at who is up
    up_good : (s : ℕ) (up : Bool) → Good S (with_up ps s up) ms g now
    unfolding know
    up_good s up =
        record { messages = a.messages; servers = a.servers; base = a.base; clients = a.clients; log = a.log }

    -- a client crashes
    client_crashed : (c : ℕ) → Turned g now ms (parties.crash_client ps c)
    unfolding parties.crash_client quiet
    client_crashed c =
        (g, client_moved S a c (record { operation = (ps.clients c).operation; phase = down }) [] refl tt (λ m i. absurd (Memᴰ.not-nil i)), still refl refl refl)

  -- the message at a position is handed over
  deliver_at_good : (ps : Parties Value Element) (ms : List (Message Element)) (g : Ghost S) (now i : ℕ) (o : Option (Message Element)) → get_elem? ms i ≡ o → Good S ps ms g now → Turned g now (without i ms) (deliver_at key encode decode cfg ps o)
  unfolding deliver_at
  deliver_at_good ps ms g now i none e a = quiet_good (flight_changed S a (without i ms) (without_mem i ms))
  deliver_at_good ps ms g now i (some m) e a =
      deliver_good (flight_changed S a (without i ms) (without_mem i ms)) m (a.messages m (at_mem ms i m e))

  -- a client begins
  module _ (r : Rig Value Element) (h : List (Event Value)) (a : Invariant r h) (call : Call Value) (board : Option Value) (coded : Coded S call board) (is_board : (v : Value) → board ≡ some v → IsBoard v) (yes-within : within 1 cfg.c call.party ≡ true) (yes-idle : is_idle (r.parties.clients call.party).phase ≡ true) where
    abbrev c : ℕ
    c = call.party

    abbrev ps : Parties Value Element
    ps = r.parties

    low : 1 ≤ c
    low = within_low 1 cfg.c c yes-within

    high : c ≤ cfg.c
    high = within_high 1 cfg.c c yes-within

    was_idle : Idle S a.ghost c
    was_idle = idle_is (ps.clients c).phase (know S ps a.ghost) a.ghost c yes-idle (a.good.clients c)

    abbrev after : Ghost S
    after = begins S a.good c board was_idle low high is_board

    abbrev event : Event Value
    event = record { call = call; answer = nothing_ended }

    begun_good : Good S (begin cfg ps c board).parties (r.in_flight ++ (begin cfg ps c board).sends) after (length h + 1)
    unfolding begin client_acts begin_client
    begun_good = client_began S a.good c board was_idle low high is_board

    pub begun_invariant : Invariant (leaves r.in_flight (begin cfg ps c board)).rig (h ++ (record { call = call; answer = (leaves r.in_flight (begin cfg ps c board)).answer } ∷ []))
    unfolding leaves begin client_acts begin_client answer_of is_accepted names
    begun_invariant =
        record {
          ghost = after;
          good = subst (Good S (begin cfg ps c board).parties (r.in_flight ++ (begin cfg ps c board).sends) after) (sym (more h event)) begun_good;
          recorded = next_begins S a.recorded event a.good.log after c board (record { accepted = refl; party = refl; coded = coded }) (λ d. refl) refl refl;
        }

  -- the fresh rig
  pub fresh_invariant : Invariant (fresh_rig cfg encode start) []
  unfolding fresh_rig
  fresh_invariant = record { ghost = blank S; good = fresh_good S; recorded = fresh_recorded S }

  -- a refused event
  pub refused_invariant : (r : Rig Value Element) (h : List (Event Value)) → Invariant r h → (call : Call Value) (number : ℕ) → Invariant r (h ++ (record { call = call; answer = refused number } ∷ []))
  unfolding is_accepted names
  refused_invariant r h a call number =
      let event : Event Value = record { call = call; answer = refused number } in
      record {
        ghost = a.ghost;
        good = subst (Good S r.parties r.in_flight a.ghost) (sym (more h event)) (later S a.good);
        recorded = next_still S a.recorded event a.ghost (refl, refl) refl refl (λ c. refl);
      }

  -- the questions of a client that is to begin
  pub begin_asked : (ps : Parties Value Element) (c : ℕ) → first_no (questions_to_begin cfg ps c) ≡ 0 → (within 1 cfg.c c ≡ true) × (is_idle (ps.clients c).phase ≡ true)
  unfolding questions_to_begin begin_questions
  begin_asked ps c e =
      let x = ps.clients c in
      let eight = asked_yes 8 (within 1 cfg.c c) (begin_questions x) (λ h. omega arith) e in
      let nine = asked_yes 9 (is_up x.phase) (ask 10 (is_idle x.phase) ∷ ask 11 (ltb x.operation highest_number) ∷ []) (λ h. omega arith) eight.1 in
      let ten = asked_yes 10 (is_idle x.phase) (ask 11 (ltb x.operation highest_number) ∷ []) (λ h. omega arith) nine.1 in
      (eight.0, ten.0)

  -- an accepted event
  pub moved_invariant : (r : Rig Value Element) (h : List (Event Value)) → Invariant r h → (call : Call Value) (w : Code) → code_of call.code ≡ some w → first_no (questions_to11 cfg r call w) ≡ 0 → (w ≡ begin_write → IsBoard call.board) → Invariant (move key encode decode cfg r call w).rig (h ++ (record { call = call; answer = (move key encode decode cfg r call w).answer } ∷ []))
  unfolding move questions_to11 code_number
  moved_invariant r h a call begin_write e f b =
      let yes_both = begin_asked r.parties call.party f in
      begun_invariant r h a call (some call.board) (code-number call.code begin_write e, refl) (λ v i. subst IsBoard (some-injective i) (b refl)) yes_both.0 yes_both.1
  moved_invariant r h a call begin_read e f b =
      let yes_both = begin_asked r.parties call.party f in
      begun_invariant r h a call none (code-number call.code begin_read e) (λ v i. absurd (none≢some i)) yes_both.0 yes_both.1
  moved_invariant r h a call handOver e f b =
      turned a call handOver e refl refl (without call.position r.in_flight) (deliver_at key encode decode cfg r.parties (get_elem? r.in_flight call.position))
      (deliver_at_good r.parties r.in_flight a.ghost (length h) call.position (get_elem? r.in_flight call.position) refl a.good)
  moved_invariant r h a call lose e f b =
      turned a call lose e refl refl (without call.position r.in_flight) (quiet r.parties)
      (quiet_good (flight_changed S a.good (without call.position r.in_flight) (without_mem call.position r.in_flight)))
  moved_invariant r h a call double e f b =
      turned a call double e refl refl (doubled call.position r.in_flight) (quiet r.parties)
      (quiet_good (flight_changed S a.good (doubled call.position r.in_flight) (doubled_mem call.position r.in_flight)))
  moved_invariant r h a call crash_server e f b =
      turned a call crash_server e refl refl r.in_flight (parties.crash_server r.parties call.party)
      (unfold parties.crash_server in quiet_good (up_good a.good call.party false))
  moved_invariant r h a call crash_client e f b =
      turned a call crash_client e refl refl r.in_flight (parties.crash_client r.parties call.party) (client_crashed a.good call.party)
  moved_invariant r h a call restart_server e f b =
      turned a call restart_server e refl refl r.in_flight (parties.restart_server r.parties call.party)
      (unfold parties.restart_server in quiet_good (up_good a.good call.party true))

  -- what happens elsewhere leaves what is known of servers and clients
  known_elsewhere : (r r' : Rig Value Element) → Elsewhere r r' → (g : Ghost S) → know S r'.parties g ≡ know S r.parties g
  unfolding know
  known_elsewhere r r' e g =
      λ i. record { high = λ s. key (e.servers i s).highest; number = fun_ext number i; base = g.base; bytes = g.bytes }
    where
      number : (c : ℕ) → (r'.parties.clients c).operation ≡ (r.parties.clients c).operation
      number c = ⊎_elim (λ f. ap (λ (x : Client Value Element). x.operation) f) (λ f. ap (λ (x : Client Value Element). x.operation) f) (e.clients c)

  -- so all that was good is; and a client that is down is
  elsewhere_invariant : (r r' : Rig Value Element) (h : List (Event Value)) → Elsewhere r r' → Invariant r h → Invariant r' h
  elsewhere_invariant r r' h e a =
      let g = a.ghost in
      let known = known_elsewhere r r' e g in
      record {
        ghost = g;
        good =
            record {
              messages = λ m i. rw known (a.good.messages m (subst (Memᴰ m) e.in_flight i));
              servers = λ s. rw (known, e.servers) (a.good.servers s);
              base = λ c s. rw e.servers (a.good.base c s);
              clients = λ c. rw known (⊎_elim (λ f. rw f (a.good.clients c)) (λ f. rw f tt) (e.clients c));
              log = rw known a.good.log;
            };
        recorded = a.recorded;
      }

  pub invariant : {r : Rig Value Element} {h : List (Event Value)} → Execution key encode decode cfg IsBoard start r h → Invariant r h
  invariant fresh = fresh_invariant
  invariant (refuses {r = r} {events = h} run call number) = refused_invariant r h (invariant run) call number
  invariant (moves {r = r} {events = h} run call w e f b) = moved_invariant r h (invariant run) call w e f b
  invariant (elsewhere {r = r} {r' = r'} {events = h} run e) = elsewhere_invariant r r' h e (invariant run)
