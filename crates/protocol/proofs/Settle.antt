-- The second half of a client's step: what it does once an answer is counted keeps the invariant.
use Prim.Native.Nat.{ℕ, ◌+◌, ◌≤◌}
use mathlib.Core.Path.{◌≡◌, refl, sym, ◌∙◌, ap, subst}
use mathlib.Core.Bool.{Bool, true, false≢true}
use mathlib.Core.Logic.{⊎_elim}
use mathlib.Core.Option.{Option, none, some}
use mathlib.Core.List.Memᴰ
use mathlib.Core.List.{List, [], ◌++◌}
use lib.Dec.{eqb, leb, ltb}
use lib.ListN.{length, take}
use borrow.Author.Tests.{leb-true, eq-eqb, eqb-true}
use native.Mathlib.Nat.{le_refl}
use native.Mathlib.Omega.{arith}
use Rattle.config.specs.Config.{quorum_of}
use Rattle.tag.specs.declared.Tag.{Tag}
use Rattle.record.specs.declared.Kind.TheVariants.{WriteFinalise}
use Rattle.record.specs.Message.{Message}
use Rattle.protocol.specs.Number.{upd, count, present, nobody, nothing_yet}
use Rattle.protocol.specs.Client.{Phase, Moved, Ended, idle, asking, pre_writing, finalising_write, finalising_read, down, is_cleared, send_each, send_queries, ask_again, receives, enough, enough_to_read, highest_number, next_tag, stays, ends, asked, end_read, send_pre_writes, send_read_finalises, send_write_finalises, settling, settle, counting, counted, awaited, awaits, client_step}
use Rattle.protocol.specs.Board.{Answer, nothing_ended, spent_by, names}
use Rattle.protocol.specs.Parties.{Parties, with_client, answer_of}
use Rattle.protocol.proofs.Basics.{cond_elim, and-true, upd_elim, none≢some, some-injective}
use Rattle.protocol.proofs.Quorum.{Quorum}
use Rattle.protocol.proofs.World.{Setting, Ghost, know, Current, Idle, Asking, GoodMessage, GoodPhase, Good}
use Rattle.protocol.proofs.LogEnded.{ended, End}
use Rattle.protocol.proofs.Send.{sent_good}
use Rattle.protocol.proofs.Count.{phase_counted}
use Rattle.protocol.proofs.Judged.{awaits_it, cleared_reads, of_operation}
use Rattle.protocol.proofs.Present.{decoded}
use Rattle.protocol.proofs.ClientChange.{client_moved, client_ended, again, client_again, spends, client_spent}
use Rattle.protocol.proofs.Choose.{read_chose, write_chose, after_read, after_write}

module _ (S : Setting) where
  open S use {Value, Element, cfg, key, encode, decode}

  -- the answer names client c, and no other
  abbrev pub Naming : ℕ → Answer Value → Type 0
  Naming c answer = (names c answer ≡ true) × ((d : ℕ) → names d answer ≡ true → d ≡ c)

  -- what the answer of a message handed over says of the record: nothing ended, or the operation of one client did
  pub data Outcome (g g' : Ghost S) (now : ℕ) (answer : Answer Value) : Type 0 where
    still : g'.begun ≡ g.begun → g'.ending ≡ g.ending → answer ≡ nothing_ended → Outcome g g' now answer
    closes : (c : ℕ) (board : Option Value) → g.begun (g.latest c) ≡ some (c, board) → g.ending (g.latest c) ≡ none → g'.begun ≡ g.begun → g'.ending ≡ upd g.ending (g.latest c) (some (now, answer)) → Naming c answer → Outcome g g' now answer

  module _ {ps : Parties Value Element} {ms : List (Message Element)} {g : Ghost S} {now : ℕ} (a : Good S ps ms g now) (c : ℕ) where
    abbrev o : ℕ
    o = (ps.clients c).operation

    -- client c moves, the invariant holds of what it leaves, and the answer says so
    abbrev pub Result : Moved Value Element → Type 0
    Result m =
        (g' : Ghost S) × Good S (with_client ps c m.client) (ms ++ m.sends) g' (now + 1) × Outcome g g' now (answer_of c m.ended)

    -- nothing happens
    stays_good : (ph : Phase Value Element) → GoodPhase S (know S ps g) g c ph → Result (stays (record { operation = o; phase = ph }))
    unfolding stays answer_of
    stays_good ph h =
        (g, client_moved S a c (record { operation = o; phase = ph }) [] refl h (λ m i. absurd (Memᴰ.not-nil i)), still refl refl refl)

    -- once the latest operation has ended, the client is idle
    idle_after : (answer : Answer Value) → Idle S (ended S g (g.latest c) (now, answer)) c
    idle_after answer =
        record {
          closed = λ p b e.
              upd_elim (λ (y : Option (ℕ × Answer Value)). (x : ℕ × Answer Value) × (y ≡ some x)) g.ending (g.latest c) (some (now, answer)) p
              (λ h. ((now, answer), refl))
              (λ h. ⊎_elim (λ i. absurd (h i)) (λ i. (i.0, i.1)) (a.log.past p c b e));
        }

    -- the operation ends
    ends_good : (board : Option Value) (tag : Option Tag) (how : Ended Value) → Current S g c board tag → End S (know S ps g) g (g.latest c) c board (answer_of c how) → Naming c (answer_of c how) → Result (ends o how)
    unfolding ends
    ends_good board tag how current end naming =
        (ended S g (g.latest c) (now, answer_of c how), client_ended S a c (record { operation = o; phase = idle }) [] (answer_of c how) refl end (λ m i. absurd (Memᴰ.not-nil i)) (idle_after (answer_of c how)), closes c board current.begun current.ending refl refl naming)

    naming_one : (d : ℕ) → eqb c d ≡ true → d ≡ c
    naming_one d e = sym (eqb-true c d e)

    spent_good : (board : Value) → Current S g c (some board) none → Result (ends o Ended.spent)
    unfolding answer_of names
    spent_good board current =
        ends_good (some board) none Ended.spent current
        (record {
          begun = current.begun;
          unended = current.ending;
          how = current.chosen;
          quorum = λ t e. absurd (none≢some (sym current.chosen ∙ e));
        })
        (eq-eqb c c refl, naming_one)

    -- the counted servers are a quorum with the tag
    finalised : (board : Option Value) (t : Tag) (cs : ℕ → Bool) → Current S g c board (some t) → ((s : ℕ) → cs s ≡ true → key t ≤ (know S ps g).high s) → enough cfg cs ≡ true → (u : Tag) → g.chosen (g.latest c) ≡ some u → Quorum cfg (λ s. key u ≤ (know S ps g).high s)
    unfolding enough
    finalised board t cs current answers q u e =
        subst (λ (y : Tag). Quorum cfg (λ s. key y ≤ (know S ps g).high s)) (some-injective (sym current.chosen ∙ e))
        (record { members = cs; enough = leb-true (quorum_of cfg) (count cs cfg.n) q; each = answers })

    written_good : (board : Value) (t : Tag) (cs : ℕ → Bool) → Current S g c (some board) (some t) → ((s : ℕ) → cs s ≡ true → key t ≤ (know S ps g).high s) → enough cfg cs ≡ true → Result (ends o (Ended.written t))
    unfolding answer_of names
    written_good board t cs current answers q =
        ends_good (some board) (some t) (Ended.written t) current
        (record {
          begun = current.begun;
          unended = current.ending;
          how = (current.chosen, (board, refl));
          quorum = finalised (some board) t cs current answers q;
        })
        (eq-eqb c c refl, naming_one)

    read_good : (t : Tag) (cs : ℕ → Bool) (es : ℕ → Option Element) → GoodPhase S (know S ps g) g c (finalising_read t cs es) → enough_to_read cfg cs es ≡ true → Result (end_read decode cfg o t es)
    unfolding end_read answer_of names enough_to_read know
    read_good t cs es h q =
        let parts = and-true (enough cfg cs) (leb cfg.k (length (present cfg.n es))) q in
        let v = h.known.board in
        let shown = decoded S v (a.log.boards (key t) v h.known.is) es h.elements (leb-true cfg.k (length (present cfg.n es)) parts.1) in
        ends_good none (some t) (Ended.read t (decode (take cfg.k (present cfg.n es)))) h.current
        (record {
          begun = h.current.begun;
          unended = h.current.ending;
          how = (h.current.chosen, refl, h.known.is ∙ ap (λ (x : Value). some x) (sym shown));
          quorum = finalised none t cs h.current h.answers parts.0;
        })
        (eq-eqb c c refl, naming_one)

    asked_good : (board : Option Value) (t : Tag) (cs : ℕ → Bool) → Asking S (know S ps g) g c board t cs → enough cfg cs ≡ true → Result (asked encode cfg c o board t)
    unfolding asked
    asked_good none t cs h q = (after_read S a c t cs q h, read_chose S a c t cs q h, unfold send_read_finalises answer_of in still refl refl refl)
    asked_good (some v) t cs h q =
        cond_elim Result (ltb t.number highest_number) (send_pre_writes encode cfg c o v (next_tag t c)) (ends o Ended.spent)
        (λ e. (after_write S a c t cs q v h, write_chose S a c t cs q v h, unfold send_pre_writes answer_of in still refl refl refl))
        (λ e. spent_good v h.current)

    finalise_good : (t : Tag) (cs : ℕ → Bool) → GoodPhase S (know S ps g) g c (pre_writing t cs) → Result (send_write_finalises cfg c o t)
    unfolding send_write_finalises answer_of know
    finalise_good t cs h = (
      g,
      client_moved S a c (record { operation = o; phase = finalising_write t nobody }) (send_each cfg WriteFinalise c o t nothing_yet) refl
          (record { board = h.board; current = h.current; answers = λ s e. absurd (false≢true e) })
          (sent_good S WriteFinalise c o t nothing_yet (λ i. omega arith, λ i. omega arith, λ i. omega arith) (le_refl _) (a.log.chosen_known (g.latest c) t h.current.chosen) (λ s x e. absurd (none≢some e))),
      still refl refl refl,
    )

    -- a read asks again, or ends spent
    again_good : (t : Tag) → Current S g c none (some t) → Result (ask_again cfg c o)
    unfolding ask_again answer_of names ends
    again_good t reads =
        cond_elim Result (ltb o highest_number) (send_queries cfg c (o + 1) none) (ends o Ended.spent)
        (λ e. (again S a c t reads, client_again S a c t reads, still refl refl refl))
        (λ e. (
          spends S a c t reads,
          client_spent S a c t reads (record { operation = o; phase = idle }) refl (record { closed = (idle_after (spent_by c)).closed }),
          closes c none reads.begun reads.ending refl refl (eq-eqb c c refl, naming_one),
        ))

    settle_good : (ph : Phase Value Element) → GoodPhase S (know S ps g) g c ph → Result (settling encode decode cfg c o ph)
    unfolding settling
    settle_good idle h = stays_good idle h
    settle_good (asking b t cs) h =
        cond_elim Result (enough cfg cs) (asked encode cfg c o b t) (stays (record { operation = o; phase = asking b t cs })) (asked_good b t cs h) (λ e. stays_good (asking b t cs) h)
    settle_good (pre_writing t cs) h =
        cond_elim Result (enough cfg cs) (send_write_finalises cfg c o t) (stays (record { operation = o; phase = pre_writing t cs })) (λ e. finalise_good t cs h) (λ e. stays_good (pre_writing t cs) h)
    settle_good (finalising_write t cs) h =
        cond_elim Result (enough cfg cs) (ends o (Ended.written t)) (stays (record { operation = o; phase = finalising_write t cs })) (written_good h.board t cs h.current h.answers) (λ e. stays_good (finalising_write t cs) h)
    settle_good (finalising_read t cs es) h =
        cond_elim Result (enough_to_read cfg cs es) (end_read decode cfg o t es) (stays (record { operation = o; phase = finalising_read t cs es })) (read_good t cs es h) (λ e. stays_good (finalising_read t cs es) h)
    settle_good down h = stays_good down h

    -- an awaited kind 9 finds the client finalising a read
    cleared_good : (m : Message Element) (ph : Phase Value Element) → is_cleared m.kind ≡ true → awaits key ph m ≡ true → GoodPhase S (know S ps g) g c ph → Result (ask_again cfg c o)
    cleared_good m ph nine h good =
        let reads = cleared_reads key m nine ph h in
        again_good reads.tag (subst (GoodPhase S (know S ps g) g c) reads.phase good).current

  -- client c is handed a good message
  pub client_good : {ps : Parties Value Element} {ms : List (Message Element)} {g : Ghost S} {now : ℕ} (a : Good S ps ms g now) (m : Message Element) → GoodMessage S (know S ps g) m → Result a m.client (client_step key encode decode cfg m.client (ps.clients m.client) m)
  unfolding client_step receives awaited counted settle know
  client_good {ps} {g = g} a m good =
      let x = ps.clients m.client in
      cond_elim (Result a m.client) (awaited key x m) (receives key encode decode cfg m.client x m) (stays x)
      (λ e.
      let due = awaits_it key m x e in
      cond_elim (Result a m.client) (is_cleared m.kind) (ask_again cfg m.client x.operation) (settle encode decode cfg m.client (counted key x m))
      (λ nine. cleared_good a m.client m x.phase nine due (a.clients m.client))
      (λ other. settle_good a m.client (counting key x.phase m) (phase_counted S g m good (of_operation key m x e) other x.phase due (a.clients m.client))))
      (λ e. stays_good a m.client x.phase (a.clients m.client))
