-- A client goes on, takes a tag, ends, begins, asks again, ends spent: the changes of the world that its moves are made of.
use Prim.Native.Nat.{ℕ, ◌+◌, ◌≤◌}
use mathlib.Core.Path.{◌≡◌, refl, sym, ◌∙◌, ap, subst}
use mathlib.Core.Bool.{false≢true}
use mathlib.Core.Option.{Option, none, some}
use mathlib.Core.List.Memᴰ
use mathlib.Core.List.{List, [], ◌++◌, Memᴰ}
use native.Mathlib.Nat.{le_refl}
use native.Mathlib.Omega.{arith}
use Rattle.tag.specs.declared.Tag.{Tag}
use Rattle.record.specs.Message.{Message}
use Rattle.record.specs.declared.Kind.TheVariants.{Query}
use Rattle.protocol.specs.Number.{upd, nobody, nothing_yet}
use Rattle.tag.specs.Tag.{start as starting_tag}
use Rattle.protocol.specs.Client.{Client, asking, send_each}
use Rattle.protocol.specs.Board.{Answer, spent_by}
use Rattle.protocol.specs.Parties.{Parties, with_client}
use Rattle.protocol.proofs.Basics.{upd_elim, upd_same, upd_other, none≢some, some-injective}
use Rattle.protocol.proofs.Quorum.{quorum_map}
use Rattle.protocol.proofs.World.{Setting, Ghost, know, Current, GoodMessage, GoodPhase, GoodLog, Idle, Asking, Good}
use Rattle.protocol.proofs.Monotone.{Below, Keeps, keeps_refl, message_up, phase_up}
use Rattle.protocol.proofs.LogUp.{log_up}
use Rattle.protocol.proofs.LogChose.{chose, Choice, log_chose}
use Rattle.protocol.proofs.LogEnded.{ended, End, log_ended}
use Rattle.protocol.proofs.LogBegan.{began, log_began}
use Rattle.protocol.proofs.LogWithdrew.{withdrew, chosen_before, log_withdrew}
use Rattle.protocol.proofs.Change.{below_refl, client_changed}
use Rattle.protocol.proofs.Send.{sent_good}

module _ (S : Setting) where
  open S use {Value, Element, key}

  -- two clients that have begun an operation have begun it at two places
  apart : (g : Ghost S) (p : ℕ) (c d : ℕ) (b b' : Option Value) → (d ≡ c → ⊥) → g.begun p ≡ some (c, b) → g.begun (g.latest d) ≡ some (d, b') → g.latest d ≡ p → ⊥
  apart g p c d b b' other e f h =
      other (ap (λ (x : ℕ × Option Value). x.0) (some-injective (sym f ∙ ap g.begun h ∙ e)))

  module _ {ps : Parties Value Element} {ms : List (Message Element)} {g : Ghost S} {now : ℕ} (a : Good S ps ms g now) where
    -- client c changes but for its operation number
    abbrev Onward : ℕ → Client Value Element → Type 0
    Onward c x = x.operation ≡ (ps.clients c).operation

    onward_up : (c : ℕ) (x : Client Value Element) (g' : Ghost S) → Onward c x → ((d s : ℕ) → g'.base d s ≡ g.base d s) → ((n : ℕ) (v : Value) → g.bytes n ≡ some v → g'.bytes n ≡ some v) → Below S (know S ps g) (know S (with_client ps c x) g')
    unfolding know with_client
    onward_up c x g' same base bytes =
        record {
          high = λ s. le_refl _;
          number = λ d.
              upd_elim (λ (y : Client Value Element). (ps.clients d).operation ≤ y.operation) ps.clients c x d
              (λ e. omega (arith, same, ap (λ (z : ℕ). (ps.clients z).operation) e))
              (λ n. le_refl _);
          base = λ d e s. base d s;
          bytes = bytes;
        }

    -- client c goes on, and the record stays
    pub client_moved : (c : ℕ) (x : Client Value Element) (sends : List (Message Element)) → Onward c x → GoodPhase S (know S ps g) g c x.phase → ((m : Message Element) → Memᴰ m sends → GoodMessage S (know S ps g) m) → Good S (with_client ps c x) (ms ++ sends) g (now + 1)
    unfolding know with_client
    client_moved c x sends same phase sent =
        let up = onward_up c x g same (λ d s. refl) (λ n v e. e) in
        client_changed S a c x sends g up (λ d n. keeps_refl S g d) a.base
        (λ m i. message_up S up (sent m i))
        (phase_up S up (keeps_refl S g c) (sym same ∙ sym (ap (λ (y : Client Value Element). y.operation) (upd_same ps.clients c x))) x.phase phase)
        (log_up S up (λ n. refl) (omega arith) a.log)

    -- client c takes the tag t
    module _ (c : ℕ) (x : Client Value Element) (t : Tag) (bytes : ℕ → Option Value) (same : Onward c x) (grows : (n : ℕ) (v : Value) → g.bytes n ≡ some v → bytes n ≡ some v) where
      abbrev pub taken : Ghost S
      taken = chose S g (g.latest c) t bytes

      pub taken_up : Below S (know S ps g) (know S (with_client ps c x) taken)
      taken_up = onward_up c x taken same (λ d s. refl) grows

      pub client_chose : (sends : List (Message Element)) {board : Option Value} → Choice S (know S ps g) (know S (with_client ps c x) taken) g (g.latest c) c board t → ((m : Message Element) → Memᴰ m sends → GoodMessage S (know S (with_client ps c x) taken) m) → GoodPhase S (know S (with_client ps c x) taken) taken c x.phase → Good S (with_client ps c x) (ms ++ sends) taken (now + 1)
      client_chose sends {board} choice sent phase =
          client_changed S a c x sends taken taken_up keeps a.base sent phase
          (log_up S (below_refl S (know S (with_client ps c x) taken)) (λ n. refl) (omega arith) (log_chose S bytes taken_up choice a.log grows))
        where
          keeps : (d : ℕ) → (d ≡ c → ⊥) → Keeps S g taken d
          keeps d n =
              record {
                latest = refl;
                current = λ b e. (refl, upd_other g.chosen (g.latest c) (some t) (g.latest d) (apart g (g.latest c) c d board b n choice.begun e), refl);
                earlier = λ p y u e f h.
                    (e, upd_elim (λ (o : Option Tag). o ≡ some u → g.chosen p ≡ some u) g.chosen (g.latest c) (some t) p (λ i j. absurd (none≢some (sym choice.unended ∙ ap g.ending (sym i) ∙ e))) (λ i j. j) f);
                begun = λ p b e. e;
                ending = λ p y e. e;
              }

    -- client c's operation ends, by an answer
    pub client_ended : (c : ℕ) (x : Client Value Element) (sends : List (Message Element)) (answer : Answer Value) {board : Option Value} → Onward c x → End S (know S ps g) g (g.latest c) c board answer → ((m : Message Element) → Memᴰ m sends → GoodMessage S (know S ps g) m) → GoodPhase S (know S (with_client ps c x) (ended S g (g.latest c) (now, answer))) (ended S g (g.latest c) (now, answer)) c x.phase → Good S (with_client ps c x) (ms ++ sends) (ended S g (g.latest c) (now, answer)) (now + 1)
    unfolding know with_client
    client_ended c x sends answer {board} same end sent phase =
        let g' = ended S g (g.latest c) (now, answer) in
        let up = onward_up c x g' same (λ d s. refl) (λ n v e. e) in
        client_changed S a c x sends g' up keeps a.base (λ m i. message_up S up (sent m i)) phase (log_ended S up (λ n. refl) end a.log)
      where
        keeps : (d : ℕ) → (d ≡ c → ⊥) → Keeps S g (ended S g (g.latest c) (now, answer)) d
        keeps d n =
            record {
              latest = refl;
              current = λ b e. (refl, refl, upd_other g.ending (g.latest c) (some (now, answer)) (g.latest d) (apart g (g.latest c) c d board b n end.begun e));
              earlier = λ p y u e f h. (
                upd_elim (λ (o : Option (ℕ × Answer Value)). o ≡ some y → g.ending p ≡ some y) g.ending (g.latest c) (some (now, answer)) p
                    (λ i j. absurd (omega (arith, h, a.log.latest_before d, ap (λ (z : ℕ × Answer Value). z.0) (some-injective j)))) (λ i j. j) e,
                f,
              );
              begun = λ p b e. e;
              ending = λ p y e.
                  upd_other g.ending (g.latest c) (some (now, answer)) p (λ i. none≢some (sym end.unended ∙ ap g.ending (sym i) ∙ e)) ∙ e;
            }

    -- client c asks, in its next operation number: the base is what the servers have now, and all that has ended and has a tag had both before
    module _ (c : ℕ) (board : Option Value) (g' : Ghost S) where
      abbrev pub asks : Client Value Element
      asks = record { operation = (ps.clients c).operation + 1; phase = asking board starting_tag nobody }

      abbrev pub queries : List (Message Element)
      queries = send_each (Setting.cfg S) Query c ((ps.clients c).operation + 1) starting_tag nothing_yet

      abbrev pub highs : ℕ → ℕ
      highs s = key (ps.servers s).highest

      pub record Asks : Type 0 where
        pub base : g'.base ≡ upd g.base c highs
        pub bytes : g'.bytes ≡ g.bytes
        pub current : Current S g' c board none
        pub is_board : (v : Value) → board ≡ some v → Setting.IsBoard S v
        pub earlier : (p : ℕ) (x : ℕ × Answer Value) (t : Tag) → g'.ending p ≡ some x → g'.chosen p ≡ some t → (g.ending p ≡ some x) × (g.chosen p ≡ some t)

      module _ (new : Asks) where
        pub asks_up : Below S (know S ps g) (know S (with_client ps c asks) g')
        unfolding know with_client
        asks_up =
            record {
              high = λ s. le_refl _;
              number = λ d.
                  upd_elim (λ (y : Client Value Element). (ps.clients d).operation ≤ y.operation) ps.clients c asks d
                  (λ e. omega (arith, ap (λ (z : ℕ). (ps.clients z).operation) e))
                  (λ n. le_refl _);
              base = λ d e s. ap (λ (f : ℕ → ℕ → ℕ). f d s) new.base ∙
                  upd_elim (λ (f : ℕ → ℕ). f s ≡ g.base d s) g.base c highs d
                  (λ i.
                  let now_is : (upd ps.clients c asks d).operation ≡ (ps.clients c).operation + 1 = ap (λ (z : ℕ). (upd ps.clients c asks z).operation) i ∙ ap (λ (y : Client Value Element). y.operation) (upd_same ps.clients c asks) in
                  absurd (omega (arith, e, now_is, ap (λ (z : ℕ). (ps.clients z).operation) i)))
                  (λ n. refl);
              bytes = λ n v e. ap (λ (f : ℕ → Option Value). f n) new.bytes ∙ e;
            }

        based : (s : ℕ) → g'.base c s ≡ highs s
        based s = ap (λ (f : ℕ → ℕ → ℕ). f c s) new.base ∙ ap (λ (f : ℕ → ℕ). f s) (upd_same g.base c highs)

        phase : Asking S (know S (with_client ps c asks) g') g' c board starting_tag nobody
        unfolding know with_client
        phase =
            record {
              current = new.current;
              is_board = new.is_board;
              known = record { board = Setting.start S; is = ap (λ (f : ℕ → Option Value). f (key starting_tag)) new.bytes ∙ a.log.start_bytes; within = omega arith };
              start = le_refl _;
              answers = λ s e. absurd (false≢true e);
              earlier = λ p x t e f h.
                  let old = new.earlier p x t e f in
                  quorum_map {P = λ s. key t ≤ highs s} {Q = λ s. key t ≤ g'.base c s} (λ s l. omega (arith, l, based s)) (a.log.ending_quorum p x t old.0 old.1);
            }

        -- its queries are good
        sent : (m : Message Element) → Memᴰ m queries → GoodMessage S (know S (with_client ps c asks) g') m
        unfolding know with_client
        sent =
            sent_good S Query c ((ps.clients c).operation + 1) starting_tag nothing_yet (λ i. omega arith, λ i. omega arith, λ i. omega arith)
            (rw (upd_same ps.clients c asks) (le_refl _)) phase.known (λ s x e. absurd (none≢some e))

        pub client_asks : ((d : ℕ) → (d ≡ c → ⊥) → Keeps S g g' d) → GoodLog S (know S (with_client ps c asks) g') g' (now + 1) → Good S (with_client ps c asks) (ms ++ queries) g' (now + 1)
        unfolding know with_client
        client_asks keeps log =
            client_changed S a c asks queries g' asks_up keeps
            (λ d s. subst (λ (f : ℕ → ℕ → ℕ). f d s ≤ highs s) (sym new.base)
            (upd_elim (λ (f : ℕ → ℕ). f s ≤ highs s) g.base c highs d (λ e. le_refl _) (λ e. a.base d s)))
            sent phase log

    -- client c begins an operation, with the board to write or none
    module _ (c : ℕ) (board : Option Value) (idle : Idle S g c) (low : 1 ≤ c) (within : c ≤ (Setting.cfg S).c) (is_board : (v : Value) → board ≡ some v → Setting.IsBoard S v) where
      abbrev pub begins : Ghost S
      begins = began S g now c board (λ s. key (ps.servers s).highest)

      keeps_begin : (d : ℕ) → (d ≡ c → ⊥) → Keeps S g begins d
      keeps_begin d n =
          record {
            latest = upd_other g.latest c now d n;
            current = λ b e. (upd_other g.begun now (some (c, board)) (g.latest d) (λ h. omega (arith, a.log.begun_before (g.latest d) (d, b) e, h)), refl, refl);
            earlier = λ p y u e f h. (e, f);
            begun = λ p b.
                upd_elim (λ (o : Option (ℕ × Option Value)). o ≡ some (d, b) → g.begun p ≡ some (d, b)) g.begun now (some (c, board)) p
                (λ i j. absurd (n (sym (ap (λ (z : ℕ × Option Value). z.0) (some-injective j)))))
                (λ i j. j);
            ending = λ p y e. e;
          }

      -- nothing is recorded yet at the place of the begin
      unchosen : (o : Option Tag) → g.chosen now ≡ o → o ≡ none
      unchosen none e = refl
      unchosen (some t) e =
          let x = a.log.chosen_begun now t e in
          absurd (omega (arith, a.log.begun_before now x.0 x.1))

      unended : (o : Option (ℕ × Answer Value)) → g.ending now ≡ o → o ≡ none
      unended none e = refl
      unended (some x) e = absurd (omega (arith, a.log.ending_after now x e, a.log.ending_before now x e))

      pub asks_begun : Asks c board begins
      asks_begun =
          record {
            base = refl;
            bytes = refl;
            current = record {
              begun = rw (upd_same g.latest c now) (upd_same g.begun now (some (c, board)));
              chosen = rw (upd_same g.latest c now) (unchosen (g.chosen now) refl);
              ending = rw (upd_same g.latest c now) (unended (g.ending now) refl);
              low = low;
              high = within;
            };
            is_board = is_board;
            earlier = λ p x t e f. (e, f);
          }

      pub client_began : Good S (with_client ps c (asks c board begins)) (ms ++ queries c board begins) begins (now + 1)
      unfolding know
      client_began =
          client_asks c board begins asks_begun keeps_begin
          (log_began S c board (λ s. key (ps.servers s).highest) (asks_up c board begins asks_begun) (λ n. refl) idle a.log)

    -- client c, which reads, gives up the tag that it took
    module _ (c : ℕ) (t : Tag) (reads : Current S g c none (some t)) where
      -- to ask again: one read, begun once
      abbrev pub again : Ghost S
      again = withdrew S g (g.latest c) (upd g.base c (λ s. key (ps.servers s).highest))

      given_up : (base : ℕ → ℕ → ℕ) (d : ℕ) → (d ≡ c → ⊥) → Keeps S g (withdrew S g (g.latest c) base) d
      given_up base d n =
          record {
            latest = refl;
            current = λ b e. (refl, upd_other g.chosen (g.latest c) none (g.latest d) (apart g (g.latest c) c d none b n reads.begun e), refl);
            earlier = λ p y u e f h. (e, chosen_before S g (g.latest c) p u f);
            begun = λ p b e. e;
            ending = λ p y e. e;
          }

      pub asks_again : Asks c none again
      asks_again =
          record {
            base = refl;
            bytes = refl;
            current = record {
              begun = reads.begun;
              chosen = upd_same g.chosen (g.latest c) none;
              ending = reads.ending;
              low = reads.low;
              high = reads.high;
            };
            is_board = λ v e. absurd (none≢some e);
            earlier = λ p x u e f. (e, chosen_before S g (g.latest c) p u f);
          }

      pub client_again : Good S (with_client ps c (asks c none again)) (ms ++ queries c none again) again (now + 1)
      unfolding know
      client_again =
          client_asks c none again asks_again (given_up again.base)
          (log_withdrew S (g.latest c) again.base (asks_up c none again asks_again) (λ n. refl) (omega arith) reads.begun reads.ending a.log)

      -- or to end spent
      abbrev pub spends : Ghost S
      spends = ended S (withdrew S g (g.latest c) g.base) (g.latest c) (now, spent_by c)

      spent_keeps : (d : ℕ) → (d ≡ c → ⊥) → Keeps S g spends d
      spent_keeps d n =
          record {
            latest = refl;
            current = λ b e. (refl, ((given_up g.base d n).current b e).1, upd_other g.ending (g.latest c) (some (now, spent_by c)) (g.latest d) (apart g (g.latest c) c d none b n reads.begun e));
            earlier = λ p y u e f h. (
              upd_elim (λ (o : Option (ℕ × Answer Value)). o ≡ some y → g.ending p ≡ some y) g.ending (g.latest c) (some (now, spent_by c)) p
                  (λ i j. absurd (none≢some (sym (upd_same g.chosen (g.latest c) none) ∙ ap (upd g.chosen (g.latest c) none) (sym i) ∙ f))) (λ i j. j) e,
              chosen_before S g (g.latest c) p u f,
            );
            begun = λ p b e. e;
            ending = λ p y e.
                upd_other g.ending (g.latest c) (some (now, spent_by c)) p (λ i. none≢some (sym reads.ending ∙ ap g.ending (sym i) ∙ e)) ∙ e;
          }

      pub client_spent : (x : Client Value Element) → Onward c x → GoodPhase S (know S (with_client ps c x) spends) spends c x.phase → Good S (with_client ps c x) (ms ++ []) spends (now + 1)
      unfolding know with_client
      client_spent x same phase =
          let up = onward_up c x spends same (λ d s. refl) (λ n v e. e) in
          let unchosen = upd_same g.chosen (g.latest c) none in
          client_changed S a c x [] spends up spent_keeps a.base (λ m i. absurd (Memᴰ.not-nil i)) phase
          (log_ended S up (λ n. refl)
          (record { begun = reads.begun; unended = reads.ending; how = unchosen; quorum = λ u e. absurd (none≢some (sym unchosen ∙ e)) })
          (log_withdrew S (g.latest c) g.base (below_refl S (know S ps g)) (λ n. refl) (le_refl _) reads.begun reads.ending a.log))
