-- Events 1 and 2: a client begins, with a board to write or none. In order: what the protocol's events are; their numbers; what the client has
-- done. Assumes nothing.
use Prim.Native.Nat.{ℕ, ◌+◌, ◌*◌, ◌≤◌, ◌<◌}
use mathlib.Core.Path.{◌≡◌, refl, sym, ap, ap₂, subst, ◌∙◌}
use mathlib.Core.Bool.{Bool, true, false, false≢true}
use mathlib.Core.Option.{Option, none, some}
use mathlib.Core.List.{List, ◌++◌, map}
use native.Mathlib.Omega.{arith}
use native.Mathlib.Decide.{ℕ_discrete}
use borrow.Author.Tests.{eq-eqb, ne_eqb, le-leb, leb-false, leb-true, lt-leb}
use lib.Dec.{eqb, leb}
use lib.ListN.{length, take, drop, length-drop, length-map}
use lib.Seq.{drop_at, length-take-le}
use Rattle.laws.specs.Parts.{over, part}
use Rattle.laws.proofs.Parts.{over_length, over_same}
use Rattle.config.specs.declared.Config.{Config}
use Rattle.config.specs.declared.Refusal.{Refusal}
use Rattle.config.specs.Config.{board_length}
use Rattle.config.specs.Questions.{first_no, within}
use Rattle.config.specs.Refusal.{refusal_number}
use Rattle.config.proofs.Refusals.{refusal_some}
use Rattle.record.specs.Record.{message_of, record_of}
use Rattle.config.specs.Config.{store_length}
use Rattle.client.specs.Questions.{ask_begin_questions, begin_read_questions, begin_write_questions}
use Rattle.client.specs.Send as send
use Rattle.flight.specs.Flight.{records}
use Rattle.flight.proofs.Laws.{length_records, records_written}
use Rattle.protocol.specs.Boards.{Board, BoardActed, BoardCall, BoardClient, BoardMessage, BoardParties, begin, board_of, move, write_fits}
use Rattle.protocol.specs.Client as protocol
use Rattle.protocol.specs.Client.{begin_client, send_each}
use Rattle.protocol.proofs.Basics.{length_to_each}
use Rattle.protocol.specs.Network.{names_board}
use Rattle.protocol.specs.Parties as parties
use Rattle.protocol.specs.Parties.{client_acts, questions_to_begin}
use Rattle.protocol.specs.Rig as rig
use Rattle.protocol.specs.Rig.{Code, code_of, begin_read, begin_write, leaves, questions_to11}
use Rattle.parties.specs.declared.Acted.{Acted}
use Rattle.parties.specs.Acts.{ActPost, Parts, begins, parts}
use Rattle.events.specs.declared.Call.{Call}
use Rattle.events.specs.declared.Change.{Change}
use Rattle.events.specs.declared.Part.{Part}
use Rattle.events.specs.declared.Rig.{Rig}
use Rattle.events.specs.View.{Lent, flight, lent, messages_of, parties_of, view}
use Rattle.events.specs.Questions.{formed_for}
use Rattle.events.specs.Calls.{EventPost, called, event_no, records_after, turned}
use Rattle.events.specs.inner.Begin.{ReadPost, WritePost, asked_no, asked_write_no, full_no}
use Rattle.events.specs.inner.Part.{acting, refusing}
use Rattle.events.specs.inner.Turn.{Ready}
use Rattle.events.proofs.Clients.{idle_of, ask_number, begin_asked, read_number, write_number}
use Rattle.events.proofs.Numbers.{early_number, long_number}
use Rattle.events.proofs.Pairs.{Back, back_same, client-at, parts_of}
use Rattle.events.proofs.Ready.{board_long, client_below, client_me, client_within, is_valid, kept_long, messages_long, party_client, server_below}
use Rattle.client.proofs.Sends.{records_out}
use Rattle.events.proofs.outcome.Laws.{Moves, acted_on, acted_turn, full-no, refused_on, sends_many, sends_out, sends_sound}

-- ---- the protocol's events

-- an event of a code is a beginning with a board or none
pub record Begins (cfg : Config) (r : Rig) (l : Lent) (a : BoardCall) (w : Code) (b : Option Board) : Type 0 where
  pub code : code_of a.code ≡ some w
  pub fits : write_fits cfg a (some w) ≡ true
  pub other : a.code ≡ 3 → ⊥
  pub asks : questions_to11 cfg (view cfg r l) a w ≡ questions_to_begin cfg (parties_of cfg r l) a.party
  pub formed : formed_for cfg (flight r l) a.position (some w) ≡ true
  pub names : names_board (some w) ≡ true
  pub moves : move cfg (view cfg r l) a w ≡ leaves (messages_of cfg (flight r l)) (begin cfg (parties_of cfg r l) a.party b)
  pub after : (ms : List BoardMessage) → records_after cfg (flight r l) a.position ms (some w)
      ≡ flight r l ++ map (record_of cfg) (drop (length (flight r l)) ms)

module _ (cfg : Config) (r : Rig) (l : Lent) (a : Call) (board : List ℕ) where
  write_begins : a.code ≡ 1 → leb a.length (board_length cfg) ≡ true → Begins cfg r l (called a board) begin_write (some (board_of a.length board))
  unfolding code_of questions_to11 formed_for names_board rig.move records_after view rig.write_fits
  write_begins e fits =
      record { code = ap code_of e; fits = fits; other = λ z. omega (arith, e, z); asks = refl; formed = refl; names = refl; moves = refl; after = λ ms. refl }

  read_begins : a.code ≡ 2 → Begins cfg r l (called a board) begin_read none
  unfolding code_of questions_to11 formed_for names_board rig.move records_after view rig.write_fits
  read_begins e =
      record { code = ap code_of e; fits = refl; other = λ z. omega (arith, e, z); asks = refl; formed = refl; names = refl; moves = refl; after = λ ms. refl }

-- ---- their numbers

module _ {cfg : Config} {m : ℕ} {r : Rig} {p : Part} {a : Call} {board read : List ℕ} {l : Lent} (ready : Ready cfg m r p a board read l)
    {w : Code} {b : Option Board} (h : Begins cfg r l (called a board) w b)
  where
    abbrev call : BoardCall
    call = called a board

    -- 9, 10 and 11 of its client
    abbrev idle : ℕ
    idle = first_no (idle_of cfg p.pair.client)

    missing_number : within 1 cfg.c a.party ≡ false → event_no cfg m r call read l ≡ 8
    unfolding questions_to_begin first_no
    missing_number out =
        early_number cfg m r call read l ready.yes w h.code h.fits 8 (ap first_no h.asks ∙ rw out) (λ z. omega (arith, z))

    module _ (there : within 1 cfg.c a.party ≡ true) where
      client_is : p.client + 1 ≡ a.party
      client_is = party_client ready h.other there

      idle_asks : first_no (questions_to11 cfg (view cfg r l) (called a board) w) ≡ first_no (idle_of cfg p.pair.client)
      unfolding questions_to_begin first_no
      idle_asks =
          ap first_no h.asks
          ∙ rw there
          (ap (λ (x : BoardClient). first_no (protocol.begin_questions x))
          (ap (parties_of cfg r l).clients (sym client_is) ∙ client-at cfg r l p (server_below ready) (client_below ready) ready.part)
          ∙ begin_asked cfg p.pair.client (parts_of cfg p l).kept (parts_of cfg p l).elements)

      many_sends : length (begins cfg p.pair b (parties_of cfg r l)).sends ≡ cfg.n
      unfolding parties.begin client_acts begin_client send_each
      many_sends = length_to_each cfg.n _

      begin_moves : first_no (idle_of cfg p.pair.client) ≡ 0 → Moves cfg r l (called a board) w (begins cfg p.pair b) (flight r l)
      begin_moves idles =
          let sends = (begins cfg p.pair b (parties_of cfg r l)).sends in
          record {
            code = h.code;
            fits = h.fits;
            pass = idle_asks ∙ idles;
            formed = h.formed;
            moves = h.moves
                ∙ ap (λ c. leaves (messages_of cfg (flight r l)) (begin cfg (parties_of cfg r l) c b)) (sym (client_me ready ∙ client_is));
            after = h.after (messages_of cfg (flight r l) ++ sends)
                ∙ ap (λ x. flight r l ++ map (record_of cfg) x)
                (drop_at (messages_of cfg (flight r l)) sends (length (flight r l)) (length-map (flight r l) (message_of cfg)));
          }

      -- without room
      full_number : m < p.count + cfg.n → event_no cfg m r call read l ≡ full_no (first_no (idle_of cfg p.pair.client))
      full_number over = elim (ℕ_discrete idle 0) as (λ _. event_no cfg m r call read l ≡ full_no idle) [
        | yes z ↦
            full-no ready (begin_moves z) (omega (arith, over, many_sends, length_records r.count l.messages, ready.part.count))
            ∙ sym (rw (eq-eqb idle 0 z))
        | no ne ↦ early_number cfg m r call read l ready.yes w h.code h.fits idle idle_asks ne ∙ sym (rw (ne_eqb idle 0 ne))
      ]

    -- where the client need not be asked
    asked_number : (k : ℕ) → k ≡ asked_no cfg m p a.party → (k ≡ 0 → ⊥) → event_no cfg m r call read l ≡ k
    asked_number k e some_no = by (within 1 cfg.c a.party) (leb (p.count + cfg.n) m) refl refl
      where
        by : (t f : Bool) → within 1 cfg.c a.party ≡ t → leb (p.count + cfg.n) m ≡ f → event_no cfg m r call read l ≡ k
        by false f out full = missing_number out ∙ sym (e ∙ rw out)
        by true true there full = absurd (some_no (e ∙ rw (there, full)))
        by true false there full =
            full_number there (leb-false (p.count + cfg.n) m full)
            ∙ sym (e ∙ rw (there, full) (ap full_no (ask_number cfg (is_valid ready) p.pair.client (client_within ready))))

module _ (cfg : Config) (m : ℕ) (p : Part) (party : ℕ) where
  -- as the code asks
  pub asked_missing : within 1 cfg.c party ≡ false → 8 ≡ asked_no cfg m p party
  asked_missing out = rw out

  module _ (there : within 1 cfg.c party ≡ true) where
    pub asked_room : p.count + cfg.n ≤ m → 0 ≡ asked_no cfg m p party
    asked_room fits = rw (there, le-leb (p.count + cfg.n) m fits)

    module _ (over : m < p.count + cfg.n) (got : ℕ) (e : got ≡ first_no (ask_begin_questions cfg p.pair.client)) where
      pub asked_idle : (got ≡ 0 → ⊥) → got ≡ asked_no cfg m p party
      asked_idle ne =
          e ∙ sym (rw (there, lt-leb (p.count + cfg.n) m over, ne_eqb (first_no (ask_begin_questions cfg p.pair.client)) 0 (λ z. ne (e ∙ z))))

      pub asked_full : got ≡ 0 → 13 ≡ asked_no cfg m p party
      asked_full z =
          sym (rw (there, lt-leb (p.count + cfg.n) m over, eq-eqb (first_no (ask_begin_questions cfg p.pair.client)) 0 (sym e ∙ z)))

  -- and where it is 0, there is the client, and room
  pub asked_yes : 0 ≡ asked_no cfg m p party → (within 1 cfg.c party ≡ true) × (p.count + cfg.n ≤ m)
  asked_yes e = by (within 1 cfg.c party) (leb (p.count + cfg.n) m) refl refl
    where
      k : ℕ
      k = first_no (ask_begin_questions cfg p.pair.client)

      some_no : (j : ℕ) → 0 ≡ full_no j → ⊥
      some_no j z = elim (ℕ_discrete j 0) as (λ _. ⊥) [
        | yes e ↦ omega (arith, rw (eq-eqb j 0 e) at z)
        | no n ↦ n (sym (rw (ne_eqb j 0 n) at z))
      ]

      by : (t f : Bool) → within 1 cfg.c party ≡ t → leb (p.count + cfg.n) m ≡ f → (within 1 cfg.c party ≡ true) × (p.count + cfg.n ≤ m)
      by false f out h = let z : ◌≡◌ {A = ℕ} 0 8 = e ∙ rw out in absurd (omega (arith, z))
      by true true there h = (there, leb-true (p.count + cfg.n) m h)
      by true false there h = absurd (some_no k (e ∙ rw (there, h)))

-- of a write, 19 comes first
module _ (cfg : Config) (m : ℕ) (p : Part) (a : Call) where
  pub write_long : leb a.length (board_length cfg) ≡ false → 19 ≡ asked_write_no cfg m p a
  write_long out = rw out

  pub write-fits : leb a.length (board_length cfg) ≡ true → asked_no cfg m p a.party ≡ asked_write_no cfg m p a
  write-fits in-range = rw in-range

  pub write_yes : 0 ≡ asked_write_no cfg m p a → (leb a.length (board_length cfg) ≡ true) × (0 ≡ asked_no cfg m p a.party)
  write_yes e = by (leb a.length (board_length cfg)) refl
    where
      by : (b : Bool) → leb a.length (board_length cfg) ≡ b → (leb a.length (board_length cfg) ≡ true) × (0 ≡ asked_no cfg m p a.party)
      by true h = (h, e ∙ rw h)
      by false h = let z : ◌≡◌ {A = ℕ} 0 19 = e ∙ rw h in absurd (omega (arith, z))

written_number : {cfg : Config} {m : ℕ} {r : Rig} {p : Part} {a : Call} {board read : List ℕ} {l : Lent} → Ready cfg m r p a board read l → a.code ≡ 1 → (k : ℕ)
    → k ≡ asked_write_no cfg m p a → (k ≡ 0 → ⊥) → event_no cfg m r (called a board) read l ≡ k
unfolding code_of rig.write_fits
written_number {cfg} {m} {r} {p} {a} {board} {read} {l} ready code k e some_no = by (leb a.length (board_length cfg)) refl
  where
    by : (b : Bool) → leb a.length (board_length cfg) ≡ b → event_no cfg m r (called a board) read l ≡ k
    by true h = asked_number ready (write_begins cfg r l a board code h) k (e ∙ sym (write-fits cfg m p a h)) some_no
    by false h = long_number cfg m r (called a board) read l ready.yes begin_write (ap code_of code) h ∙ write_long cfg m p a h ∙ sym e

-- ---- what the client has done

-- what it sends stands behind the messages in flight
module _ {cfg : Config} {m : ℕ} {r : Rig} {p : Part} {a : Call} {board read : List ℕ} {l : Lent} (ready : Ready cfg m r p a board read l)
    {w : Code} {b : Option Board} (h : Begins cfg r l (called a board) w b) (there : within 1 cfg.c a.party ≡ true) (fits : p.count + cfg.n ≤ m)
    {number : ℕ} {y : Acted} {ps : Parts} {sends sends' : List ℕ} {l' : Lent}
    (post : ActPost cfg number (begins cfg p.pair b) p.pair (parts_of cfg p l) sends read y ps sends' read) (put : Back cfg p l ps l')
    (asks : number ≡ first_no (idle_of cfg p.pair.client))
    (sends-are : sends ≡ take (80 * cfg.n) (drop (80 * p.count) l.messages))
    (written : l'.messages ≡ over (80 * p.count) (80 * cfg.n) sends' l.messages)
    (long : length sends' ≡ 80 * cfg.n)
  where
    abbrev q : BoardParties
    q = parties_of cfg r l

    abbrev act : BoardParties → BoardActed
    act = begins cfg p.pair b

    held : (number ≡ 0 → ⊥) → (p.count + y.sent ≡ p.count) × (l'.messages ≡ l.messages)
    unfolding send.records_of
    held ne =
        let z : eqb number 0 ≡ false = ne_eqb number 0 ne in
        let none-sent : y.sent ≡ 0 = rw z at (post.sent q) in
        let same : sends' ≡ sends = rw z at (post.out q) in (
          omega (arith, none-sent),
          written ∙ ap (λ x. over (80 * p.count) (80 * cfg.n) x l.messages) (same ∙ sends-are)
              ∙ over_same (80 * p.count) (80 * cfg.n) l.messages,
        )

    module _ (idles : number ≡ 0) where
      ms : List BoardMessage
      ms = (act q).sends

      many : y.sent ≡ length ms
      unfolding ms
      many = sends_many ready post put (p.count + y.sent) idles

      flies : records (p.count + y.sent) l'.messages ≡ flight r l ++ map (record_of cfg) (act q).sends
      unfolding ms
      flies =
          ap (records (p.count + y.sent)) written
          ∙ records_written p.count y.sent l.messages sends' (drop (80 * p.count + 80 * cfg.n) l.messages)
          (omega (arith, fits, messages_long ready)) (omega (arith, long, many, many_sends ready h there))
          ∙ ap₂ (λ k x. records k l.messages ++ x) (sym ready.part.count)
          (ap (λ k. records k sends') many
          ∙ records_out cfg (is_valid ready).e_high (act q).sends (sends_sound ready post put (p.count + y.sent) idles) sends sends'
          (sends_out ready post put (p.count + y.sent) idles))

      few : p.count + y.sent ≤ m
      unfolding ms
      few = omega (arith, fits, many, many_sends ready h there)

    begun : EventPost cfg m r (called a board) read l (turned r (acting y (p.count + y.sent) p)) read l'
    begun =
        acted_turn ready post put (p.count + y.sent) w (flight r l) h.code h.fits (idle_asks ready h there ∙ sym asks) held
        (λ idles. (
          begin_moves ready h there (sym asks ∙ idles),
          few idles,
          ap length written ∙ over_length (80 * p.count) (80 * cfg.n) sends' l.messages long (omega (arith, fits, messages_long ready)),
          flies idles,
        ))
        (λ none_named. absurd (false≢true (sym none_named ∙ h.names)))

-- the client's part of the messages, as it is lent
sends-length : (cfg : Config) (m count : ℕ) (messages : List ℕ) → length messages ≡ 80 * m → count + cfg.n ≤ m
    → length (take (80 * cfg.n) (drop (80 * count) messages)) ≡ 80 * cfg.n
sends-length cfg m count messages long fits =
    length-take-le (80 * cfg.n) (drop (80 * count) messages) (omega (arith, long, fits, length-drop (80 * count) messages))

module _ (cfg : Config) (m : ℕ) (p : Part) (a : Call) (messages : List ℕ) (x : Change) where
  -- refused
  module _ (why : Refusal) (refuses : x ≡ refusing why p) where
    pub write_refused : refusal_number why ≡ asked_write_no cfg m p a → (board boards : List ℕ) → WritePost cfg m p a board messages boards x messages boards
    write_refused e board boards read stores elements code =
        refused_on why refuses (λ r ready. written_number ready code (refusal_number why) e (refusal_some why e).0)

    pub read_refused : refusal_number why ≡ asked_no cfg m p a.party → ReadPost cfg m p a messages x messages
    read_refused e board read stores boards elements code =
        refused_on why refuses (λ r ready. asked_number ready (read_begins cfg r _ a board code) (refusal_number why) e (refusal_some why e).0)

  module _ (none_no : 0 ≡ asked_no cfg m p a.party) (long : length messages ≡ 80 * m) (y : Acted) (sends sends' messages' : List ℕ)
      (acts : x ≡ acting y (p.count + y.sent) p)
      (sends-are : sends ≡ take (80 * cfg.n) (drop (80 * p.count) messages))
      (written : messages' ≡ over (80 * p.count) (80 * cfg.n) sends' messages)
      (as_long : length sends' ≡ length sends)
    where
      both : (within 1 cfg.c a.party ≡ true) × (p.count + cfg.n ≤ m)
      both = asked_yes cfg m p a.party none_no

      lent_long : length sends ≡ 80 * cfg.n
      lent_long = ap length sends-are ∙ sends-length cfg m p.count messages long both.1

      sends_long : length sends' ≡ 80 * cfg.n
      sends_long = as_long ∙ lent_long

      pub write_acted : leb a.length (board_length cfg) ≡ true → (board boards kept kept' boards' : List ℕ) → kept ≡ part (board_length cfg) p.client boards
          → boards' ≡ over (p.client * board_length cfg) (board_length cfg) kept' boards
          → ((store es read : List ℕ) → ActPost cfg (first_no (begin_write_questions cfg p.pair.client a.length board kept sends)) (begins cfg p.pair (some (board_of a.length board))) p.pair
          (parts store kept es) sends read y (parts store kept' es) sends' read)
          → WritePost cfg m p a board messages boards x messages' boards'
      write_acted fits board boards kept kept' boards' kept_is boards_are post read stores elements code =
          let l = lent messages stores boards elements in
          let ps = parts_of cfg p l in
          acted_on y (p.count + y.sent) read (lent messages' stores boards' elements) acts (λ r ready.
          begun ready (write_begins cfg r l a board code fits) both.0 both.1
          (subst (λ (k : List ℕ). ActPost cfg (first_no (begin_write_questions cfg p.pair.client a.length board k sends)) (begins cfg p.pair (some (board_of a.length board))) p.pair
          (parts ps.store k ps.elements) sends read y (parts ps.store kept' ps.elements) sends' read) kept_is
          (post ps.store ps.elements read))
          (record {
            stores = sym (over_same (p.server * store_length cfg) (store_length cfg) stores);
            boards = boards_are;
            elements = sym (over_same (p.client * (cfg.n * cfg.e)) (cfg.n * cfg.e) elements);
          })
          (write_number cfg (is_valid ready) p.pair.client (client_within ready) a.length board ps.kept sends fits (board_long ready) (kept_long ready) lent_long)
          sends-are written sends_long)

      pub read_acted : ((store kept es read : List ℕ) → ActPost cfg (first_no (begin_read_questions cfg p.pair.client sends)) (begins cfg p.pair none) p.pair
          (parts store kept es) sends read y (parts store kept es) sends' read)
          → ReadPost cfg m p a messages x messages'
      read_acted post board read stores boards elements code =
          let l = lent messages stores boards elements in
          let ps = parts_of cfg p l in
          acted_on y (p.count + y.sent) read (lent messages' stores boards elements) acts (λ r ready.
          begun ready (read_begins cfg r l a board code) both.0 both.1 (post ps.store ps.kept ps.elements read)
          (back_same cfg p l messages')
          (read_number cfg (is_valid ready) p.pair.client (client_within ready) sends lent_long)
          sends-are written sends_long)
