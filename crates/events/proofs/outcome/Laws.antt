-- What is left to show of an event, once it is known what its parties do: its number and, where it is accepted, which records are in flight.
-- In order: an event refused, or accepted; by the part that it names; what the parties do, refused, accepted, or either; nothing that they do; and
-- the same of every rig that the part is of. Assumes nothing.
use Prim.Native.Nat.{ℕ, ◌+◌, ◌*◌, ◌≤◌, ◌<◌}
use mathlib.Core.Path.{◌≡◌, refl, sym, ap, ap₂, subst, ◌∙◌}
use mathlib.Core.Bool.{true, false, ◌&&◌}
use mathlib.Core.Option.{some}
use mathlib.Core.List.{List, [], ◌++◌, map}
use native.Mathlib.Omega.{arith}
use native.Mathlib.Decide.{ℕ_discrete}
use borrow.Author.Tests.{eq-eqb, ne_eqb, le-leb, lt-leb}
use lib.Dec.{eqb, leb}
use lib.ListN.{length, length-append, length-map}
use Rattle.laws.specs.Parts.{over}
use Rattle.laws.proofs.Bools.{and_left, and_right}
use Rattle.laws.proofs.Parts.{over_same, over_length, part_fits}
use Rattle.config.specs.declared.Config.{Config}
use Rattle.config.specs.declared.Refusal.{Refusal}
use Rattle.config.specs.Config.{board_length}
use Rattle.config.specs.Number.{client_number, server_number}
use Rattle.config.specs.Questions.{first_no}
use Rattle.config.specs.Refusal.{refusal_number}
use Rattle.record.specs.Record.{message_of, record_of}
use Rattle.record.proofs.Parties.{number_low}
use Rattle.config.specs.Config.{store_length}
use Rattle.server.specs.Within.{state_within as server_state_within}
use Rattle.client.specs.Send as send
use Rattle.client.specs.State.{state_within}
use Rattle.flight.specs.Flight.{records}
use Rattle.flight.proofs.Laws.{length_records}
use Rattle.protocol.specs.Board.{refused}
use Rattle.protocol.specs.Boards.{BoardActed, BoardCall, BoardParties, BoardRig, BoardTurn, fresh_parties, move, starting_board, write_fits}
use Rattle.protocol.specs.Network.{names_board}
use Rattle.protocol.specs.Parties as parties
use Rattle.protocol.specs.Rig as rig
use Rattle.protocol.specs.Rig.{Code, code_of, has_room, leaves, questions_to11, unless_no}
use Rattle.parties.specs.declared.Acted.{Acted}
use Rattle.parties.specs.declared.Answer.{Answer}
use Rattle.parties.specs.declared.Pair.{Pair}
use Rattle.parties.specs.Acts.{ActPost, Parts, among, answer_of, is_read}
use Rattle.parties.specs.Acts as acts
use Rattle.protocol.specs.Sound.{Sound}
use Rattle.protocol.proofs.Sound.{sound_none}
use Rattle.events.specs.declared.Call.{Call}
use Rattle.events.specs.declared.Change.{Change}
use Rattle.events.specs.declared.Part.{Part}
use Rattle.events.specs.declared.Rig.{Rig}
use Rattle.events.specs.declared.Turn.{Turn}
use Rattle.events.specs.View.{Lent, flight, messages_of, parties_of, view}
use Rattle.parties.specs.Within.{client_in_place, server_in_place}
use Rattle.events.specs.Questions.{formed_for, rig_within, sized, sized_by}
use Rattle.events.specs.Calls.{EventPost, called, event_no, outcome, records_after, turned, with_part}
use Rattle.events.specs.inner.Part.{acting, refusing}
use Rattle.events.specs.inner.Turn.{Ready, TurnPost}
use Rattle.events.proofs.RigWithin.{clients_taken, part-within, servers_taken}
use Rattle.events.proofs.Numbers.{accepted_number, early_number, full_number}
use Rattle.events.proofs.Pairs.{Back, another, parts_of, put_among, put_same}
use Rattle.events.proofs.Ready.{boards_long, client_below, client_me, elements_long, is_valid, is_within, kept_long, own-among, pair-within, received_long, server_below, server_me, store_long, stores_long}
use Rattle.client.proofs.Sends.{room_out}
use Rattle.events.proofs.Sends.{messages_behind}

-- ---- an event

module _ (cfg : Config) (m : ℕ) (r : Rig) (a : BoardCall) (read : List ℕ) (l : Lent) (t : Turn) (read' : List ℕ) (l' : Lent) where
  abbrev number : ℕ
  number = event_no cfg m r a read l

  abbrev v : BoardRig
  v = view cfg r l

  -- refused with its number, and all as it was
  pub refused_event : (k : ℕ) → (k ≡ 0 → ⊥) → event_no cfg m r a read l ≡ k → answer_of t.answer read' ≡ refused k
      → t.rig ≡ r → read' ≡ read → l' ≡ l → EventPost cfg m r a read l t read' l'
  unfolding unless_no
  refused_event k ne e answers stays reads lent =
      let some_no : number ≡ 0 → ⊥ = λ z. ne (sym e ∙ z) in
      record {
        answer = rw (ne_eqb number 0 some_no) (answers ∙ ap refused (sym e));
        untouched = λ _. reads;
        seen = rw (ne_eqb number 0 some_no) (ap₂ (view cfg) stays lent);
        records = λ z. absurd (some_no z);
        within = λ z. absurd (some_no z);
        lengths = ap (sized cfg m) lent;
        held = λ _. (stays, lent);
        buffers_stay = λ _. lent;
      }

  -- the protocol's move
  pub accepted_event : (w : Code) → code_of a.code ≡ some w → event_no cfg m r a read l ≡ 0
      → answer_of t.answer read' ≡ (move cfg (view cfg r l) a w).answer
      → (is_read t.answer ≡ false → read' ≡ read)
      → view cfg t.rig l' ≡ (move cfg (view cfg r l) a w).rig
      → flight t.rig l' ≡ records_after cfg (flight r l) a.position (move cfg (view cfg r l) a w).rig.in_flight (some w)
      → rig_within cfg m t.rig ≡ true
      → sized cfg m l' ≡ sized cfg m l
      → (names_board (some w) ≡ false → l' ≡ l)
      → EventPost cfg m r a read l t read' l'
  unfolding unless_no rig.move_of
  accepted_event w code e answers untouched sees flies within long still =
      let o : outcome cfg m r a read l ≡ move cfg v a w = rw (eq-eqb number 0 e, code) in
      record {
        answer = answers ∙ sym (ap (λ (x : BoardTurn). x.answer) o);
        untouched = untouched;
        seen = sees ∙ sym (ap (λ (x : BoardTurn). x.rig) o);
        records = λ _. flies
            ∙ sym (ap₂ (λ ms c. records_after cfg (flight r l) a.position ms c) (ap (λ (x : BoardTurn). x.rig.in_flight) o) code);
        within = λ _. within;
        lengths = long;
        held = λ ne. absurd (ne e);
        buffers_stay = λ none_named. still (ap names_board (sym code) ∙ none_named);
      }

-- an answer that is a refusal is no read's
refused_unread : (x : Answer) (read : List ℕ) (k : ℕ) → answer_of x read ≡ refused k → is_read x ≡ false
refused_unread Answer.Nothing read k e = refl
refused_unread (Answer.Written c t) read k e = refl
refused_unread (Answer.Spent c) read k e = refl
refused_unread (Answer.Read c t length) read k e = let z : ◌≡◌ {A = ℕ} 0 1 = cc in absurd (omega (arith, z))
refused_unread (Answer.No why) read k e = refl

-- ---- by the part that it names

-- What the protocol's event of a code is, where 8 to 12 are answered yes: what the parties do, beside records that stay in flight.
pub record Moves (cfg : Config) (r : Rig) (l : Lent) (a : BoardCall) (w : Code) (act : BoardParties → BoardActed) (left : List (List ℕ)) : Type 0 where
  pub code : code_of a.code ≡ some w
  pub fits : write_fits cfg a (some w) ≡ true
  pub pass : first_no (questions_to11 cfg (view cfg r l) a w) ≡ 0
  pub formed : formed_for cfg (flight r l) a.position (some w) ≡ true
  pub moves : move cfg (view cfg r l) a w ≡ leaves (messages_of cfg left) (act (parties_of cfg r l))
  pub after : records_after cfg (flight r l) a.position (messages_of cfg left ++ (act (parties_of cfg r l)).sends) (some w)
      ≡ left ++ map (record_of cfg) (act (parties_of cfg r l)).sends

module _ {cfg : Config} {m : ℕ} {r : Rig} {p : Part} {a : Call} {board read : List ℕ} {l : Lent} (ready : Ready cfg m r p a board read l) where
  abbrev call : BoardCall
  call = called a board

  abbrev q : BoardParties
  q = parties_of cfg r l

  same : with_part r p ≡ r
  same = put_same ready.part

  pub refused_turn : (why : Refusal) → event_no cfg m r (called a board) read l ≡ refusal_number why
      → EventPost cfg m r (called a board) read l (turned r (refusing why p)) read l
  refused_turn why e =
      refused_event cfg m r call read l (turned r (refusing why p)) read l (refusal_number why) (λ z. omega (arith, number_low why, z)) e
      refl same refl refl

  module _ {w : Code} {act : BoardParties → BoardActed} {left : List (List ℕ)} (h : Moves cfg r l (called a board) w act left) where
    room_is : has_room m (move cfg (view cfg r l) call w) ≡ leb (length left + length (act q).sends) m
    unfolding has_room leaves
    room_is =
        ap (λ (t : BoardTurn). leb (length t.rig.in_flight) m) h.moves
        ∙ ap (λ n. leb n m)
        (length-append (messages_of cfg left) (act q).sends ∙ ap (λ n. n + length (act q).sends) (length-map left (message_of cfg)))

    -- 13
    pub full-no : m < length left + length (act (parties_of cfg r l)).sends → event_no cfg m r (called a board) read l ≡ 13
    full-no over =
        full_number cfg m r call read l ready.yes w h.code h.fits h.pass h.formed (room_is ∙ lt-leb (length left + length (act q).sends) m over)

  -- ---- what the parties do

  module _ {number : ℕ} {act : BoardParties → BoardActed} {y : Acted} {ps : Parts} {sends sends' read' : List ℕ} {l' : Lent}
      (post : ActPost cfg number act p.pair (parts_of cfg p l) sends read y ps sends' read') (put : Back cfg p l ps l') (n : ℕ)
    where
      abbrev t : Turn
      t = turned r (acting y n p)

      -- they refuse
      pub acted_no : (number ≡ 0 → ⊥) → event_no cfg m r (called a board) read l ≡ number → n ≡ p.count → l'.messages ≡ l.messages
          → EventPost cfg m r (called a board) read l (turned r (acting y n p)) read' l'
      acted_no ne e counts messages =
          let z : eqb number 0 ≡ false = ne_eqb number 0 ne in
          let answers : answer_of y.answer read' ≡ refused number = rw z at (post.answer q) in
          let parts_same : ps ≡ parts_of cfg p l = (post.held ne).1 in
          refused_event cfg m r call read l t read' l' number ne e answers
          (ap₂ (λ (x : Pair) (k : ℕ). with_part r (another p x k)) (post.held ne).0 counts ∙ same)
          (post.untouched (refused_unread y.answer read' number answers))
          (λ i. record {
            messages = messages i;
            stores = (put.stores ∙ ap (λ (x : Parts). over (p.server * store_length cfg) (store_length cfg) x.store l.stores) parts_same
                ∙ over_same (p.server * store_length cfg) (store_length cfg) l.stores) i;
            boards = (put.boards ∙ ap (λ (x : Parts). over (p.client * board_length cfg) (board_length cfg) x.kept l.boards) parts_same
                ∙ over_same (p.client * board_length cfg) (board_length cfg) l.boards) i;
            elements = (put.elements ∙ ap (λ (x : Parts). over (p.client * (cfg.n * cfg.e)) (cfg.n * cfg.e) x.elements l.elements) parts_same
                ∙ over_same (p.client * (cfg.n * cfg.e)) (cfg.n * cfg.e) l.elements) i;
          })

      -- the buffers keep their lengths
      abbrev store_room : p.server * store_length cfg + store_length cfg ≤ length l.stores
      store_room = omega (arith, part_fits p.server cfg.n (store_length cfg) (server_below ready), stores_long ready)

      abbrev kept_room : p.client * board_length cfg + board_length cfg ≤ length l.boards
      kept_room = omega (arith, part_fits p.client cfg.c (board_length cfg) (client_below ready), boards_long ready)

      abbrev elements_room : p.client * (cfg.n * cfg.e) + cfg.n * cfg.e ≤ length l.elements
      elements_room = omega (arith, part_fits p.client cfg.c (cfg.n * cfg.e) (client_below ready), elements_long ready)

      sized_same : length l'.messages ≡ length l.messages → sized cfg m l' ≡ sized cfg m l
      sized_same messages =
          let stores : length l'.stores ≡ length l.stores =
          ap length put.stores
          ∙ over_length (p.server * store_length cfg) (store_length cfg) ps.store l.stores (post.long.0 ∙ store_long ready) store_room in
          let boards : length l'.boards ≡ length l.boards =
          ap length put.boards
          ∙ over_length (p.client * board_length cfg) (board_length cfg) ps.kept l.boards (post.long.1 ∙ kept_long ready) kept_room in
          let elements : length l'.elements ≡ length l.elements =
          ap length put.elements
          ∙ over_length (p.client * (cfg.n * cfg.e)) (cfg.n * cfg.e) ps.elements l.elements (post.long.2 ∙ received_long ready) elements_room in
          λ i. sized_by cfg m (messages i) (stores i) (boards i) (elements i)

      -- their numbers, and question 6
      server_own : server_number y.pair.node.state.me ≡ p.server + 1
      server_own = ap server_number post.me.0 ∙ server_me ready

      client_own : client_number y.pair.client.me ≡ p.client + 1
      client_own = ap client_number post.me.1 ∙ client_me ready

      still_within : n ≤ m → rig_within cfg m t.rig ≡ true
      unfolding server_in_place client_in_place
      still_within few =
          let both = post.within (pair-within ready) (store_long ready) in
          part-within cfg m r (is_within ready) (another p y.pair n) few (server_below ready) (client_below ready)
          (ap₂ ◌&&◌ (eq-eqb (server_number y.pair.node.state.me) (p.server + 1) server_own)
          (and_left (server_state_within cfg y.pair.node.state) (state_within cfg y.pair.client) both))
          (ap₂ ◌&&◌ (eq-eqb (client_number y.pair.client.me) (p.client + 1) client_own)
          (and_right (server_state_within cfg y.pair.node.state) (state_within cfg y.pair.client) both))

      -- they do what the protocol's do
      module _ (none_no : number ≡ 0) where
        pub acted : acts.outcome number act (among cfg (parties_of cfg r l) p.pair (parts_of cfg p l)) ≡ act (parties_of cfg r l)
        acted = rw (eq-eqb number 0 none_no) (ap act (own-among ready))

        parties_seen : parties_of cfg t.rig l' ≡ (act q).parties
        parties_seen =
            put_among cfg r l p (server_below ready) (client_below ready) y.pair ps l' put
            (servers_taken cfg m r (is_within ready)) (clients_taken cfg m r (is_within ready))
            (post.long.0 ∙ store_long ready) (post.long.1 ∙ kept_long ready) (post.long.2 ∙ received_long ready)
            store_room kept_room elements_room n server_own client_own
            ∙ post.seen q ∙ ap (λ (x : BoardActed). x.parties) acted

        pub sends_sound : Sound cfg (act (parties_of cfg r l)).sends
        sends_sound = subst (λ (x : BoardParties). Sound cfg (act x).sends) (own-among ready) (post.sound none_no q)

        pub sends_many : y.sent ≡ length (act (parties_of cfg r l)).sends
        sends_many = post.sent q ∙ ap (λ (x : BoardActed). length x.sends) acted

        pub sends_out : sends' ≡ send.front (send.records_of cfg (act (parties_of cfg r l)).sends) sends
        sends_out = post.out q ∙ ap (λ (x : BoardActed). send.front (send.records_of cfg x.sends) sends) acted

        module _ {w : Code} {left : List (List ℕ)} (h : Moves cfg r l (called a board) w act left) where
          -- and the records in flight are those that stay and those of what is sent
          pub acted_yes : n ≤ m → length l'.messages ≡ length l.messages
              → records n l'.messages ≡ left ++ map (record_of cfg) (act (parties_of cfg r l)).sends
              → (names_board (some w) ≡ false → l' ≡ l)
              → EventPost cfg m r (called a board) read l (turned r (acting y n p)) read' l'
          unfolding view leaves
          acted_yes few messages flies still =
              let many : n ≡ length left + length (act q).sends =
              sym (length_records n l'.messages) ∙ ap length flies ∙ length-append left (map (record_of cfg) (act q).sends)
              ∙ ap (λ k. length left + k) (length-map (act q).sends (record_of cfg)) in
              accepted_event cfg m r call read l t read' l' w h.code
              (accepted_number cfg m r call read l ready.yes w h.code h.fits h.pass h.formed
              (room_is h ∙ le-leb (length left + length (act q).sends) m (omega (arith, many, few))))
              (post.answer q ∙ ap (λ (x : BoardActed). x.answer) acted ∙ sym (ap (λ (x : BoardTurn). x.answer) h.moves))
              post.untouched
              ((λ i. record {
                parties = parties_seen i;
                in_flight = (ap (messages_of cfg) flies ∙ messages_behind cfg (is_valid ready) left (act q).sends sends_sound) i;
              })
              ∙ sym (ap (λ (x : BoardTurn). x.rig) h.moves))
              (flies ∙ sym h.after ∙ sym (ap (λ (x : BoardTurn). records_after cfg (flight r l) a.position x.rig.in_flight (some w)) h.moves))
              (still_within few) (sized_same messages) still

      -- either: 8 to 11 are what the parties ask
      module _ (w : Code) (left : List (List ℕ)) (code : code_of a.code ≡ some w) (fits : write_fits cfg (called a board) (some w) ≡ true)
          (asks : first_no (questions_to11 cfg (view cfg r l) (called a board) w) ≡ number)
        where
          pub acted_turn : ((number ≡ 0 → ⊥) → (n ≡ p.count) × (l'.messages ≡ l.messages))
              → (number ≡ 0 → Moves cfg r l (called a board) w act left × (n ≤ m) × (length l'.messages ≡ length l.messages)
              × (records n l'.messages ≡ left ++ map (record_of cfg) (act (parties_of cfg r l)).sends))
              → (names_board (some w) ≡ false → l' ≡ l)
              → EventPost cfg m r (called a board) read l (turned r (acting y n p)) read' l'
          acted_turn held moves still = elim (ℕ_discrete number 0) as (λ _. EventPost cfg m r call read l t read' l') [
            | yes z ↦ let h = moves z in acted_yes z h.0 h.1 h.2 h.3 still
            | no ne ↦
                let h = held ne in
                acted_no ne (early_number cfg m r call read l ready.yes w code fits number asks ne) h.0 h.1
          ]

-- what they send stands in the lent buffer
pub sent_room : {cfg : Config} {number : ℕ} {act : BoardParties → BoardActed} {x : Pair} {l ps : Parts} {sends sends' read read' : List ℕ} {y : Acted}
    → cfg.e ≤ 64 → ActPost cfg number act x l sends read y ps sends' read' → 80 * y.sent ≤ length sends'
sent_room {cfg} {number} {act} {x} {l} {ps} {sends} {sends'} {read} {read'} {y} high post =
    let some-parties = fresh_parties cfg (starting_board cfg []) in
    let ms = (act (among cfg some-parties x l)).sends in
    elim (ℕ_discrete number 0) as (λ _. 80 * y.sent ≤ length sends') [
      | yes z ↦
          let b : eqb number 0 ≡ true = eq-eqb number 0 z in
          let many : y.sent ≡ length ms = rw b at (post.sent some-parties) in
          let out : sends' ≡ send.front (send.records_of cfg ms) sends = rw b at (post.out some-parties) in
          omega (arith, many, room_out cfg high ms (post.sound z some-parties) sends sends' out)
      | no ne ↦
          let none : y.sent ≡ 0 = rw (ne_eqb number 0 ne) at (post.sent some-parties) in
          omega (arith, none)
    ]

-- ---- nothing that the parties do

pub quiet_act : (cfg : Config) (x : Pair) (l : Parts) (read : List ℕ)
    → ActPost cfg 0 parties.quiet x l [] read (record { answer = Answer.Nothing; pair = x; sent = 0 }) l [] read
unfolding parties.quiet send.records_of
quiet_act cfg x l read =
    record {
      seen = λ p. refl;
      answer = λ p. refl;
      sent = λ p. refl;
      out = λ p. refl;
      sound = λ _ p. sound_none;
      untouched = λ _. refl;
      held = λ ne. absurd (ne refl);
      me = (refl, refl);
      within = λ h _. h;
      long = (refl, refl, refl);
    }

-- ---- of every rig that the part is of

module _ {cfg : Config} {m : ℕ} {p : Part} {a : Call} {board read : List ℕ} {l : Lent} {x : Change} where
  pub turn_on : (z : Change) (read' : List ℕ) (l' : Lent) → x ≡ z → z.part.server ≡ p.server → z.part.client ≡ p.client
      → ((r : Rig) → Ready cfg m r p a board read l → EventPost cfg m r (called a board) read l (turned r z) read' l')
      → TurnPost cfg m p a board read l x read' l'
  turn_on z read' l' e server client f =
      subst (λ (y : Change). TurnPost cfg m p a board read l y read' l') (sym e) (record { server = server; client = client; event = f })

  pub refused_on : (why : Refusal) → x ≡ refusing why p
      → ((r : Rig) → Ready cfg m r p a board read l → event_no cfg m r (called a board) read l ≡ refusal_number why)
      → TurnPost cfg m p a board read l x read l
  refused_on why e f = turn_on (refusing why p) read l e refl refl (λ r ready. refused_turn ready why (f r ready))

  pub acted_on : (y : Acted) (n : ℕ) (read' : List ℕ) (l' : Lent) → x ≡ acting y n p
      → ((r : Rig) → Ready cfg m r p a board read l → EventPost cfg m r (called a board) read l (turned r (acting y n p)) read' l')
      → TurnPost cfg m p a board read l x read' l'
  acted_on y n read' l' e f = turn_on (acting y n p) read' l' e refl refl f
