-- From a fresh rig 12 never comes: along every list of events the records in flight are those of messages of the configuration, so
-- each is well formed. Assumes nothing.
use Prim.Native.Nat.{ℕ, zero, suc, ◌-◌}
use mathlib.Core.Path.{◌≡◌, refl, sym, ap, ap₂, ◌∙◌}
use mathlib.Core.Bool.{Bool, true, false, false≢true}
use mathlib.Core.Logic.{⊎_elim}
use mathlib.Core.Option.{Option, none, some}
use mathlib.Core.List.{List, [], ◌∷◌, ◌++◌, map, map-append, append-nil}
use native.Mathlib.Omega.{arith}
use native.Mathlib.Decide.{ℕ_discrete}
use borrow.Author.Tests.{eq-eqb, ltb-true}
use lib.Dec.{ltb}
use lib.ListN.{length, drop, get_elem?, length-map}
use lib.Seq.{drop_at}
use Rattle.laws.proofs.Lists.{length_without, map_at, map_without}
use Rattle.config.specs.declared.Config.{Config}
use Rattle.config.specs.Config.{Valid, rig_questions}
use Rattle.config.specs.Questions.{ask, first_no}
use Rattle.config.proofs.Questions.{lacks, skip, yes_next}
use Rattle.record.specs.Record.{highest_number, record_of}
use Rattle.record.proofs.Laws.{written_well_formed}
use Rattle.protocol.specs.Boards.{Board, BoardActed, BoardCall, BoardEvent, BoardExecution, BoardMessage, BoardRig, IsBoard, decode, encode, move, move_of, order, questions, starting_board}
use Rattle.protocol.specs.Client.{begin_questions}
use Rattle.protocol.specs.Number.{to_list}
use Rattle.protocol.specs.Parties as parties
use Rattle.protocol.specs.Parties.{questions_to_begin, questions_to_crash_client, questions_to_crash_server, questions_to_restart_server, quiet}
use Rattle.protocol.specs.Rig as protocol
use Rattle.protocol.specs.Rig.{Code, begin_write, begin_read, handOver, lose, double, crash_server, crash_client, restart_server, code_of, deliver_at, doubled, Elsewhere, elsewhere, fresh, has_room, leaves, moves, position_questions, questions_to11, refuses, unless_no, without}
use Rattle.protocol.specs.Sound.{Sound}
use Rattle.protocol.proofs.Hosted.{begin_low}
use Rattle.protocol.proofs.Formed.{ActedFits, BoardFits, PartiesFit, PhaseFits, begin_fits, crash_client_fits, deliver_fits, fresh_fits, quiet_fits, up_fits}
use Rattle.protocol.proofs.Sound.{sound_append, sound-at, sound_doubled, sound_first, sound_none, sound_rest, sound_without}
use Rattle.events.specs.declared.Rig.{Rig}
use Rattle.events.specs.View.{Lent, flight, messages_of, view}
use Rattle.events.specs.Questions.{event_questions, formed, formed_for}
use Rattle.events.specs.Calls.{event_no, outcome, records_after}
use Rattle.rig.specs.Runs.{Runs, made, event}
use Rattle.events.proofs.Asked.{event_later, no_code, to_11}
use Rattle.rig.proofs.Atomic.{execution, origin}

-- ---- the protocol's moves keep to the limits

-- what every party keeps, and every message in flight says, is within a record's limits
pub record Fits (cfg : Config) (v : BoardRig) : Type 0 where
  pub parties : PartiesFit cfg v.parties
  pub in_flight : Sound cfg v.in_flight

leaves_fits : {cfg : Config} (ms : List BoardMessage) (x : BoardActed) → Sound cfg ms → ActedFits cfg x → Fits cfg (leaves ms x).rig
unfolding leaves
leaves_fits ms x h k = record { parties = k.parties; in_flight = sound_append h k.sends }

module _ (cfg : Config) (valid : Valid cfg) (v : BoardRig) (fits : Fits cfg v) where
  -- a client that begins
  begins : (c : ℕ) (board : Option Board) → BoardFits cfg board → first_no (questions_to_begin cfg v.parties c) ≡ 0
      → Fits cfg (leaves v.in_flight (parties.begin cfg v.parties c board)).rig
  begins c board short h =
      let low = begin_low cfg v.parties c h in
      leaves_fits v.in_flight _ fits.in_flight
      (begin_fits cfg v.parties fits.parties c low.0 (ltb-true (v.parties.clients c).operation highest_number low.1) board short)

  -- a message that is handed over
  delivers : (i : ℕ) (o : Option BoardMessage) → get_elem? v.in_flight i ≡ o → ActedFits cfg (deliver_at (order cfg) (encode cfg) (decode cfg) cfg v.parties o)
  unfolding deliver_at
  delivers i none e = quiet_fits cfg v.parties fits.parties
  delivers i (some m) e = deliver_fits cfg v.parties fits.parties valid m (sound-at fits.in_flight i m e)

  move_fits : (a : BoardCall) (w : Code) → first_no (questions_to11 cfg v a w) ≡ 0 → (w ≡ begin_write → IsBoard cfg a.board) → Fits cfg (move cfg v a w).rig
  unfolding protocol.move questions_to11
  move_fits a begin_write h board = begins a.party (some a.board) (board refl).fits h
  move_fits a begin_read h board = begins a.party none tt h
  move_fits a handOver h board =
      leaves_fits _ _ (sound_without fits.in_flight a.position) (delivers a.position (get_elem? v.in_flight a.position) refl)
  move_fits a lose h board = leaves_fits _ _ (sound_without fits.in_flight a.position) (quiet_fits cfg v.parties fits.parties)
  move_fits a double h board = leaves_fits _ _ (sound_doubled fits.in_flight a.position) (quiet_fits cfg v.parties fits.parties)
  move_fits a crash_server h board = leaves_fits _ _ fits.in_flight (unfold parties.crash_server in up_fits cfg v.parties fits.parties a.party false)
  move_fits a crash_client h board = leaves_fits _ _ fits.in_flight (crash_client_fits cfg v.parties fits.parties a.party)
  move_fits a restart_server h board = leaves_fits _ _ fits.in_flight (unfold parties.restart_server in up_fits cfg v.parties fits.parties a.party true)

-- what happens elsewhere keeps to them
elsewhere_fits : (cfg : Config) (v v' : BoardRig) → Elsewhere v v' → Fits cfg v → Fits cfg v'
unfolding PhaseFits
elsewhere_fits cfg v v' e fits =
    record {
      parties =
          record {
            servers = λ s. rw e.servers (fits.parties.servers s);
            clients = λ c. ⊎_elim (λ f. rw f (fits.parties.clients c)) (λ f. rw f tt) (e.clients c);
          };
      in_flight = rw e.in_flight fits.in_flight;
    }

-- along every execution of the protocol
pub execution_fits : (cfg : Config) → Valid cfg → (start : Board) → IsBoard cfg start → {v : BoardRig} {events : List BoardEvent}
    → BoardExecution cfg start v events → Fits cfg v
unfolding protocol.fresh_rig
execution_fits cfg valid start board fresh = record { parties = fresh_fits cfg start board.fits; in_flight = sound_none }
execution_fits cfg valid start board (refuses runs a number) = execution_fits cfg valid start board runs
execution_fits cfg valid start board (moves {r = v} runs a w code h handed) =
    move_fits cfg valid v (execution_fits cfg valid start board runs) a w h handed
execution_fits cfg valid start board (elsewhere {r = v} {r' = v'} runs e) = elsewhere_fits cfg v v' e (execution_fits cfg valid start board runs)

-- ---- the records in flight are those of the messages in flight

module _ (cfg : Config) where
  abbrev Record : BoardMessage → List ℕ
  Record = record_of cfg

  -- those of the first n stay, and the others are written
  grown : (rs : List (List ℕ)) (ms sends : List BoardMessage) (n : ℕ) → rs ≡ map Record ms → length ms ≡ n
      → rs ++ map Record (drop n (ms ++ sends)) ≡ map Record (ms ++ sends)
  grown rs ms sends n e long =
      ap₂ (λ x y. x ++ map Record y) e (drop_at ms sends n long) ∙ sym (map-append Record ms sends)

  -- nothing is sent
  still : (rs : List (List ℕ)) (ms : List BoardMessage) → rs ≡ map Record ms → rs ≡ map Record (ms ++ [])
  still rs ms e = e ∙ ap (map Record) (sym (append-nil ms))

  module _ (v : BoardRig) (rs : List (List ℕ)) (written : rs ≡ map Record v.in_flight) where
    abbrev ms : List BoardMessage
    ms = v.in_flight

    many : length ms ≡ length rs
    many = sym (ap length written ∙ length-map ms Record)

    left : (i : ℕ) → without i rs ≡ map Record (without i ms)
    left i = ap (without i) written ∙ sym (map_without Record i ms)

    -- after each move
    pub move_written : (a : BoardCall) (w : Code) → first_no (questions_to11 cfg v a w) ≡ 0
        → records_after cfg rs a.position (move cfg v a w).rig.in_flight (some w) ≡ map Record (move cfg v a w).rig.in_flight
    unfolding records_after protocol.move leaves questions_to11 position_questions quiet doubled parties.crash_server parties.crash_client parties.restart_server
    move_written a begin_write h = grown rs ms _ (length rs) written many
    move_written a begin_read h = grown rs ms _ (length rs) written many
    move_written a handOver h =
        let i = a.position in
        let inside = ltb-true i (length ms) (yes_next 8 (ltb i (length ms)) [] (omega arith) h).0 in
        grown (without i rs) (without i ms) _ (length rs - 1) (left i) (length_without i ms inside ∙ ap (λ n. n - 1) many)
    move_written a lose h = still (without a.position rs) (without a.position ms) (left a.position)
    move_written a double h =
        still (rs ++ to_list (get_elem? rs a.position)) (ms ++ to_list (get_elem? ms a.position))
        (ap (λ x. x ++ to_list (get_elem? x a.position)) written
        ∙ ap (λ x. map Record ms ++ x) (sym (map_at Record ms a.position))
        ∙ sym (map-append Record ms (to_list (get_elem? ms a.position))))
    move_written a crash_server h = still rs ms written
    move_written a crash_client h = still rs ms written
    move_written a restart_server h = still rs ms written

pub empty : {A : Type 0} (xs : List A) → length xs ≡ 0 → xs ≡ []
empty [] h = refl
empty (x ∷ xs) h = absurd (omega (arith, h))

module _ (cfg : Config) (m : ℕ) where
  -- after an event that is not refused
  event_written : (v : BoardRig) (rs : List (List ℕ)) → rs ≡ map (record_of cfg) v.in_flight → (a : BoardCall) (well : Bool) (w : Option Code)
      → first_no (questions cfg m v a well w) ≡ 0
      → records_after cfg rs a.position (move_of cfg v a w).rig.in_flight w ≡ map (record_of cfg) (move_of cfg v a w).rig.in_flight
  unfolding protocol.move_of
  event_written v rs h a well none z = absurd (no_code cfg m v a well z)
  event_written v rs h a well (some w) z = move_written cfg v rs h a w (to_11 cfg m v a well w z)

  module _ (start : List ℕ) where
    -- along every list of events
    pub always_written : {r : Rig} {l : Lent} {events : List BoardEvent} → Runs cfg m start r l events
        → flight r l ≡ map (record_of cfg) (view cfg r l).in_flight
    unfolding view protocol.fresh_rig unless_no
    always_written (made {l' = l'} {r = r} b p e) =
        let sees = p.seen (sym p.number ∙ e) in
        let none : messages_of cfg (flight r.rig l') ≡ [] = ap (λ v. v.in_flight) sees in
        empty (flight r.rig l') (sym (length-map (flight r.rig l') _) ∙ ap length none) ∙ sym (ap (λ v. map (record_of cfg) v.in_flight) sees)
    always_written (event {r = r} {l = l} {l' = l'} {t = t} runs a b read read' p) =
        let v = view cfg r l in
        let code = code_of a.code in
        let number = event_no cfg m r a read l in
        elim (ℕ_discrete number 0) as (λ _. flight t.rig l' ≡ map (record_of cfg) (view cfg t.rig l').in_flight) [
          | yes z ↦
              let moved : outcome cfg m r a read l ≡ move_of cfg v a code = rw (eq-eqb number 0 z) in
              p.records z
              ∙ ap (λ x. records_after cfg (flight r l) a.position x.rig.in_flight code) moved
              ∙ event_written v (flight r l) (always_written runs) a (formed_for cfg (flight r l) a.position code) code (event_later cfg m r a read l z)
              ∙ sym (ap (λ x. map (record_of cfg) x.in_flight) p.seen ∙ ap (λ x. map (record_of cfg) x.rig.in_flight) moved)
          | no n ↦
              let same = p.held n in
              ap₂ flight same.0 same.1
              ∙ always_written runs
              ∙ sym (ap₂ (λ x y. map (record_of cfg) (view cfg x y).in_flight) same.0 same.1)
        ]

    -- what every party keeps along a list of events, and every message in flight says, is within a record's limits
    pub always_fits : {r : Rig} {l : Lent} {events : List BoardEvent} → Runs cfg m start r l events → Fits cfg (view cfg r l)
    always_fits runs = execution_fits cfg (origin cfg m start runs).0 (starting_board cfg start) (origin cfg m start runs).1 (execution cfg m start runs)

-- ---- so each is well formed

-- the records of messages of the configuration are
pub formed-at : {cfg : Config} → Valid cfg → (ms : List BoardMessage) → Sound cfg ms → (i : ℕ) → formed cfg (get_elem? (map (record_of cfg) ms) i) ≡ true
unfolding formed
formed-at valid [] h i = refl
formed-at {cfg} valid (x ∷ ms) h zero = written_well_formed cfg valid x (sound_first h)
formed-at valid (x ∷ ms) h (suc i) = formed-at valid ms (sound_rest h) i

-- question 12 asks of event 3 alone
pub formed-for : (cfg : Config) (rs : List (List ℕ)) (i : ℕ) → formed cfg (get_elem? rs i) ≡ true → (w : Option Code) → formed_for cfg rs i w ≡ true
unfolding formed_for
formed-for cfg rs i well none = refl
formed-for cfg rs i well (some begin_write) = refl
formed-for cfg rs i well (some begin_read) = refl
formed-for cfg rs i well (some handOver) = well
formed-for cfg rs i well (some lose) = refl
formed-for cfg rs i well (some double) = refl
formed-for cfg rs i well (some crash_server) = refl
formed-for cfg rs i well (some crash_client) = refl
formed-for cfg rs i well (some restart_server) = refl

module _ (cfg : Config) (m : ℕ) (start : List ℕ) where
  -- every record in flight is well formed
  pub always_formed : {r : Rig} {l : Lent} {events : List BoardEvent} → Runs cfg m start r l events
      → (i : ℕ) → formed cfg (get_elem? (flight r l) i) ≡ true
  always_formed {r = r} {l = l} runs i =
      ap (λ rs. formed cfg (get_elem? rs i)) (always_written cfg m start runs)
      ∙ formed-at (origin cfg m start runs).0 (view cfg r l).in_flight (always_fits cfg m start runs).in_flight i

  -- 12 is answered yes
  pub always_twelve : {r : Rig} {l : Lent} {events : List BoardEvent} → Runs cfg m start r l events
      → (i : ℕ) (w : Option Code) → formed_for cfg (flight r l) i w ≡ true
  always_twelve {r = r} {l = l} runs i w = formed-for cfg (flight r l) i (always_formed runs i) w

-- so it is never the refusal: 8 to 11 are other questions
module _ (cfg : Config) (m : ℕ) (v : BoardRig) (a : BoardCall) where
  pub others : (w : Code) → lacks 12 (questions_to11 cfg v a w) ≡ true
  unfolding lacks questions_to11 questions_to_begin questions_to_crash_client questions_to_crash_server questions_to_restart_server begin_questions position_questions
  others begin_write = refl
  others begin_read = refl
  others handOver = refl
  others lose = refl
  others double = refl
  others crash_server = refl
  others crash_client = refl
  others restart_server = refl

  pub last_two : (well room : Bool) → well ≡ true → first_no (ask 12 well ∷ ask 13 room ∷ []) ≡ 12 → ⊥
  unfolding first_no
  last_two true true h e = omega (arith, e)
  last_two true false h e = omega (arith, e)
  last_two false room h e = false≢true h

  later_twelve : (well : Bool) → well ≡ true → (w : Option Code) → first_no (questions cfg m v a well w) ≡ 12 → ⊥
  unfolding protocol.questions first_no
  later_twelve well h none e = omega (arith, e)
  later_twelve well h (some w) e = last_two well (has_room m (move cfg v a w)) h (skip 12 (questions_to11 cfg v a w) _ (others w) e)

-- "12. Is the record handed over well formed?" In a list of events that starts from a fresh rig, it always is.
pub never_twelve : {cfg : Config} {m : ℕ} {start : List ℕ} {r : Rig} {l : Lent} {events : List BoardEvent} → Runs cfg m start r l events
    → (a : BoardCall) (read : List ℕ) → event_no cfg m r a read l ≡ 12 → ⊥
unfolding event_questions lacks rig_questions
never_twelve {cfg = cfg} {m = m} {start = start} {r = r} {l = l} runs a read e =
    later_twelve cfg m (view cfg r l) a _ (always_twelve cfg m start runs a.position (code_of a.code)) (code_of a.code)
    (skip 12 (ask 6 _ ∷ ask 19 _ ∷ []) _ refl (skip 12 (rig_questions cfg m) _ refl e))
