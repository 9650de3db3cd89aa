-- From a fresh rig of several boards 12 never comes: along every list of events the records in flight are those of messages of the configuration, so
-- each is well formed. Assumes nothing.
use Prim.Native.Nat.{ℕ, suc, ◌<◌}
use mathlib.Core.Path.{◌≡◌, refl, sym, ap, ap₂, subst, ◌∙◌}
use mathlib.Core.Bool.{Bool, true, false, cond}
use mathlib.Core.Option.{Option, none, some}
use mathlib.Core.List.{List, [], ◌∷◌, map}
use native.Mathlib.Omega.{arith}
use native.Mathlib.Decide.{ℕ_discrete}
use borrow.Author.Tests.{eq-eqb}
use lib.Dec.{eqb}
use lib.ListN.{length, get_or, get_elem?, length-map}
use Rattle.laws.specs.Owners.{own, place_of}
use Rattle.laws.proofs.Below.{below_at}
use Rattle.config.specs.declared.Config.{Config}
use Rattle.config.specs.declared.Room.{Room}
use Rattle.config.specs.Questions.{ask, first_no, within}
use Rattle.config.specs.Room.{fits_room, owners_within}
use Rattle.config.proofs.Questions.{lacks, no_such, skip}
use Rattle.record.specs.Record.{of_config, record_of}
use Rattle.protocol.specs.Boards.{BoardCall, BoardEvent, BoardMessage, BoardNetwork, IsBoard, decode, encode, network_after6, network_from7, network_move, network_move_of, order, write_fits}
use Rattle.protocol.specs.Network as network
use Rattle.protocol.specs.Network.{On, among_all, asked_board, board_move, names_board, network_to11, placed, rig_of, turned_on, unless_refused}
use Rattle.protocol.specs.Rig.{Code, code_of, crash_client, crash_server, restart_server}
use Rattle.protocol.specs.Sound.{Sound}
use Rattle.protocol.proofs.NetworkMoves.{named_move, every_elim, every_flight}
use Rattle.protocol.proofs.NetworkRuns.{board_runs}
use Rattle.protocol.proofs.Sound.{sound_append, sound_first, sound_none, sound_one, sound_rest}
use Rattle.events.specs.Calls.{records_after}
use Rattle.events.specs.Questions.{formed}
use Rattle.events.specs.View.{messages_of}
use Rattle.rig.proofs.Never.{Fits, empty, execution_fits, formed-at, formed-for, last_two, move_written, others}
use Rattle.boards.specs.declared.Rig.{Rig}
use Rattle.boards.specs.View.{Lent, flight, owners_of, view}
use Rattle.boards.specs.Questions.{formed_at}
use Rattle.boards.specs.Calls.{event_no, outcome, start_of}
use Rattle.boards.specs.Runs.{Runs, event, made}
use Rattle.boards.proofs.Always.{always_passed, by_number}
use Rattle.boards.proofs.Atomic.{execution, origin}
use Rattle.boards.proofs.OnBoard.{to_11_same}
use Rattle.boards.proofs.Shown.{event_later, no_event, to_11}

-- ---- the messages in flight are of the configuration

-- where those of each board are, all are
sound_all : {cfg : Config} (P : ℕ → Type 0) (os : List ℕ) (ms : List BoardMessage) → length os ≡ length ms → ((i : ℕ) → i < length os → P (get_or os i 0))
    → ((b : ℕ) → P b → Sound cfg (own b os ms)) → Sound cfg ms
unfolding own
sound_all P [] [] same all each = sound_none
sound_all P [] (m ∷ ms) same all each = absurd (omega (arith, same))
sound_all P (o ∷ os) [] same all each = sound_none
sound_all {cfg} P (o ∷ os) (m ∷ ms) same all each =
    sound_append (sound_one m first)
    (sound_all P os ms (omega (arith, same)) (λ i low. all (suc i) (omega (arith, low))) (λ b p. rest b (eqb o b) (each b p)))
  where
    first : of_config cfg m ≡ true
    first = sound_first (subst (λ t. Sound cfg (cond t (m ∷ own o os ms) (own o os ms))) (eq-eqb o o refl) (each o (all 0 (omega arith))))

    rest : (b : ℕ) (t : Bool) → Sound cfg (cond t (m ∷ own b os ms) (own b os ms)) → Sound cfg (own b os ms)
    rest b true h = sound_rest h
    rest b false h = h

module _ (cfg : Config) (room : Room) (start : List ℕ) where
  -- what every party of a board keeps along a list of events, and every message of its own says, is within a record's limits
  pub always_fits : {r : Rig} {l : Lent} {events : List (On BoardEvent)} → Runs cfg room start r l events → (b : ℕ) → within 1 room.boards b ≡ true
      → Fits cfg (rig_of b (view cfg room r l))
  always_fits runs b exists =
      let o = origin cfg room start runs in
      execution_fits cfg o.0 (start_of cfg start b) (o.2 b exists)
      (board_runs (order cfg) (encode cfg) (decode cfg) cfg (IsBoard cfg) room (start_of cfg start) b exists (execution cfg room start runs))

  -- and so every message in flight
  pub always_sound : {r : Rig} {l : Lent} {events : List (On BoardEvent)} → Runs cfg room start r l events → Sound cfg (view cfg room r l).in_flight
  unfolding view owners_within rig_of
  always_sound {r = r} {l = l} runs =
      let passes = always_passed cfg room start runs in
      sound_all (λ b. within 1 room.boards b ≡ true) (owners_of r l) (view cfg room r l).in_flight passes.together.lengths
      (below_at (length (owners_of r l)) (λ i. within 1 room.boards (get_or (owners_of r l) i 0)) passes.owners)
      (λ b exists. (always_fits runs b exists).in_flight)

-- ---- the records in flight are those of the messages in flight

module _ (cfg : Config) (room : Room) where
  module _ (n : BoardNetwork) (same : length n.owners ≡ length n.in_flight) (rs : List (List ℕ)) (written : rs ≡ map (record_of cfg) n.in_flight)
      (b : ℕ) (a : BoardCall)
    where
      abbrev after : Code → List BoardMessage
      after w = (network_move cfg room n b a w).network.in_flight

      abbrev place : ℕ
      place = place_of b a.position n.owners

      -- after a move of the board that is named
      named_written : (w : Code) → names_board (some w) ≡ true → first_no (network_to11 cfg n b a w) ≡ 0
          → records_after cfg rs place (after w) (some w) ≡ map (record_of cfg) (after w)
      unfolding board_move turned_on among_all placed
      named_written w named h =
          let is = ap (λ t. t.network.in_flight) (named_move (order cfg) (encode cfg) (decode cfg) cfg room n b a w named) in
          ap (λ ms. records_after cfg rs place ms (some w)) is
          ∙ move_written cfg (among_all b n) rs written (placed b n a) w (ap first_no (to_11_same cfg room n same b a w named) ∙ h)
          ∙ sym (ap (map (record_of cfg)) is)

      -- after a crash or a restart
      every_written : (w : Code) → names_board (some w) ≡ false → records_after cfg rs place (after w) (some w) ≡ map (record_of cfg) (after w)
      unfolding records_after
      every_written =
          every_elim (λ w. records_after cfg rs place (after w) (some w) ≡ map (record_of cfg) (after w))
          (written ∙ sym (ap (map (record_of cfg)) (every_flight (order cfg) (encode cfg) (decode cfg) cfg room n b a crash_server (unfold names_board in refl))))
          (written ∙ sym (ap (map (record_of cfg)) (every_flight (order cfg) (encode cfg) (decode cfg) cfg room n b a crash_client (unfold names_board in refl))))
          (written ∙ sym (ap (map (record_of cfg)) (every_flight (order cfg) (encode cfg) (decode cfg) cfg room n b a restart_server (unfold names_board in refl))))

      -- after an event that is not refused
      event_written : (well : Bool) (w : Option Code) → first_no (network_from7 cfg room n b a well w) ≡ 0
          → records_after cfg rs place (network_move_of cfg room n b a w).network.in_flight w ≡ map (record_of cfg) (network_move_of cfg room n b a w).network.in_flight
      unfolding network.network_move_of
      event_written well none z = absurd (no_event cfg room n b a well z)
      event_written well (some w) z = by (names_board (some w)) refl
        where
          by : (named : Bool) → names_board (some w) ≡ named → records_after cfg rs place (after w) (some w) ≡ map (record_of cfg) (after w)
          by true e = named_written w e (to_11 cfg room n b a well w z)
          by false e = every_written w e

  module _ (start : List ℕ) where
    -- along every list of events
    pub always_written : {r : Rig} {l : Lent} {events : List (On BoardEvent)} → Runs cfg room start r l events
        → flight r l ≡ map (record_of cfg) (view cfg room r l).in_flight
    unfolding view network.fresh_network unless_refused
    always_written (made {l' = l'} {r = r} b p e) =
        let sees = p.seen (sym p.number ∙ e) in
        let none : messages_of cfg (flight r.rig l') ≡ [] = ap (λ n. n.in_flight) sees in
        empty (flight r.rig l') (sym (length-map (flight r.rig l') _) ∙ ap length none) ∙ sym (ap (λ n. map (record_of cfg) n.in_flight) sees)
    always_written (event {r = r} {l = l} {l' = l'} {t = t} runs a b read read' p) =
        let n = view cfg room r l in
        let code = code_of a.it.code in
        let number = event_no cfg room r a read l in
        elim (ℕ_discrete number 0) as (λ _. flight t.rig l' ≡ map (record_of cfg) (view cfg room t.rig l').in_flight) [
          | yes z ↦
              let moved : outcome cfg room r a read l ≡ network_move_of cfg room n a.board a.it code = rw (eq-eqb number 0 z) in
              p.records z
              ∙ ap (λ x. records_after cfg (flight r l) (place_of a.board a.it.position (owners_of r l)) x.network.in_flight code) moved
              ∙ event_written n (always_passed cfg room start runs).together.lengths (flight r l) (always_written runs) a.board a.it
              (formed_at cfg r a l) code (event_later cfg room r a read l z)
              ∙ sym (ap (λ x. map (record_of cfg) x.in_flight) p.seen ∙ ap (λ x. map (record_of cfg) x.network.in_flight) moved)
          | no some_no ↦
              let held = p.held some_no in
              ap₂ flight held.0 held.1
              ∙ always_written runs
              ∙ sym (ap₂ (λ x y. map (record_of cfg) (view cfg room x y).in_flight) held.0 held.1)
        ]

    -- ---- so each is well formed

    pub always_formed : {r : Rig} {l : Lent} {events : List (On BoardEvent)} → Runs cfg room start r l events
        → (i : ℕ) → formed cfg (get_elem? (flight r l) i) ≡ true
    always_formed {r = r} {l = l} runs i =
        ap (λ rs. formed cfg (get_elem? rs i)) (always_written runs)
        ∙ formed-at (origin cfg room start runs).0 (view cfg room r l).in_flight (always_sound cfg room start runs) i

    -- 12 is answered yes
    pub always_twelve : {r : Rig} {l : Lent} {events : List (On BoardEvent)} → Runs cfg room start r l events → (a : On BoardCall)
        → formed_at cfg r a l ≡ true
    always_twelve {r = r} {l = l} runs a =
        let i = place_of a.board a.it.position (owners_of r l) in
        formed-for cfg (flight r l) i (always_formed runs i) (code_of a.it.code)

  -- so it is never the refusal: 19 and 7 to 11 are other questions
  later_twelve : (n : BoardNetwork) (b : ℕ) (a : BoardCall) (well : Bool) → well ≡ true → (w : Option Code)
      → first_no (network_after6 cfg room n b a well w) ≡ 12 → ⊥
  unfolding network.network_from7 network_to11 lacks
  later_twelve n b a well h none e = no_such 12 (ask 19 (write_fits cfg a none) ∷ ask 7 false ∷ []) refl (omega arith) e
  later_twelve n b a well h (some w) e =
      let v = rig_of (asked_board b w) n in
      let roomy = fits_room room (network_move cfg room n b a w).network.owners in
      last_two cfg room.m v a well roomy h
      (skip 12 (network_to11 cfg n b a w) (ask 12 well ∷ ask 13 roomy ∷ []) (others cfg room.m v a w)
      (skip 12 (ask 19 (write_fits cfg a (some w)) ∷ ask 7 true ∷ []) _ refl e))

-- "12. Is the record handed over well formed?" In a list of events that starts from a fresh rig, it always is.
pub never_twelve : {cfg : Config} {room : Room} {start : List ℕ} {r : Rig} {l : Lent} {events : List (On BoardEvent)} → Runs cfg room start r l events
    → (a : On BoardCall) (read : List ℕ) → event_no cfg room r a read l ≡ 12 → ⊥
never_twelve {cfg = cfg} {room = room} {start = start} {r = r} {l = l} runs a read =
    by_number cfg room start runs a read (λ k. k ≡ 12 → ⊥) (λ _ e. omega (arith, e)) (λ _ e. omega (arith, e))
    (λ _. later_twelve cfg room (view cfg room r l) a.board a.it (formed_at cfg r a l) (always_twelve cfg room start runs a) (code_of a.it.code))
