-- "Two lists, from rigs made alike, with the same events for one board and the same crashes, in the same order, in which that board meets no 13,
-- give that board the same answers", and the same restarts; and the crashes' and the restarts' answers are the same too. What is answered along a list to a
-- board's calls, the crashes and the restarts is what it answers to them by itself, with the lengths of what is handed in and lent. Assumes nothing.
use Prim.Native.Nat.{ℕ}
use mathlib.Core.Path.{◌≡◌, refl, sym, ap, ap₂, subst, ◌∙◌}
use mathlib.Core.Bool.{Bool, true, false, cond, ◌&&◌, false≢true}
use mathlib.Core.Option.{Option}
use mathlib.Core.List.{List, [], ◌∷◌, ◌++◌, map, map-append}
use lib.Dec.{eqb}
use lib.ListN.{length}
use borrow.Author.Tests.{eqb-true}
use Rattle.config.specs.declared.Config.{Config}
use Rattle.config.specs.declared.Room.{Room}
use Rattle.config.specs.Config.{board_length}
use Rattle.config.specs.Questions.{within}
use Rattle.protocol.specs.Agree.{No13, alone, answers_for, answers_of, call_in, calls_for, concerns, is_on_every_board}
use Rattle.protocol.specs.Board.{refused}
use Rattle.protocol.specs.Boards.{BoardAnswer, BoardCall, BoardEvent, BoardNetwork, BoardNetworkTurn, BoardRig, BoardTurn, decode, encode, fits_in, fresh_rig, network_event, order}
use Rattle.protocol.specs.Network.{On, board_exists, events_of, is_of, names_board, rig_of}
use Rattle.protocol.specs.Rig.{Code, code_of}
use Rattle.protocol.proofs.Agreement.{answers_append, calls_append, no_13_first, no_13_rest, own-among, own_among}
use Rattle.protocol.proofs.Alone.{Agrees, every_event, every_names, other_event, own_event}
use Rattle.protocol.proofs.NetworkRuns.{events_append, fresh-rig}
use Rattle.parties.specs.Acts.{answer_of}
use Rattle.boards.specs.declared.Rig.{Rig}
use Rattle.boards.specs.View.{Lent, view}
use Rattle.boards.specs.Calls.{outcome, start_of}
use Rattle.boards.specs.Runs.{Runs, event, handed_for, made}
use Rattle.boards.proofs.Always.{always_ready, lengths}
use Rattle.boards.proofs.Model.{as_event, as_refused}

-- ---- a board by itself

module _ (cfg : Config) where
  -- the board handed in and the buffer lent for a read have V bytes
  abbrev long : BoardCall × ℕ → Bool
  long x = eqb (length x.0.board.bytes) (board_length cfg) && eqb x.1 (board_length cfg)

  abbrev by_itself : BoardRig → BoardCall → BoardTurn
  by_itself = alone (order cfg) (encode cfg) (decode cfg) cfg (fits_in cfg)

  -- an event of the board, where no other board is
  unfoldable pub turn_by : BoardRig → BoardCall × ℕ → BoardTurn
  turn_by v x = cond (long x) (by_itself v x.0) (record { rig = v; answer = refused 6 })

  -- what its events leave
  unfoldable pub left_by : BoardRig → List (BoardCall × ℕ) → BoardRig
  left_by v [] = v
  left_by v (x ∷ xs) = left_by (turn_by v x).rig xs

  -- and what it answers
  unfoldable pub answers_by : BoardRig → List (BoardCall × ℕ) → List BoardAnswer
  answers_by v [] = []
  answers_by v (x ∷ xs) = (turn_by v x).answer ∷ answers_by (turn_by v x).rig xs

  -- of calls and then others
  left_more : (v : BoardRig) (xs ys : List (BoardCall × ℕ)) → left_by v (xs ++ ys) ≡ left_by (left_by v xs) ys
  unfolding left_by
  left_more v [] ys = refl
  left_more v (x ∷ xs) ys = left_more (turn_by v x).rig xs ys

  answers_more : (v : BoardRig) (xs ys : List (BoardCall × ℕ)) → answers_by v (xs ++ ys) ≡ answers_by v xs ++ answers_by (left_by v xs) ys
  unfolding left_by answers_by
  answers_more v [] ys = refl
  answers_more v (x ∷ xs) ys = ap (λ rest. (turn_by v x).answer ∷ rest) (answers_more (turn_by v x).rig xs ys)

-- ---- a list of events

module _ (cfg : Config) (room : Room) (start : List ℕ) (b : ℕ) (exists : within 1 room.boards b ≡ true) where
  -- one event
  module _ {r : Rig} {l : Lent} {events : List (On BoardEvent)} (runs : Runs cfg room start r l events) (a : On BoardCall) (read : List ℕ) where
    abbrev n : BoardNetwork
    n = view cfg room r l

    abbrev out : BoardNetworkTurn
    out = outcome cfg room r a read l

    abbrev code : Option Code
    code = code_of a.it.code

    abbrev handed : BoardCall × ℕ
    handed = (a.it, length read)

    -- it is refused with 6, or is what the network's event is
    agrees : board_exists room a.board code ≡ true
        → (lengths cfg room start runs a read ≡ true → Agrees b (network_event cfg room n a) (by_itself cfg (rig_of b n) a.it))
        → Agrees b out (turn_by cfg (rig_of b n) handed)
    unfolding turn_by
    agrees there h = by (lengths cfg room start runs a read) refl
      where
        by : (t : Bool) → lengths cfg room start runs a read ≡ t
            → Agrees b out (cond t (by_itself cfg (rig_of b n) a.it) (record { rig = rig_of b n; answer = refused 6 }))
        by true e = subst (λ x. Agrees b x (by_itself cfg (rig_of b n) a.it)) (sym (as_event cfg room start runs a read e)) (h e)
        by false e =
            let is = as_refused cfg room start runs a read e ∙ ap (λ t. record { network = n; answer = refused (cond t 6 22) }) there in
            record { answer = ap (λ (x : BoardNetworkTurn). x.answer) is; rig = ap (λ (x : BoardNetworkTurn). rig_of b x.network) is }

    -- a call that names the board
    own_agrees : names_board code ≡ true → a.board ≡ b → (out.answer ≡ refused 13 → ⊥) → Agrees b out (turn_by cfg (rig_of b n) handed)
    unfolding board_exists
    own_agrees named mine not =
        agrees (rw named there)
        (λ e.
        subst (λ z. Agrees z (network_event cfg room n a) (by_itself cfg (rig_of z n) a.it)) mine
        (own_event (order cfg) (encode cfg) (decode cfg) cfg (fits_in cfg) room n (always_ready cfg room start runs).together.lengths a there named
        (λ f. not (ap (λ (x : BoardNetworkTurn). x.answer) (as_event cfg room start runs a read e) ∙ f))))
      where
        there : within 1 room.boards a.board ≡ true
        there = subst (λ z. within 1 room.boards z ≡ true) (sym mine) exists

    -- a crash or a restart
    every_agrees : is_on_every_board code ≡ true → Agrees b out (turn_by cfg (rig_of b n) handed)
    unfolding board_exists
    every_agrees everywhere =
        agrees (rw (every_names code everywhere))
        (λ _. every_event (order cfg) (encode cfg) (decode cfg) cfg (fits_in cfg) room n (always_ready cfg room start runs) b exists a everywhere)

    -- another call leaves the board as it is
    stays : concerns b a ≡ false → rig_of b out.network ≡ rig_of b n
    stays not = by (lengths cfg room start runs a read) refl
      where
        by : (t : Bool) → lengths cfg room start runs a read ≡ t → rig_of b out.network ≡ rig_of b n
        by true e =
            ap (λ (x : BoardNetworkTurn). rig_of b x.network) (as_event cfg room start runs a read e)
            ∙ other_event (order cfg) (encode cfg) (decode cfg) cfg (fits_in cfg) room n (always_ready cfg room start runs).together.lengths b a not
        by false e = ap (λ (x : BoardNetworkTurn). rig_of b x.network) (as_refused cfg room start runs a read e)

    -- what it leaves of the board, and answers if it concerns it, is what the board does by itself
    abbrev answered : Bool → List BoardAnswer
    answered t = cond t (out.answer ∷ []) []

    abbrev concerned : Bool → List (BoardCall × ℕ)
    concerned t = cond t (handed ∷ []) []

    abbrev Same : Bool → Type 0
    Same t = (rig_of b out.network ≡ left_by cfg (rig_of b n) (concerned t)) × (answered t ≡ answers_by cfg (rig_of b n) (concerned t))

    step : (everywhere named mine : Bool) → is_on_every_board code ≡ everywhere → names_board code ≡ named → eqb a.board b ≡ mine → No13 (answered (named && mine))
        → Same (cond everywhere true (named && mine))
    unfolding left_by answers_by No13 concerns
    step true true mine c d e not = absurd (false≢true (sym (every_names code c) ∙ d))
    step true false mine c d e not = ((every_agrees c).rig, ap (λ x. x ∷ []) (every_agrees c).answer)
    step false true true c d e not =
        let same = own_agrees d (eqb-true a.board b e) not.0 in
        (same.rig, ap (λ x. x ∷ []) same.answer)
    step false true false c d e not = (stays (rw (c, d, e)), refl)
    step false false mine c d e not = (stays (rw (c, d)), refl)

    step_is : No13 (answered (names_board code && eqb a.board b)) → Same (concerns b a)
    unfolding concerns
    step_is = step (is_on_every_board code) (names_board code) (eqb a.board b) refl refl refl

  abbrev begun : BoardRig
  begun = fresh_rig cfg (start_of cfg start b)

  -- the answers with one event more
  one_more : (events : List (On BoardEvent)) (x : On BoardEvent)
      → answers_of b (events ++ (x ∷ [])) ≡ answers_of b events ++ cond (names_board (code_of x.it.call.code) && eqb x.board b) (x.it.answer ∷ []) []
  unfolding answers_of events_of is_of
  one_more events x =
      ap (map (λ (y : BoardEvent). y.answer)) (events_append b events (x ∷ []))
      ∙ map-append (λ (y : BoardEvent). y.answer) (events_of b events) (events_of b (x ∷ []))
      ∙ ap (λ ys. map (λ (y : BoardEvent). y.answer) (events_of b events) ++ ys) (by (is_of b x))
    where
      by : (t : Bool) → map (λ (y : BoardEvent). y.answer) (cond t (x.it ∷ []) []) ≡ cond t (x.it.answer ∷ []) []
      by true = refl
      by false = refl

  -- Along a list in which it meets no 13, a board comes to what it comes to by itself, and answers what it answers by itself.
  pub by-itself : {r : Rig} {l : Lent} {events : List (On BoardEvent)} (runs : Runs cfg room start r l events) → No13 (answers_of b events)
      → (rig_of b (view cfg room r l) ≡ left_by cfg (fresh_rig cfg (start_of cfg start b)) (handed_for b runs))
      × (answers_for b events ≡ answers_by cfg (fresh_rig cfg (start_of cfg start b)) (handed_for b runs))
  unfolding handed_for answers_for
  by-itself (made bytes p e) not = (
    unfold left_by in ap (rig_of b) (p.seen (sym p.number ∙ e)) ∙ fresh-rig cfg room (encode cfg) (start_of cfg start) b exists,
    unfold answers_for answers_by in refl,
  )
  by-itself (event {r = r} {l = l} {events = events} {t = t} runs a filled read read' p) not =
      let mine = names_board (code_of a.it.code) && eqb a.board b in
      let now : List (BoardCall × ℕ) = cond (concerns b a) ((a.it, length read) ∷ []) [] in
      let x : On BoardEvent = record { board = a.board; it = record { call = a.it; answer = answer_of t.answer read' } } in
      let all : answers_of b (events ++ (x ∷ [])) ≡ answers_of b events ++ answered runs a read mine =
      one_more events x ∙ ap (λ z. answers_of b events ++ cond mine (z ∷ []) []) p.answer in
      let none = subst No13 all not in
      let before = by-itself runs (no_13_first (answers_of b events) (answered runs a read mine) none) in
      let here = step_is runs a read (no_13_rest (answers_of b events) (answered runs a read mine) none) in (
        ap (rig_of b) p.seen ∙ here.0 ∙ ap (λ v. left_by cfg v now) before.0 ∙ sym (left_more cfg begun (handed_for b runs) now),
        answers_append b events (x ∷ [])
            ∙ ap (λ z. answers_for b events ++ cond (concerns b a) (z ∷ []) []) p.answer
            ∙ ap₂ ◌++◌ before.1 (here.1 ∙ ap (λ v. answers_by cfg v now) before.0)
            ∙ sym (answers_more cfg begun (handed_for b runs) now),
      )

-- the calls of what was handed in are those of the events
handed_calls : {cfg : Config} {room : Room} {start : List ℕ} {r : Rig} {l : Lent} {events : List (On BoardEvent)} (b : ℕ) (runs : Runs cfg room start r l events)
    → map (λ x. x.0) (handed_for b runs) ≡ calls_for b (map call_in events)
unfolding handed_for calls_for
handed_calls b (made bytes p e) = refl
handed_calls b (event {events = events} {t = t} runs a filled read read' p) =
    let x : On BoardEvent = record { board = a.board; it = record { call = a.it; answer = answer_of t.answer read' } } in
    map-append (λ (y : BoardCall × ℕ). y.0) (handed_for b runs) (cond (concerns b a) ((a.it, length read) ∷ []) [])
    ∙ ap₂ ◌++◌ (handed_calls b runs) (by (concerns b a))
    ∙ sym (ap (calls_for b) (map-append call_in events (x ∷ [])) ∙ calls_append b (map call_in events) (a ∷ []))
  where
    by : (t : Bool) → map (λ (y : BoardCall × ℕ). y.0) (cond t ((a.it, length read) ∷ []) []) ≡ cond t (a.it ∷ []) []
    by true = refl
    by false = refl

-- The theorem. The boards, their shares and the other starting boards of the two rigs may differ; refusals are among the answers.
module _ (cfg : Config) (b : ℕ) {room room' : Room} {start start' : List ℕ} {r r' : Rig} {l l' : Lent} {events events' : List (On BoardEvent)}
    (runs : Runs cfg room start r l events) (runs' : Runs cfg room' start' r' l' events')
    (exists : within 1 room.boards b ≡ true) (exists' : within 1 room'.boards b ≡ true) (starts : start_of cfg start b ≡ start_of cfg start' b)
    (handed : handed_for b runs ≡ handed_for b runs') (not : No13 (answers_of b events)) (not' : No13 (answers_of b events'))
  where
    -- with the answers of the crashes and restarts
    pub agree_all : answers_for b events ≡ answers_for b events'
    agree_all =
        (by-itself cfg room start b exists runs not).1
        ∙ ap₂ (λ v hs. answers_by cfg (fresh_rig cfg v) hs) starts handed
        ∙ sym (by-itself cfg room' start' b exists' runs' not').1

    -- the board's own
    pub agree : answers_of b events ≡ answers_of b events'
    agree =
        own-among b events
        ∙ ap₂ own_among (sym (handed_calls b runs) ∙ ap (map (λ x. x.0)) handed ∙ handed_calls b runs') agree_all
        ∙ sym (own-among b events')
