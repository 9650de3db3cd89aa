-- "Two lists, from rigs made alike, with the same events for one board and the same crashes, in the same order, in which that board meets no 13,
-- give that board the same answers": in a network a board answers what it would answer by itself, to its own calls, the crashes
-- and the restarts.
use Prim.Native.Nat.{ℕ}
use mathlib.Core.Path.{◌≡◌, refl, sym, ap, ap₂, subst, ◌∙◌}
use mathlib.Core.Bool.{Bool, true, false, cond, ◌&&◌, false≢true}
use mathlib.Core.Option.{Option}
use mathlib.Core.List.{List, [], ◌∷◌, ◌++◌, map}
use lib.Dec.{eqb}
use borrow.Author.Tests.{eqb-true}
use Rattle.config.specs.declared.Config.{Config}
use Rattle.config.specs.declared.Room.{Room}
use Rattle.config.specs.Questions.{within}
use Rattle.tag.specs.declared.Tag.{Tag}
use Rattle.protocol.specs.Board.{Answer, Call, Event}
use Rattle.protocol.specs.Rig.{Code, Rig, code_of, fresh_rig}
use Rattle.protocol.specs.Network.{Network, NetworkTurn, On, events_of, fresh_network, is_of, names_board, network_event, network_run, rig_of}
use Rattle.protocol.specs.Agree.{No13, alone, answers_alone, answers_for, answers_of, call_in, calls_for, concerns, is_on_every_board}
use Rattle.protocol.proofs.NetworkRoom.{Ready, event_ready, fresh_ready}
use Rattle.protocol.proofs.NetworkRuns.{fresh-rig}
use Rattle.protocol.proofs.Alone.{Agrees, every_event, every_names, other_event, own_event}

-- ---- a board's own answers, among those of its calls, the crashes and the restarts

module _ {Value : Type 0} where
  -- of the answers to these calls, those to calls that name a board
  unfoldable pub own_among : List (Call Value) → List (Answer Value) → List (Answer Value)
  own_among [] ys = []
  own_among (a ∷ later) [] = []
  own_among (a ∷ later) (y ∷ ys) = cond (names_board (code_of a.code)) (y ∷ own_among later ys) (own_among later ys)

  pub own-among : (b : ℕ) (es : List (On (Event Value))) → answers_of b es ≡ own_among (calls_for b (map call_in es)) (answers_for b es)
  unfolding answers_of events_of is_of calls_for answers_for concerns own_among
  own-among b [] = refl
  own-among b (x ∷ es) =
      by (own-among b es) (is_on_every_board (code_of x.it.call.code)) (names_board (code_of x.it.call.code)) (eqb x.board b) refl refl
    where
      by : answers_of b es ≡ own_among (calls_for b (map call_in es)) (answers_for b es) → (everywhere named mine : Bool) → is_on_every_board (code_of x.it.call.code) ≡ everywhere → names_board (code_of x.it.call.code) ≡ named
          → map (λ y. y.answer) (cond (named && mine) (x.it ∷ events_of b es) (events_of b es))
          ≡ own_among (cond (cond everywhere true (named && mine)) (x.it.call ∷ calls_for b (map call_in es)) (calls_for b (map call_in es)))
          (cond (cond everywhere true (named && mine)) (x.it.answer ∷ answers_for b es) (answers_for b es))
      by rest true true mine c d = absurd (false≢true (sym (every_names (code_of x.it.call.code) c) ∙ d))
      by rest true false mine c d = rw d rest
      by rest false true true c d = rw d (ap (λ ys. x.it.answer ∷ ys) rest)
      by rest false true false c d = rest
      by rest false false mine c d = rest

  -- ---- two lists, one behind the other

  pub calls_append : (b : ℕ) (xs ys : List (On (Call Value))) → calls_for b (xs ++ ys) ≡ calls_for b xs ++ calls_for b ys
  unfolding calls_for
  calls_append b [] ys = refl
  calls_append b (x ∷ xs) ys = by (calls_append b xs ys) (concerns b x)
    where
      by : calls_for b (xs ++ ys) ≡ calls_for b xs ++ calls_for b ys → (t : Bool)
          → cond t (x.it ∷ calls_for b (xs ++ ys)) (calls_for b (xs ++ ys)) ≡ cond t (x.it ∷ calls_for b xs) (calls_for b xs) ++ calls_for b ys
      by rest true = ap (λ zs. x.it ∷ zs) rest
      by rest false = rest

  pub answers_append : (b : ℕ) (xs ys : List (On (Event Value))) → answers_for b (xs ++ ys) ≡ answers_for b xs ++ answers_for b ys
  unfolding answers_for
  answers_append b [] ys = refl
  answers_append b (x ∷ xs) ys = by (answers_append b xs ys) (concerns b (call_in x))
    where
      by : answers_for b (xs ++ ys) ≡ answers_for b xs ++ answers_for b ys → (t : Bool)
          → cond t (x.it.answer ∷ answers_for b (xs ++ ys)) (answers_for b (xs ++ ys)) ≡ cond t (x.it.answer ∷ answers_for b xs) (answers_for b xs) ++ answers_for b ys
      by rest true = ap (λ zs. x.it.answer ∷ zs) rest
      by rest false = rest

  pub no_13_first : (xs ys : List (Answer Value)) → No13 (xs ++ ys) → No13 xs
  unfolding No13
  no_13_first [] ys h = tt
  no_13_first (x ∷ xs) ys h = (h.0, no_13_first xs ys h.1)

  pub no_13_rest : (xs ys : List (Answer Value)) → No13 (xs ++ ys) → No13 ys
  unfolding No13
  no_13_rest [] ys h = h
  no_13_rest (x ∷ xs) ys h = no_13_rest xs ys h.1

-- ---- along a list

module _ {Value Element : Type 0} (key : Tag → ℕ) (encode : Value → ℕ → Element) (decode : List (ℕ × Element) → Value) (cfg : Config) (fits : Value → Bool) where
  module _ (room : Room) (b : ℕ) (exists : within 1 room.boards b ≡ true) where
    abbrev answers : Network Value Element → List (On (Call Value)) → List (Answer Value)
    answers n xs = answers_of b (network_run key encode decode cfg fits room n xs)

    abbrev all_answers : Network Value Element → List (On (Call Value)) → List (Answer Value)
    all_answers n xs = answers_for b (network_run key encode decode cfg fits room n xs)

    abbrev answers_by : Rig Value Element → List (Call Value) → List (Answer Value)
    answers_by = answers_alone key encode decode cfg fits

    module _ (n : Network Value Element) (ready : Ready room n) (x : On (Call Value)) (xs : List (On (Call Value))) where
      abbrev turn : NetworkTurn Value Element
      turn = network_event key encode decode cfg fits room n x

      abbrev code : Option Code
      code = code_of x.it.code

      abbrev event : Event Value
      event = record { call = x.it; answer = turn.answer }

      abbrev later : List (Event Value)
      later = events_of b (network_run key encode decode cfg fits room turn.network xs)

      stays : (everywhere named mine : Bool) → is_on_every_board code ≡ everywhere → names_board code ≡ named → eqb x.board b ≡ mine → cond everywhere true (named && mine) ≡ false
          → rig_of b turn.network ≡ rig_of b n
      unfolding concerns
      stays everywhere named mine c d e not =
          other_event key encode decode cfg fits room n ready.together.lengths b x (ap₂ (λ s t. cond s true (t && eqb x.board b)) c d ∙ ap (λ t. cond everywhere true (named && t)) e ∙ not)

      next : (No13 (answers turn.network xs) → all_answers turn.network xs ≡ answers_by (rig_of b turn.network) (calls_for b xs))
          → (everywhere named mine : Bool) → is_on_every_board code ≡ everywhere → names_board code ≡ named → eqb x.board b ≡ mine
          → No13 (map (λ y. y.answer) (cond (named && mine) (event ∷ later) later))
          → cond (cond everywhere true (named && mine)) (turn.answer ∷ all_answers turn.network xs) (all_answers turn.network xs)
          ≡ answers_by (rig_of b n) (cond (cond everywhere true (named && mine)) (x.it ∷ calls_for b xs) (calls_for b xs))
      unfolding answers_of answers_alone No13
      next rest true true mine c d e no13 = absurd (false≢true (sym (every_names code c) ∙ d))
      next rest true false mine c d e no13 =
          let agrees = every_event key encode decode cfg fits room n ready b exists x c in
          ap₂ ◌∷◌ agrees.answer (rest no13 ∙ ap (λ r. answers_by r (calls_for b xs)) agrees.rig)
      next rest false true true c d e no13 =
          let it = eqb-true x.board b e in
          let agrees : Agrees b turn (alone key encode decode cfg fits (rig_of b n) x.it) =
          subst (λ z. Agrees z turn (alone key encode decode cfg fits (rig_of z n) x.it)) it
          (own_event key encode decode cfg fits room n ready.together.lengths x (subst (λ z. within 1 room.boards z ≡ true) (sym it) exists) d no13.0) in
          ap₂ ◌∷◌ agrees.answer (rest no13.1 ∙ ap (λ r. answers_by r (calls_for b xs)) agrees.rig)
      next rest false true false c d e no13 = rest no13 ∙ ap (λ r. answers_by r (calls_for b xs)) (stays false true false c d e refl)
      next rest false false mine c d e no13 = rest no13 ∙ ap (λ r. answers_by r (calls_for b xs)) (stays false false mine c d e refl)

    -- what is answered in a network to a board's calls, the crashes and the restarts, where the board meets no 13, is what it answers to them by itself
    pub answers-alone : (xs : List (On (Call Value))) (n : Network Value Element) → Ready room n → No13 (answers n xs)
        → all_answers n xs ≡ answers_by (rig_of b n) (calls_for b xs)
    unfolding network_run events_of is_of calls_for concerns answers_of answers_for
    answers-alone [] n ready no13 = unfold answers_alone in refl
    answers-alone (x ∷ xs) n ready no13 =
        next n ready x xs (answers-alone xs (network_event key encode decode cfg fits room n x).network (event_ready key encode decode cfg fits room n ready x))
        (is_on_every_board (code_of x.it.code)) (names_board (code_of x.it.code)) (eqb x.board b) refl refl refl no13

  -- the calls of a list of events are those that it was run with
  calls_run : (room : Room) (n : Network Value Element) (xs : List (On (Call Value))) → map call_in (network_run key encode decode cfg fits room n xs) ≡ xs
  unfolding network_run
  calls_run room n [] = refl
  calls_run room n (x ∷ xs) = ap (λ ys. x ∷ ys) (calls_run room (network_event key encode decode cfg fits room n x).network xs)

  module _ (room room' : Room) (starts starts' : ℕ → Value) (b : ℕ) (exists : within 1 room.boards b ≡ true) (exists' : within 1 room'.boards b ≡ true)
      (start : starts b ≡ starts' b) (xs ys : List (On (Call Value))) (calls : calls_for b xs ≡ calls_for b ys)
      (no13 : No13 (answers_of b (network_run key encode decode cfg fits room (fresh_network cfg room encode starts) xs)))
      (no13' : No13 (answers_of b (network_run key encode decode cfg fits room' (fresh_network cfg room' encode starts') ys)))
    where
      -- the crashes' and the restarts' answers are the same too
      pub agree_all : answers_for b (network_run key encode decode cfg fits room (fresh_network cfg room encode starts) xs)
          ≡ answers_for b (network_run key encode decode cfg fits room' (fresh_network cfg room' encode starts') ys)
      agree_all =
          answers-alone room b exists xs (fresh_network cfg room encode starts) (fresh_ready key encode decode cfg fits room starts) no13
          ∙ ap₂ (answers_alone key encode decode cfg fits)
          (fresh-rig cfg room encode starts b exists ∙ ap (fresh_rig cfg encode) start ∙ sym (fresh-rig cfg room' encode starts' b exists')) calls
          ∙ sym (answers-alone room' b exists' ys (fresh_network cfg room' encode starts') (fresh_ready key encode decode cfg fits room' starts') no13')

      -- "Two lists, from rigs made alike, with the same events for one board and the same crashes, in the same order, in which that board meets no 13,
      -- give that board the same answers." The boards, their shares and the other starting boards may differ.
      pub agree : answers_of b (network_run key encode decode cfg fits room (fresh_network cfg room encode starts) xs)
          ≡ answers_of b (network_run key encode decode cfg fits room' (fresh_network cfg room' encode starts') ys)
      agree =
          own-among b _
          ∙ ap₂ own_among
          (ap (calls_for b) (calls_run room (fresh_network cfg room encode starts) xs) ∙ calls ∙ sym (ap (calls_for b) (calls_run room' (fresh_network cfg room' encode starts') ys)))
          agree_all
          ∙ sym (own-among b _)
