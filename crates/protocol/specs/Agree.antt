-- Document 02: "Two lists, from rigs made alike, with the same events for one board and the same crashes, in the same order, in which that
-- board meets no 13, give that board the same answers." "lists compared under L6 agree on restarts too". What a board answers is told by its own calls,
-- the crashes and the restarts: it is that board's event by itself, where 13 is not asked.
use Rattle.std.specs.Prelude.{ℕ, ◌≡◌, Bool, true, false, cond, not, List, [], ◌∷◌, map}
use Rattle.std.proofs.Math.Option.{Option, none, some}
use Rattle.config.specs.declared.Config.{Config}
use Rattle.config.specs.Questions.{Question, ask, first_no}
use Rattle.tag.specs.declared.Tag.{Tag}
use Rattle.protocol.specs.Board.{Call, Answer, Event, refused}
use Rattle.protocol.specs.Rig as rig
use Rattle.protocol.specs.Rig.{Rig, Turn, Code, code_of, from7, questions_to11, unless_no, write_fits}
use Rattle.protocol.specs.Network.{On, events_of, is_named, names_board}

-- a crash or a restart: the events that name no board
unfoldable pub is_on_every_board : Option Code → Bool
is_on_every_board none = false
is_on_every_board (some w) = not (names_board (some w))

module _ {Value : Type 0} where
  -- a call that names board b, or a crash, or a restart
  unfoldable pub concerns : ℕ → On (Call Value) → Bool
  concerns b x = cond (is_on_every_board (code_of x.it.code)) true (is_named b (code_of x.it.code) x.board)

  -- "the same events for one board and the same crashes, in the same order", and the same restarts: these calls of a list
  unfoldable pub calls_for : ℕ → List (On (Call Value)) → List (Call Value)
  calls_for b [] = []
  calls_for b (x ∷ xs) = cond (concerns b x) (x.it ∷ calls_for b xs) (calls_for b xs)

  -- what board b answers in a list of events
  unfoldable pub answers_of : ℕ → List (On (Event Value)) → List (Answer Value)
  answers_of b events = map (λ x. x.answer) (events_of b events)

  -- an event's call, with the board that it names
  abbrev pub call_in : On (Event Value) → On (Call Value)
  call_in x = record { board = x.board; it = x.it.call }

  -- and, with these, what the crashes and the restarts are answered
  unfoldable pub answers_for : ℕ → List (On (Event Value)) → List (Answer Value)
  answers_for b [] = []
  answers_for b (x ∷ xs) = cond (concerns b (call_in x)) (x.it.answer ∷ answers_for b xs) (answers_for b xs)

  -- none of these is 13
  unfoldable pub No13 : List (Answer Value) → Type 0
  No13 [] = Unit {0}
  No13 (x ∷ xs) = (x ≡ refused 13 → ⊥) × No13 xs

module _ {Value Element : Type 0} (key : Tag → ℕ) (encode : Value → ℕ → Element) (decode : List (ℕ × Element) → Value) (cfg : Config) where
  -- 7 to 12
  unfoldable pub from7_to12 : Rig Value Element → Call Value → Bool → Option Code → List Question
  from7_to12 r a formed w = from7 (questions_to11 cfg r a) formed (λ x. []) w

  -- a board's event by itself: 19, and 7 to 12
  unfoldable pub alone : (Value → Bool) → Rig Value Element → Call Value → Turn Value Element
  alone fits r a =
      unless_no r (rig.move_of key encode decode cfg r a (code_of a.code))
      (first_no (ask 19 (write_fits fits a (code_of a.code)) ∷ from7_to12 r a true (code_of a.code)))

  -- what it answers to its calls, crashes and restarts among them
  unfoldable pub answers_alone : (Value → Bool) → Rig Value Element → List (Call Value) → List (Answer Value)
  answers_alone fits r [] = []
  answers_alone fits r (a ∷ later) = let t = alone fits r a in t.answer ∷ answers_alone fits t.rig later
