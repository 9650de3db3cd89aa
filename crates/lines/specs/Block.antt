-- The events of a block of records, run on a rig, and their lines. The history's events stand between the two: their calls are those of the
-- records, and the lines are those of their answers.
use Rattle.std.specs.Prelude.{◌≡◌, ℕ, ◌+◌, ◌*◌, ◌%◌, ◌^◌, ◌<◌, ◌≤◌, ◌⊎◌, List, [], ◌∷◌, ◌++◌, length, drop, ◌≢◌}
use Rattle.config.specs.declared.Config.{Config}
use Rattle.config.specs.Config.{board_length, rig_questions}
use Rattle.config.specs.Questions.{first_no}
use Rattle.protocol.specs.Boards.{BoardEvent}
use Rattle.events.specs.declared.Rig.{Rig}
use Rattle.events.specs.View.{Lent}
use Rattle.rig.specs.InPlace.{InPlace}
use Rattle.rig.specs.Runs.{calls_of}
use Rattle.lines.specs.declared.Ran.{Ran}
use Rattle.lines.specs.Event.{calls_in, event_length}
use Rattle.lines.specs.Line.{line_of}

-- the count n events later: a number of 64 bits, which wraps
abbrev pub count_after : ℕ → ℕ → ℕ
count_after count n = (count + n) % 2 ^ 64

-- "One line an event", the first with this count
unfoldable pub lines_of : ℕ → List BoardEvent → List ℕ
lines_of count [] = []
lines_of count (x ∷ xs) = line_of count x.answer ++ lines_of (count_after count 1) xs

-- no line is longer, with a board of v bytes
abbrev pub line_room : ℕ → ℕ
line_room v = 84 + 2 * v

-- Events of the first records of an input are run, the first of them with this count: what is left of the rig, of the buffers lent to it and of
-- the output.
pub record RanPost (cfg : Config) (m : ℕ) (rig : Rig) (l : Lent) (first : ℕ) (input out : List ℕ) (r : Ran) (l' : Lent) (out' : List ℕ) : Type 0 where
  pub events : List BoardEvent
  -- their calls are those of the records in turn
  pub calls : calls_of events ≡ calls_in (board_length cfg) (length events) input
  pub taken : r.taken ≡ length events * event_length (board_length cfg)
  pub whole : r.taken ≤ length input
  -- they are the rig's events, one after the other, the rig being kept in place
  pub steps : InPlace cfg m rig l events r.rig l'
  -- there are none where one of questions 1 to 5 and 21 is answered no; and where there are none, rig and buffers are as they were
  pub refused : (first_no (rig_questions cfg m) ≢ 0) → events ≡ []
  pub held : events ≡ [] → (r.rig ≡ rig) × (l' ≡ l)
  pub count : r.count ≡ count_after first (length events)
  -- their lines stand at the front of the output, and the rest of it stays
  pub used : r.used ≡ length (lines_of first events)
  pub room : r.used ≤ length out
  pub lines : out' ≡ lines_of first events ++ drop r.used out

-- A block: its whole records are run, as far as there is room for their lines.
pub record BlockPost (cfg : Config) (m : ℕ) (rig : Rig) (l : Lent) (first : ℕ) (input out : List ℕ) (r : Ran) (l' : Lent) (out' : List ℕ) : Type 0 where
  pub ran : RanPost cfg m rig l first input out r l' out'
  -- till fewer bytes than a record are left, or less room than for a line
  pub all : first_no (rig_questions cfg m) ≡ 0
      → (length input < r.taken + event_length (board_length cfg)) ⊎ (length out < r.used + line_room (board_length cfg))
