-- Events 4 and 5, whatever else they are handed.
use Rattle.std.specs.Prelude.{ℕ, ◌≡◌, List}
use Rattle.config.specs.declared.Config.{Config}
use Rattle.events.specs.declared.Call.{Call}
use Rattle.events.specs.declared.Change.{Change}
use Rattle.events.specs.declared.Part.{Part}
use Rattle.events.specs.View.{lent}
use Rattle.events.specs.inner.Turn.{TurnPost}

-- event 4
abbrev pub LosePost : Part → Call → List ℕ → Change → List ℕ → Type 0
LosePost p a messages x messages' =
    (cfg : Config) (m : ℕ) (board read stores boards elements : List ℕ) → a.code ≡ 4
    → TurnPost cfg m p a board read (lent messages stores boards elements) x read (lent messages' stores boards elements)

-- event 5
abbrev pub DoublePost : ℕ → Part → Call → List ℕ → Change → List ℕ → Type 0
DoublePost m p a messages x messages' =
    (cfg : Config) (board read stores boards elements : List ℕ) → a.code ≡ 5
    → TurnPost cfg m p a board read (lent messages stores boards elements) x read (lent messages' stores boards elements)
