-- Events 6, 7 and 8, whatever else they are handed.
use Rattle.std.specs.Prelude.{ℕ, ◌≡◌, List}
use Rattle.config.specs.declared.Config.{Config}
use Rattle.events.specs.declared.Call.{Call}
use Rattle.events.specs.declared.Change.{Change}
use Rattle.events.specs.declared.Part.{Part}
use Rattle.events.specs.View.{Lent}
use Rattle.events.specs.inner.Turn.{TurnPost}

-- an event of a code, which touches no buffer
abbrev pub BarePost : ℕ → Config → Part → Call → Change → Type 0
BarePost code cfg p a x = (m : ℕ) (board read : List ℕ) (l : Lent) → a.code ≡ code → TurnPost cfg m p a board read l x read l
