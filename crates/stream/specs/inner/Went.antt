-- The events of a run, whatever is read.
use Rattle.std.specs.Prelude.{◌≡◌, ℕ, List, length}
use Rattle.config.specs.declared.Config.{Config}
use Rattle.protocol.specs.Boards.{BoardEvent}
use Rattle.events.specs.declared.Rig.{Rig}
use Rattle.events.specs.View.{Lent}
use Rattle.rig.specs.InPlace.{InPlace}
use Rattle.rig.specs.Runs.{WholeRuns}
use Rattle.lines.specs.Block.{count_after}

-- Events are run on a rig in place, to the rig and the buffers that are left, and the count of the next event follows from how many there were.
pub record Went (cfg : Config) (m : ℕ) (rig : Rig) (l : Lent) (next : ℕ) (left : Rig) (l' : Lent) : Type 0 where
  pub events : List BoardEvent
  pub steps : InPlace cfg m rig l events left l'
  pub counts : next ≡ count_after 1 (length events)

-- the same of a rig that is left by a call that gives back its buffers alone
pub record WentOn (cfg : Config) (m : ℕ) (rig : Rig) (l : Lent) (next : ℕ) (l' : Lent) : Type 0 where
  pub left : Rig
  pub went : Went cfg m rig l next left l'

-- some list of events from a making, to these buffers
pub record RunTo (cfg : Config) (m : ℕ) (start : List ℕ) (l' : Lent) : Type 0 where
  pub left : Rig
  pub events : List BoardEvent
  pub runs : WholeRuns cfg m start left l' events
