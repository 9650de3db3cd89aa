-- What the type of a client's state tells: it has sixteen places for lengths. Assumes nothing.
use mathlib.Core.Path.{◌≡◌}
use mathlib.Core.List.{List}
use lib.ListN.{length}
use mir.Val.{Val}
use denote.Laws.{Is}
use Rattle.client.specs.declared.State.{State}
use Rattle.client.specs.contracts.State as state

pub sixteen_places : (x : State) (vs : List Val) → Is state.the_row x vs → length x.lengths ≡ 16
sixteen_places x vs p = p.1.1.1.1.1.1.0.1.0.1
