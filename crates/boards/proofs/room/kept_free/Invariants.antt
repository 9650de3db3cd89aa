-- What the boards passed lack is added up. Assumes nothing.
use Rattle.std.proofs.Common.{◌≡◌, take}
use Rattle.laws.specs.Below.{sum_below}
use Rattle.config.specs.Room.{lacking}
use Rattle.boards.proofs.room.kept_free.Given as goal

abbrev pub invariant-loop-i : goal.invariant-loop-i
invariant-loop-i l = l.free ≡ sum_below l.i (lacking l.room l.b (take l.count l.owners))
