-- The board's are counted among those passed. Assumes nothing.
use mathlib.Core.Path.{◌≡◌}
use lib.ListN.{take}
use Rattle.laws.specs.Owners.{count_of}
use Rattle.flight.proofs.owners.count_of.Given as goal

abbrev pub invariant-loop-owner : goal.invariant-loop-owner
invariant-loop-owner l = l.n ≡ count_of l.board (take l.owner-index l.used)
