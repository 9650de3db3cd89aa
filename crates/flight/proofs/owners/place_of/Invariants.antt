-- The place looked for is as many from the start on as were passed, and from there on where the search goes on.
use Prim.Native.Nat.{◌+◌}
use mathlib.Core.Path.{◌≡◌}
use lib.ListN.{drop}
use Rattle.laws.specs.Owners.{place_of}
use Rattle.flight.proofs.owners.place_of.Given as goal

abbrev pub invariant-loop-place : goal.invariant-loop-place
invariant-loop-place l = place_of l.board l.position l.used ≡ l.place + place_of l.board l.left (drop l.place l.used)
