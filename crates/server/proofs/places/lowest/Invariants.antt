use Rattle.std.proofs.Common.{◌≡◌, drop}
use Rattle.server.specs.inner.Places.{least_from}
use Rattle.server.proofs.places.lowest.Given as goal

-- the answer from the start is the answer from here
abbrev pub invariant-loop-i : goal.invariant-loop-i
invariant-loop-i l =
    least_from l.cfg l.initial.tag l.initial.place 0 l.x-items ≡ least_from l.cfg l.tag l.place l.i (drop l.i l.x-items)
