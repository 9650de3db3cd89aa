use Rattle.std.proofs.Common.{◌≡◌, ◌+◌, ◌-◌, ◌≤◌}
use Rattle.server.specs.View.{each, place_in, tag_at}
use Rattle.server.proofs.places.place_of.Given as goal

-- the answer from the start is the answer from here
abbrev pub invariant-loop-i : goal.invariant-loop-i
invariant-loop-i l =
    (l.i ≤ l.count) × (l.from + place_in l.t (each (tag_at l.tags) l.from (l.count - l.from)) ≡ l.i + place_in l.t (each (tag_at l.tags) l.i (l.count - l.i)))

abbrev pub decreases-loop-i : goal.decreases-loop-i
decreases-loop-i l = l.count - l.i
