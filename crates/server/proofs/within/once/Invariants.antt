use Rattle.std.proofs.Common.{◌≡◌, ◌-◌, ◌≤◌}
use Rattle.server.specs.Within.{once}
use Rattle.server.specs.View.{each, tag_at}
use Rattle.server.proofs.within.once.Given as goal

-- the answer from the start is the answer from here
abbrev pub invariant-loop-i : goal.invariant-loop-i
invariant-loop-i l = (l.i ≤ l.count) × (once (each (tag_at l.tags) 0 l.count) ≡ once (each (tag_at l.tags) l.i (l.count - l.i)))
