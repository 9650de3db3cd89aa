-- `stream::input::filled` meets its contract: each turn but the last reads at least one byte. Assumes nothing.
use Rattle.std.proofs.Common.{◌≡◌, ◌-◌, ◌≤◌, length, take}
use Rattle.stream.proofs.input.filled.Given as goal

abbrev pub invariant-loop-end : goal.invariant-loop-end
invariant-loop-end l =
    (l.front ≤ l.end) × (l.end ≤ length l.input) × (take l.front l.input ≡ take l.front l.initial.input)

abbrev pub decreases-loop-end : goal.decreases-loop-end
decreases-loop-end l = length l.input - l.end
