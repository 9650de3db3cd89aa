-- `products::row` meets its contract: at byte b, b products of the row were compared. Assumes nothing.
use mathlib.Core.Path.{◌≡◌}
use Prim.Native.Nat.{◌+◌, ◌*◌, ◌≤◌, ◌-◌, ◌<◌}
use Rattle.products.specs.Multiplier.{all_differ, row_differ}
use Rattle.products.proofs.row.Given as goal

abbrev pub invariant-loop-b : goal.invariant-loop-b
invariant-loop-b l =
    (l.a < 256) × (l.b ≤ 256) × (l.compared ≡ l.a * 256 + l.b) × (l.differ ≡ all_differ l.a + row_differ l.a l.b)

abbrev pub decreases-loop-b : goal.decreases-loop-b
decreases-loop-b l = 256 - l.b
