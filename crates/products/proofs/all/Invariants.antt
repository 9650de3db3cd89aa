-- `products::all` meets its contract: at byte a, the products of a rows were compared. Assumes nothing.
use mathlib.Core.Path.{◌≡◌}
use Prim.Native.Nat.{◌*◌, ◌≤◌, ◌-◌}
use Rattle.products.specs.Multiplier.{all_differ}
use Rattle.products.proofs.all.Given as goal

abbrev pub invariant-loop-a : goal.invariant-loop-a
invariant-loop-a l = (l.a ≤ 256) × (l.t.compared ≡ l.a * 256) × (l.t.differ ≡ all_differ l.a)

abbrev pub decreases-loop-a : goal.decreases-loop-a
decreases-loop-a l = 256 - l.a
