-- `code::combine::each` meets its contract: the first t combinations are in their places.
use Prim.Native.Nat.{ℕ, ◌<◌, ◌≤◌}
use mathlib.Core.Path.{◌≡◌}
use mathlib.Core.List.{List}
use lib.ListN.{length}
use Rattle.code.specs.Laid.{laid}
use Rattle.code.specs.inner.Combine.{Table, combination}
use Rattle.code.proofs.combine.each.Given as goal

abbrev pub invariant-loop-t : goal.invariant-loop-t
invariant-loop-t l =
    (length l.buffer ≡ length l.initial.buffer)
    × ((c : ℕ → ℕ → ℕ) (x : List ℕ) → l.k ≤ 16 → ((r : ℕ) → r < l.places.count → Table l.k l.e r (c r) x l.choices l.table)
    → l.buffer ≡ laid (λ r. combination l.k l.e x (c r)) l.e l.places.offset l.places.distance l.t l.initial.buffer)
