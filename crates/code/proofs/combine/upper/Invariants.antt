-- `code::combine::upper` meets its contract: the row is the combination without its b last digits.
use Prim.Native.Nat.{◌≤◌}
use Rattle.code.specs.inner.Combine.{Without}
use Rattle.code.proofs.combine.upper.Given as goal

abbrev pub invariant-loop-b : goal.invariant-loop-b
invariant-loop-b l = (1 ≤ l.b) × (l.b ≤ 8) × Without l.k l.t l.choices l.table l.row l.b
