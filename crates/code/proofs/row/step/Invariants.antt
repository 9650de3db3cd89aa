-- `code::row::step` meets its contract: the bytes before j are stepped, those from j on are as they were.
use Prim.Native.Nat.{ℕ}
use mathlib.Core.Path.{◌≡◌}
use mathlib.Core.List.{List}
use lib.ListN.{get_or}
use Rattle.field.specs.Field.{plus, times}
use Rattle.code.proofs.Filled.{filled}
use Rattle.code.proofs.row.step.Given as goal

-- byte j of the stepped row
unfoldable pub each : List ℕ → ℕ → List ℕ → ℕ → ℕ
each row s more j = plus (get_or more j 0) (times s (get_or row j 0))

abbrev pub invariant-loop-j : goal.invariant-loop-j
invariant-loop-j l = l.row ≡ filled (each l.initial.row l.s l.more) l.j l.initial.row
