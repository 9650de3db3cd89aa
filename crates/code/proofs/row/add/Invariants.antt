-- `code::row::add` meets its contract: to the bytes before j it is added, those from j on are as they were.
use Prim.Native.Nat.{ℕ}
use mathlib.Core.Path.{◌≡◌}
use mathlib.Core.List.{List}
use lib.ListN.{get_or}
use Rattle.field.specs.Field.{plus}
use Rattle.code.proofs.Filled.{filled}
use Rattle.code.proofs.Tabled.{chosen}
use Rattle.code.proofs.row.add.Given as goal

-- byte j of the row, with what the table has for c
unfoldable pub each : List ℕ → ℕ → List ℕ → ℕ → ℕ
each row c table j = plus (get_or row j 0) (chosen c table j)

abbrev pub invariant-loop-j : goal.invariant-loop-j
invariant-loop-j l = l.row ≡ filled (each l.initial.row l.c l.table) l.j l.initial.row
