-- `code::inverse::scale` meets its contract: the rows before i are scaled.
use Prim.Native.Nat.{ℕ}
use mathlib.Core.Path.{◌≡◌}
use mathlib.Core.List.{List, []}
use lib.ListN.{get_or}
use Rattle.code.specs.inner.Lanes.{scaled_lanes}
use Rattle.code.proofs.Filled.{filled}
use Rattle.code.proofs.inverse.scale.Given as goal

-- row i
unfoldable pub each : List (List ℕ) → List ℕ → ℕ → List ℕ
each rows d i = scaled_lanes (get_or rows i []) d

abbrev pub invariant-loop-i : goal.invariant-loop-i
invariant-loop-i l = l.rows ≡ filled (each l.initial.rows l.d) l.i l.initial.rows
