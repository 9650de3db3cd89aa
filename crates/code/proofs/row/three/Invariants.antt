-- `code::row::three` meets its contract: the bytes before j are those of the value, those from j on are as they were.
use mathlib.Core.Path.{◌≡◌}
use mathlib.Core.List.{[], ◌∷◌}
use Rattle.code.specs.inner.Row.{value_at}
use Rattle.code.proofs.Filled.{filled}
use Rattle.code.proofs.row.three.Given as goal

abbrev pub invariant-loop-j : goal.invariant-loop-j
invariant-loop-j l = l.part ≡ filled (value_at (l.a ∷ l.b ∷ l.c ∷ []) l.s) l.j l.initial.part
