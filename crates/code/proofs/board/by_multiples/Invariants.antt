-- `code::board::by_multiples` meets its contract: the board is what the elements before r make.
use mathlib.Core.Path.{◌≡◌}
use Rattle.code.specs.inner.Rows.{combined}
use Rattle.code.specs.inner.Table.{Ready}
use Rattle.code.proofs.board.by_multiples.Given as goal

abbrev pub invariant-loop-r : goal.invariant-loop-r
invariant-loop-r l = Ready l.table × (l.buffer ≡ combined l.k l.e l.inverse l.elements l.r)
