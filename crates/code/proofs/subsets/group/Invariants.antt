-- `code::subsets::group` meets its contract: the bytes before j of each row are those of the sums.
use Rattle.code.specs.inner.Subsets.{Ready, Rows}
use Rattle.code.proofs.subsets.group.Given as goal

abbrev pub invariant-loop-j : goal.invariant-loop-j
invariant-loop-j l = Ready l.table × Rows l.j l.e l.x l.table
