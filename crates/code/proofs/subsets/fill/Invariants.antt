-- `code::subsets::fill` meets its contract: the table has the sums of the groups before g.
use Rattle.code.proofs.SubsetLaws.{Filling}
use Rattle.code.proofs.subsets.fill.Given as goal

abbrev pub invariant-loop-g : goal.invariant-loop-g
invariant-loop-g l = Filling l.e l.g l.rows l.table
