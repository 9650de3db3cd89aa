-- `code::row::multiply` meets its contract: the bytes before j of each row are those of the multiples.
use Rattle.code.specs.inner.Table.{Ready, Rows}
use Rattle.code.proofs.row.multiply.Given as goal

abbrev pub invariant-loop-j : goal.invariant-loop-j
invariant-loop-j l = Ready l.table × Rows l.j l.x l.table
