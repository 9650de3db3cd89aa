-- `code::subsets::place` meets its contract.
use Rattle.code.proofs.SubsetLaws.{down, sum, placed}
use Rattle.code.proofs.Written.{written}
use Rattle.code.proofs.subsets.place.Goals as goal

pub returns : goal.returns
unfolding written down sum
returns c =
    let a = c.args in
    placed a.a a.b a.c a.d a.table.now c.requires.0 a.j c.requires.1
