-- `code::row::place` meets its contract.
use native.Mathlib.Omega.{arith}
use Rattle.code.proofs.Tabled.{rows, multiple, placed}
use Rattle.code.proofs.Written.{written}
use Rattle.code.proofs.row.place.Goals as goal

pub returns : goal.returns
unfolding written rows multiple
returns c =
    let a = c.args in
    let h = c.requires in
    placed a.x c.double-x1.result c.double-x2.result c.double-x3.result c.double-x4.result c.double-x5.result c.double-x6.result c.double-x7.result
    (record {
      one = c.double-x1.ensures;
      two = c.double-x2.ensures;
      three = c.double-x3.ensures;
      four = c.double-x4.ensures;
      five = c.double-x5.ensures;
      six = c.double-x6.ensures;
      seven = c.double-x7.ensures;
    })
    (omega arith) a.table.now h.0 a.j h.1
