-- `code::row::multiply` meets its contract: the bytes before j of each row are those of the multiples.
use native.Mathlib.Omega.{arith}
use Rattle.code.proofs.Tabled.{rows_more}
use Rattle.code.proofs.row.multiply.Goals as goal

pub loop-j-preserved : goal.loop-j-preserved
loop-j-preserved c =
    let at = c.loop-j in
    let p = c.place.ensures in
    (p.ready, rows_more c.args.x.now at.table _ at.j (omega arith) at.invariant.1 p)

pub returns : goal.returns
returns c =
    let at = c.loop-j in
    record { ready = at.invariant.0; rows = λ d v j hd hv hj. at.invariant.1 d v j hd hv (omega arith) }
