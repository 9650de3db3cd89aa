-- `code::subsets::group` meets its contract: the bytes before j of each row are those of the sums.
use native.Mathlib.Omega.{arith}
use Rattle.code.proofs.SubsetLaws.{rows_more}
use Rattle.code.proofs.subsets.group.Goals as goal

pub loop-j-preserved : goal.loop-j-preserved
loop-j-preserved c =
    let at = c.loop-j in
    let a = c.args in
    let p = c.place.ensures in
    (p.ready, rows_more a.e at.j a.x.now at.table _ (omega arith) at.invariant.1 p)

pub returns : goal.returns
returns c =
    let at = c.loop-j in
    record { ready = at.invariant.0; rows = λ v j hv hj. at.invariant.1 v j hv (omega arith) }
