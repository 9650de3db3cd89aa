-- `code::subsets::fill` meets its contract: the table has the sums of the groups before g.
use native.Mathlib.Omega.{arith}
use Rattle.code.proofs.SubsetLaws.{filling_none, filling_more, filling_all}
use Rattle.code.proofs.subsets.fill.Goals as goal

pub loop-g-init : goal.loop-g-init
loop-g-init c =
    let a = c.args in
    filling_none a.e a.rows.now a.table.now c.requires.2

pub loop-g-preserved : goal.loop-g-preserved
loop-g-preserved c =
    let a = c.args in
    let at = c.loop-g in
    filling_more a.e at.g a.rows.now at.table _ (omega arith) (omega arith) at.invariant c.group.ensures

pub returns : goal.returns
returns c =
    let a = c.args in
    let at = c.loop-g in
    filling_all a.e at.g a.rows.now at.table (omega arith) at.invariant
