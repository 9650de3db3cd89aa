-- `code::row::add` meets its contract: to the bytes before j it is added, those from j on are as they were.
use Prim.Native.Nat.{◌<◌}
use mathlib.Core.Path.{ap, ◌∙◌}
use native.Mathlib.Omega.{arith}
use lib.ListN.{length, get_or}
use Rattle.field.specs.Field.{plus, times}
use Rattle.code.specs.inner.Row.{added}
use Rattle.code.proofs.Filled.{filled_none, was, turn, done}
use Rattle.laws.proofs.Bytes.{tabulate_cong}
use Rattle.code.proofs.Tabled.{chosen, chosen_times}
use Rattle.code.proofs.row.add.Invariants.{each}
use Rattle.code.proofs.row.add.Goals as goal

pub loop-j-init : goal.loop-j-init
loop-j-init c = filled_none _ _

pub loop-j-preserved : goal.loop-j-preserved
unfolding each chosen
loop-j-preserved c =
    let at = c.loop-j in
    let a = c.args in
    let f = each a.row.now a.c a.table.now in
    let here : at.j < length a.row.now = omega arith in
    turn f at.j a.row.now at.row _ at.invariant here
    (ap (λ n. plus n (chosen a.c a.table.now at.j)) (was f at.j a.row.now at.row 0 at.invariant here))

pub returns : goal.returns
unfolding added each
returns c = λ x hx m.
    let at = c.loop-j in
    let a = c.args in
    done _ at.j _ at.row at.invariant (omega arith)
    ∙ tabulate_cong (length a.row.now) (each a.row.now a.c a.table.now)
    (λ j. plus (get_or a.row.now j 0) (times a.c (get_or x j 0)))
    (λ j h. ap (plus (get_or a.row.now j 0)) (chosen_times x a.table.now (length x) m.rows a.c j (omega arith) (omega arith)))
