-- `code::combine::last` meets its contract: the bytes before j are those of the last step, those from j on are as they were.
use Prim.Native.Nat.{◌+◌, ◌*◌}
use mathlib.Core.Path.{ap}
use native.Mathlib.Omega.{arith}
use lib.ListN.{get_or}
use Rattle.code.proofs.Filled.{filled_none, turn, done}
use Rattle.field.specs.Field.{plus}
use Rattle.code.specs.inner.Combine.{last_byte}
use Rattle.code.proofs.combine.last.Goals as goal

pub loop-j-init : goal.loop-j-init
loop-j-init c = filled_none _ _

pub loop-j-preserved : goal.loop-j-preserved
unfolding last_byte
loop-j-preserved c =
    let at = c.loop-j in
    let a = c.args in
    turn (last_byte a.row a.v a.w a.y a.z a.table.now) at.j a.part.now at.part _ at.invariant (omega arith)
    (ap (λ n. plus n
    (plus
    (plus
    (plus (get_or a.table.now (64 * a.v + at.j) 0) (get_or a.table.now (1024 + 64 * a.w + at.j) 0))
    (get_or a.table.now (2048 + 64 * a.y + at.j) 0))
    (get_or a.table.now (3072 + 64 * a.z + at.j) 0)))
    c.double.ensures)

pub returns : goal.returns
returns c = let at = c.loop-j in done _ at.j _ at.part at.invariant (omega arith)
