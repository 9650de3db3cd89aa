-- `code::row::step` meets its contract: the bytes before j are stepped, those from j on are as they were.
use Prim.Native.Nat.{◌<◌}
use mathlib.Core.Path.{ap, ◌∙◌}
use native.Mathlib.Omega.{arith}
use lib.Bits.{bit_xor}
use lib.ListN.{length, get_or}
use Rattle.field.specs.Field.{times}
use Rattle.code.specs.inner.Row.{stepped}
use Rattle.code.proofs.Filled.{filled_none, was, turn, done}
use Rattle.code.proofs.row.step.Invariants.{each}
use Rattle.code.proofs.row.step.Goals as goal

pub loop-j-init : goal.loop-j-init
loop-j-init c = filled_none _ _

pub loop-j-preserved : goal.loop-j-preserved
unfolding each
loop-j-preserved c =
    let at = c.loop-j in
    let row = c.args.row.now in
    let s = c.args.s in
    let more = c.args.more.now in
    let f = each row s more in
    let here : at.j < length row = omega arith in
    turn f at.j row at.row _ at.invariant here
    (ap (bit_xor (get_or more at.j 0)) (c.by_server.ensures ∙ ap (times s) (was f at.j row at.row 0 at.invariant here)))

pub returns : goal.returns
unfolding stepped each
returns c = let at = c.loop-j in done _ at.j _ at.row at.invariant (omega arith)
