-- `code::row::four` meets its contract: the bytes before j are those of the value, those from j on are as they were.
use mathlib.Core.List.{[], ◌∷◌}
use native.Mathlib.Omega.{arith}
use lib.Bits.{bit_xor}
use lib.ListN.{get_or}
use Rattle.code.specs.inner.Row.{value_at}
use Rattle.code.proofs.FewRows.{last_row, row_before}
use Rattle.code.proofs.Filled.{filled_none, turn, done}
use Rattle.code.proofs.row.four.Goals as goal

pub loop-j-init : goal.loop-j-init
loop-j-init c = filled_none _ _

pub loop-j-preserved : goal.loop-j-preserved
unfolding value_at
loop-j-preserved c =
    let at = c.loop-j in
    let x = c.args in
    turn (value_at (x.a.now ∷ x.b.now ∷ x.c.now ∷ x.d.now ∷ []) x.s) at.j x.part.now at.part _ at.invariant (omega arith)
    (row_before x.s (get_or x.a.now at.j 0) c.tiny-in-loop-j-2.result (bit_xor (get_or x.b.now at.j 0) c.tiny-in-loop-j.result) (get_or x.b.now at.j 0 ∷ get_or x.c.now at.j 0 ∷ get_or x.d.now at.j 0 ∷ []) c.tiny-in-loop-j-2.ensures
    (row_before x.s (get_or x.b.now at.j 0) c.tiny-in-loop-j.result (bit_xor (get_or x.c.now at.j 0) c.tiny.result) (get_or x.c.now at.j 0 ∷ get_or x.d.now at.j 0 ∷ []) c.tiny-in-loop-j.ensures
    (row_before x.s (get_or x.c.now at.j 0) c.tiny.result (get_or x.d.now at.j 0) (get_or x.d.now at.j 0 ∷ []) c.tiny.ensures (last_row (get_or x.d.now at.j 0) x.s))))

pub returns : goal.returns
returns c =
    let at = c.loop-j in
    done _ at.j _ at.part at.invariant (omega arith)
