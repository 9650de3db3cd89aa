-- `code::elements::few` meets its contract.
use mathlib.Core.Path.{◌∙◌}
use native.Mathlib.Omega.{arith}
use lib.ListN.{length}
use Rattle.code.proofs.FewRows.{four_element, three_element, two_element}
use Rattle.code.proofs.elements.few.Goals as goal

pub returns-then-cfg-eq2 : goal.returns-then-cfg-eq2
returns-then-cfg-eq2 c =
    let x = c.args in
    let h = c.requires in
    c.two.ensures
    ∙ two_element x.cfg x.board.now x.s (length x.part.now) h (λ i. (c.type_inv.board i).fits) c.if-cfg-eq2.true

pub returns-then-cfg-eq3 : goal.returns-then-cfg-eq3
returns-then-cfg-eq3 c =
    let x = c.args in
    let h = c.requires in
    c.three.ensures
    ∙ three_element x.cfg x.board.now x.s (length x.part.now) h (λ i. (c.type_inv.board i).fits) c.if-cfg-eq3.true

pub returns : goal.returns
returns c =
    let x = c.args in
    let h = c.requires in
    c.four.ensures
    ∙ four_element x.cfg x.board.now x.s (length x.part.now) h (λ i. (c.type_inv.board i).fits) (omega (arith, h.rows_low, h.rows_high, c.if-cfg-eq2.false, c.if-cfg-eq3.false))
