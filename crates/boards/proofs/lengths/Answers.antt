use mathlib.Core.Path.{sym, ◌∙◌}
use native.Mathlib.Omega.{arith}
use Rattle.config.proofs.Refusals.{refusal_some}
use Rattle.boards.proofs.Due.{all_are, all_boards_fit, all_stores_fit, boards_fit, each_elements_fit, elements_fit, nothing_is, stores_fit}
use Rattle.boards.proofs.lengths.Goals as goal

pub returns-in_default : goal.returns-in_default
returns-in_default c = let a = c.args in nothing_is a.cfg a.room (refusal_some _ c.in_default.ensures).1

pub overflow_mul-result : goal.overflow_mul-result
overflow_mul-result c =
    let b = c in
    let a = b.args in
    omega (arith, stores_fit a.cfg a.room (sym b.in-Ok.ensures) b.lengths-one.result b.lengths-one.ensures)

pub overflow_mul-result-2 : goal.overflow_mul-result-2
overflow_mul-result-2 c =
    let b = c in
    let a = b.args in
    omega (arith, all_stores_fit a.cfg a.room (sym b.in-Ok.ensures) b.lengths-one.result b.lengths-one.ensures)

pub overflow_mul-result-3 : goal.overflow_mul-result-3
overflow_mul-result-3 c =
    let b = c in
    let a = b.args in
    omega (arith, boards_fit a.cfg a.room (sym b.in-Ok.ensures) b.lengths-one.result b.lengths-one.ensures)

pub overflow_mul-result-4 : goal.overflow_mul-result-4
overflow_mul-result-4 c =
    let b = c in
    let a = b.args in
    omega (arith, all_boards_fit a.cfg a.room (sym b.in-Ok.ensures) b.lengths-one.result b.lengths-one.ensures)

pub overflow_mul-result-5 : goal.overflow_mul-result-5
overflow_mul-result-5 c =
    let b = c in
    let a = b.args in
    omega (arith, elements_fit a.cfg a.room (sym b.in-Ok.ensures) b.lengths-one.result b.lengths-one.ensures)

pub overflow_mul-result-6 : goal.overflow_mul-result-6
overflow_mul-result-6 c =
    let b = c in
    let a = b.args in
    omega (arith, each_elements_fit a.cfg a.room (sym b.in-Ok.ensures) b.lengths-one.result b.lengths-one.ensures)

pub returns : goal.returns
returns c =
    let b = c in
    let a = b.args in
    all_are a.cfg a.room (sym b.in-Ok.ensures) b.lengths-one.result b.lengths-one.ensures
