-- `code::choice::group` meets its contract: before each digit the lanes have lost those before it, whose choices stand.
use mathlib.Core.Path.{◌≡◌, subst}
use borrow.Author.Rules.{rules}
use native.Mathlib.Omega.{arith}
use Rattle.code.specs.inner.Choice.{square_of}
use Rattle.code.proofs.ChoiceLaws.{Turned, turned_all, turned_next, turned_none}
use Rattle.code.proofs.choice.group.Goals as goal

pub loop-digit-init : goal.loop-digit-init
loop-digit-init c =
    let a = c.args in
    turned_none a.g a.square.now a.choices.now _ _ _ _ c.requires.1 c.column-a.ensures
    c.column-b.ensures c.column-c.ensures c.column-d.ensures

pub loop-digit-preserved : goal.loop-digit-preserved
loop-digit-preserved c =
    let at = c.loop-digit in
    let a = c.args in
    turned_next a.g (square_of a.square.now) a.choices.now at.digit at.choices at.a at.b at.c at.d at.invariant
    (omega arith) c.requires.0 _ _ _ _ _ _ c.chosen-lanes.ensures (c.copy.ensures.whole (search rules)).1
    c.halved-half.ensures c.halved-half-in-loop-digit.ensures c.halved-half-in-loop-digit-2.ensures c.halved-half-in-loop-digit-3.ensures

pub returns : goal.returns
returns c =
    let at = c.loop-digit in
    let a = c.args in
    let m = square_of a.square.now in
    let e : at.digit ≡ 8 = omega arith in
    turned_all a.g m a.choices.now at.choices at.a at.b at.c at.d
    (subst (λ n. Turned a.g m a.choices.now n at.choices at.a at.b at.c at.d) e at.invariant)
