-- `code::combine::upper` meets its contract: the row is the combination without its b last digits.
use mathlib.Core.Path.{◌≡◌, subst}
use native.Mathlib.Omega.{arith}
use Rattle.code.specs.inner.Combine.{Without}
use Rattle.code.proofs.Combining.{without_all, without_narrow, without_wide}
use Rattle.code.proofs.combine.upper.Goals as goal

pub loop-b-init : goal.loop-b-init
loop-b-init c =
    let a = c.args in
    let h = c.requires in
    (omega arith, omega arith, without_all a.k a.t a.choices.now a.table.now h.0 h.1 _ c.empty-row.ensures)

pub loop-b-preserved-then-k-gt8 : goal.loop-b-preserved-then-k-gt8
loop-b-preserved-then-k-gt8 c =
    let a = c.args in
    let h = c.requires in
    let l = c.loop-b in (
      omega arith,
      omega arith,
      without_wide a.k a.t a.choices.now a.table.now h.0 h.1 l.row l.b l.invariant.0 l.invariant.1 l.invariant.2 _ _
          c.next-more.ensures c.add-more.ensures,
    )

pub loop-b-preserved : goal.loop-b-preserved
loop-b-preserved c =
    let a = c.args in
    let h = c.requires in
    let l = c.loop-b in (
      omega arith,
      omega arith,
      without_narrow a.k a.t a.choices.now a.table.now h.0 h.1 l.row l.b l.invariant.0 l.invariant.1 l.invariant.2 _ (omega arith)
          c.next-more.ensures,
    )

pub returns : goal.returns
returns c =
    let a = c.args in
    let l = c.loop-b in
    let end : l.b ≡ 1 = omega arith in
    subst (Without a.k a.t a.choices.now a.table.now l.row) end l.invariant.2
