use mathlib.Core.Path.{sym, ◌∙◌}
use borrow.Author.Tests.{eq-eqb, ne_eqb, not-true, not-false}
use Rattle.client.proofs.count.count.Goals as goal

pub returns-then-h-x : goal.returns-then-h-x
returns-then-h-x c = rw (ne_eqb _ _ c.if-h-x.true)

pub returns-then-not-awaits : goal.returns-then-not-awaits
returns-then-not-awaits c = rw (eq-eqb _ _ c.if-h-x.false, sym c.awaits.ensures ∙ not-true _ c.if-not-awaits.true-raw)

pub returns-then-number-eq9 : goal.returns-then-number-eq9
returns-then-number-eq9 c = let n = c in
    let a = n in
    rw (eq-eqb _ _ a.if-h-x.false, sym a.awaits.ensures ∙ not-false _ n.if-not-awaits.false-raw, eq-eqb _ _ (sym n.number.ensures ∙ c.if-number-eq9.true))

pub returns : goal.returns
returns c = let n = c in
    let a = n in
    rw (eq-eqb _ _ a.if-h-x.false, sym a.awaits.ensures ∙ not-false _ n.if-not-awaits.false-raw, ne_eqb _ _ (λ e. c.if-number-eq9.false (n.number.ensures ∙ e)), c.counting.ensures)
