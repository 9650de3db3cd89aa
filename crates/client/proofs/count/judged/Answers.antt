use mathlib.Core.Path.{sym, ◌∙◌}
use borrow.Author.Tests.{eq-eqb, ne_eqb}
use Rattle.client.proofs.count.judged.Goals as goal

pub returns-then-number-eq9 : goal.returns-then-number-eq9
returns-then-number-eq9 c = rw (eq-eqb _ _ (sym c.number-number.ensures ∙ c.if-number-eq9.true))

pub returns : goal.returns
returns c = rw (ne_eqb _ _ (λ e. c.if-number-eq9.false (c.number-number.ensures ∙ e))) c.number-number.ensures
