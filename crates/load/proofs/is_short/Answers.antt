-- `load::is_short` meets its contract. Assumes nothing.
use borrow.Author.Tests.{eq-eqb, ne_eqb}
use Rattle.load.proofs.is_short.Goals as goal

pub returns-then-got-ne4 : goal.returns-then-got-ne4
returns-then-got-ne4 c = rw (ne_eqb c.args.got 4 c.if-got-ne4.true)

pub returns-else-got-ne4 : goal.returns-else-got-ne4
returns-else-got-ne4 c = rw (eq-eqb c.args.got 4 c.if-got-ne4.false)
