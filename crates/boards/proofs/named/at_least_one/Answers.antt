use borrow.Author.Tests.{eq-eqb, ne_eqb}
use Rattle.boards.proofs.named.at_least_one.Goals as goal

pub returns-then-limit-eq0 : goal.returns-then-limit-eq0
returns-then-limit-eq0 c = rw (eq-eqb c.args.limit 0 c.if-limit-eq0.true)

pub returns : goal.returns
returns c = rw (ne_eqb c.args.limit 0 c.if-limit-eq0.false)
