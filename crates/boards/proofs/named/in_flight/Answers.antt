use borrow.Author.Tests.{eq-eqb, le-leb, lt-leb, ne_eqb}
use Rattle.boards.proofs.named.in_flight.Goals as goal

pub returns-then-limit-ne0 : goal.returns-then-limit-ne0
returns-then-limit-ne0 c = rw (ne_eqb c.args.limit 0 c.if-limit-ne0.true)

pub returns-then-code-gt2 : goal.returns-then-code-gt2
returns-then-code-gt2 c =
    let a = c.args in
    rw (eq-eqb a.limit 0 c.if-limit-ne0.false, lt-leb a.code 2 c.if-code-gt2.true)

pub returns : goal.returns
returns c =
    let a = c.args in
    rw (eq-eqb a.limit 0 c.if-limit-ne0.false, le-leb a.code 2 c.if-code-gt2.false)
