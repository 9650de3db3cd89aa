-- `maker::draw::position` meets its contract. Assumes nothing.
use borrow.Author.Tests.{eq-eqb, ne_eqb}
use Rattle.maker.proofs.draw.position.Goals as goal

pub returns-then-in_flight-eq0 : goal.returns-then-in_flight-eq0
returns-then-in_flight-eq0 c = rw (eq-eqb c.args.in_flight 0 c.if-in_flight-eq0.true)

pub returns : goal.returns
returns c = rw (ne_eqb c.args.in_flight 0 c.if-in_flight-eq0.false)
