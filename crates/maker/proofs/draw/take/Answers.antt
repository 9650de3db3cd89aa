-- `maker::draw::take` meets its contract. Assumes nothing.
use Rattle.maker.proofs.Drawn.{hands, reads, writes}
use Rattle.maker.proofs.draw.take.Goals as goal

pub returns-then-code-eq1 : goal.returns-then-code-eq1
returns-then-code-eq1 c = writes c.args.generator.0 c.args.in_flight c.next-first.ensures c.next-second.ensures c.next-third.ensures c.if-code-eq1.true c.called-call.ensures

pub returns-then-code-eq2 : goal.returns-then-code-eq2
returns-then-code-eq2 c = reads c.args.generator.0 c.args.in_flight c.next-first.ensures c.next-second.ensures c.if-code-eq1.false c.if-code-eq2.true c.called-call-then-code-eq2.ensures

pub returns-else-code-eq2 : goal.returns-else-code-eq2
returns-else-code-eq2 c = hands c.args.generator.0 c.args.in_flight c.next-first.ensures c.next-second.ensures c.if-code-eq1.false c.if-code-eq2.false c.position.ensures c.called-call-else-code-eq2.ensures
