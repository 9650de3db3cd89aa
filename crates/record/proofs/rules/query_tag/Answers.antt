use borrow.Author.Tests.{eq-eqb, ne_eqb}
use Rattle.record.proofs.rules.query_tag.Goals as goal

pub returns-then-kind-ne1 : goal.returns-then-kind-ne1
returns-then-kind-ne1 c = let a = c.args in rw (ne_eqb a.kind 1 c.if-kind-ne1.true)

pub returns : goal.returns
returns c = let a = c.args in rw (eq-eqb a.kind 1 c.if-kind-ne1.false) c.same.ensures
