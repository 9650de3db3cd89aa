use borrow.Author.Tests.{eq-eqb, ne_eqb}
use Rattle.record.proofs.rules.presence.Goals as goal

pub returns-then-kind-eq3 : goal.returns-then-kind-eq3
returns-then-kind-eq3 c = let a = c.args in rw (eq-eqb a.kind 3 c.if-kind-eq3.true)

pub returns-then-kind-eq8 : goal.returns-then-kind-eq8
returns-then-kind-eq8 c = let a = c.args in rw (ne_eqb a.kind 3 c.if-kind-eq3.false, eq-eqb a.kind 8 c.if-kind-eq8.true)

pub returns : goal.returns
returns c = let a = c.args in rw (ne_eqb a.kind 3 c.if-kind-eq3.false, ne_eqb a.kind 8 c.if-kind-eq8.false)
