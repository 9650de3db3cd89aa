use native.Mathlib.Omega.{arith}
use borrow.Author.Tests.{eq-eqb, ne_eqb, le-leb, lt-leb}
use Rattle.tag.proofs.Tag.allowed.Goals as goal

pub returns-then-self-eq0 : goal.returns-then-self-eq0
returns-then-self-eq0 c = let a = c.args in rw (eq-eqb a.self.number 0 c.if-self-eq0.true)

pub returns-then-self-eq0-2 : goal.returns-then-self-eq0-2
returns-then-self-eq0-2 c =
    let a = c.args in
    rw (ne_eqb a.self.number 0 c.if-self-eq0.false, lt-leb 1 a.self.client (omega (arith, c.if-self-eq0-2.true)))

pub returns : goal.returns
returns c =
    let a = c.args in
    rw (ne_eqb a.self.number 0 c.if-self-eq0.false, le-leb 1 a.self.client (omega (arith, c.if-self-eq0-2.false)))
