use mathlib.Core.Path.{sym}
use borrow.Author.Tests.{eq-eqb, ne_eqb}
use Rattle.tag.proofs.Tag.above.Goals as goal

pub returns-then-self-other : goal.returns-then-self-other
returns-then-self-other c =
    let a = c.args in
    rw (ne_eqb a.self.number a.other.number c.if-self-other.true)

pub returns-then-mine-its : goal.returns-then-mine-its
returns-then-mine-its c =
    let a = c.args in
    rw (eq-eqb a.self.number a.other.number c.if-self-other.false, sym c.rank-mine.ensures, sym c.rank-its.ensures, ne_eqb _ _ c.if-mine-its.true)

pub returns : goal.returns
returns c =
    let a = c.args in
    rw (eq-eqb a.self.number a.other.number c.if-self-other.false, sym c.rank-mine.ensures, sym c.rank-its.ensures, eq-eqb _ _ c.if-mine-its.false)
