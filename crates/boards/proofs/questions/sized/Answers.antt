use borrow.Author.Tests.{eq-eqb, ne_eqb}
use Rattle.boards.specs.Questions.{same_sizes}
use Rattle.boards.proofs.questions.sized.Goals as goal

pub returns-then-x-y : goal.returns-then-x-y
unfolding same_sizes
returns-then-x-y c =
    let a = c.args in
    rw (ne_eqb a.x.messages a.y.messages c.if-x-y.true)

pub returns-then-x-y-2 : goal.returns-then-x-y-2
unfolding same_sizes
returns-then-x-y-2 c =
    let a = c.args in
    rw (eq-eqb a.x.messages a.y.messages c.if-x-y.false, ne_eqb a.x.owners a.y.owners c.if-x-y-2.true)

pub returns-then-x-y-3 : goal.returns-then-x-y-3
unfolding same_sizes
returns-then-x-y-3 c =
    let a = c.args in
    rw (eq-eqb a.x.messages a.y.messages c.if-x-y.false, eq-eqb a.x.owners a.y.owners c.if-x-y-2.false, ne_eqb a.x.stores a.y.stores c.if-x-y-3.true)

pub returns-then-x-y-4 : goal.returns-then-x-y-4
unfolding same_sizes
returns-then-x-y-4 c =
    let a = c.args in
    rw (eq-eqb a.x.messages a.y.messages c.if-x-y.false, eq-eqb a.x.owners a.y.owners c.if-x-y-2.false, eq-eqb a.x.stores a.y.stores c.if-x-y-3.false, ne_eqb a.x.boards a.y.boards c.if-x-y-4.true)

pub returns : goal.returns
unfolding same_sizes
returns c =
    let a = c.args in
    rw (eq-eqb a.x.messages a.y.messages c.if-x-y.false, eq-eqb a.x.owners a.y.owners c.if-x-y-2.false, eq-eqb a.x.stores a.y.stores c.if-x-y-3.false, eq-eqb a.x.boards a.y.boards c.if-x-y-4.false)
