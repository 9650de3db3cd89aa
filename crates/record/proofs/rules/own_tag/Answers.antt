use borrow.Author.Tests.{le-leb, lt-leb}
use Rattle.record.proofs.rules.own_tag.Goals as goal

pub returns-then-kind-lt3 : goal.returns-then-kind-lt3
returns-then-kind-lt3 c = let a = c.args in rw (lt-leb 3 a.kind c.if-kind-lt3.true)

pub returns-then-kind-gt6 : goal.returns-then-kind-gt6
returns-then-kind-gt6 c = let a = c.args in rw (le-leb 3 a.kind c.if-kind-lt3.false, lt-leb a.kind 6 c.if-kind-gt6.true)

pub returns : goal.returns
returns c =
    let a = c.args in
    rw (le-leb 3 a.kind c.if-kind-lt3.false, le-leb a.kind 6 c.if-kind-gt6.false)
