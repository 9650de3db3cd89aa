-- `lines::several::can_say` meets its contract. Assumes nothing.
use Rattle.std.proofs.Common.{◌≡◌, ◌+◌, ◌*◌, Bool, true, false, ◌&&◌, leb, refl, arith, rules, le-leb}
use borrow.Author.Tests.{lt-leb}
use Rattle.lines.proofs.several.can_say.Goals as goal

and-false : (b : Bool) → false ≡ (b && false)
and-false true = refl
and-false false = refl

pub returns-then-long-at : goal.returns-then-long-at
returns-then-long-at c =
    let a = c.args in
    rw (lt-leb (a.at + (7 + a.v)) a.long (omega (arith, c.if-long-at.true)))

pub returns-then-most-used : goal.returns-then-most-used
returns-then-most-used c =
    let a = c.args in
    rw (lt-leb (a.used + (84 + 2 * a.v)) a.most (omega (arith, c.if-most-used.true))) (and-false (leb (a.at + (7 + a.v)) a.long))

pub returns-then-long-at-2 : goal.returns-then-long-at-2
returns-then-long-at-2 c =
    let a = c.args in
    rw (lt-leb (a.at + (7 + a.v)) a.long (omega (arith, c.if-long-at-2.true)))

pub returns-then-most-used-2 : goal.returns-then-most-used-2
returns-then-most-used-2 c =
    let a = c.args in
    rw (lt-leb (a.used + (84 + 2 * a.v)) a.most (omega (arith, c.if-most-used-2.true))) (and-false (leb (a.at + (7 + a.v)) a.long))

pub returns : goal.returns
returns c =
    let a = c.args in
    rw (
      le-leb (a.at + (7 + a.v)) a.long (omega (arith, c.if-long-at-2.false, c.if-long-at.false)),
      le-leb (a.used + (84 + 2 * a.v)) a.most (omega (arith, c.if-most-used-2.false, c.if-most-used.false)),
    )
