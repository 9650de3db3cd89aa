use Rattle.std.proofs.Common.{◌<◌, ◌≤◌, arith, le-leb}
use borrow.Author.Tests.{lt-leb}
use Rattle.server.proofs.within.server_within.Goals as goal

pub returns-then-s-eq0 : goal.returns-then-s-eq0
returns-then-s-eq0 c =
    let a = c.args in
    let z : a.me.0 < 1 = omega arith in
    rw (lt-leb 1 a.me.0 z)

pub returns : goal.returns
returns c =
    let a = c.args in
    let z : 1 ≤ a.me.0 = omega arith in
    rw (le-leb 1 a.me.0 z, c.number-s.ensures)
