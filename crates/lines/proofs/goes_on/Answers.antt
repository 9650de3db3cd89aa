-- `lines::goes_on` meets its contract. Assumes nothing.
use Rattle.std.proofs.Common.{rules, le-leb}
use borrow.Author.Tests.{lt-leb}
use Rattle.lines.proofs.goes_on.Goals as goal

pub returns-then-size-long : goal.returns-then-size-long
returns-then-size-long c = rw (le-leb _ _ c.if-size-long.true)

pub returns-else-size-long : goal.returns-else-size-long
returns-else-size-long c = rw (lt-leb _ _ c.if-size-long.false)
