use borrow.Author.Tests.{le-leb, lt-leb}
use Rattle.boards.proofs.named.removes.Goals as goal

pub returns-then-code-lt3 : goal.returns-then-code-lt3
returns-then-code-lt3 c = let code = c.args.code in rw (lt-leb 3 code c.if-code-lt3.true)

pub returns : goal.returns
returns c = let code = c.args.code in rw (le-leb 3 code c.if-code-lt3.false)
