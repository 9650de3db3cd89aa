use native.Mathlib.Omega.{arith}
use borrow.Author.Tests.{lt-leb, le-leb}
use Rattle.flight.proofs.owners.is_board.Goals as goal

pub returns-then-board-eq0 : goal.returns-then-board-eq0
returns-then-board-eq0 c = let a = c.args in rw (lt-leb 1 a.board (omega (arith, c.if-board-eq0.true)))

pub returns : goal.returns
returns c = let a = c.args in rw (le-leb 1 a.board (omega (arith, c.if-board-eq0.false)))
