use borrow.Author.Tests.{le-leb, lt-leb}
use Rattle.states.specs.Servers.{stored_row}
use Rattle.states.proofs.servers.stored_row.Goals as goal

pub returns-then-state-i : goal.returns-then-state-i
unfolding stored_row
returns-then-state-i c = rw (le-leb _ _ c.if-state-i.true)

pub returns : goal.returns
unfolding stored_row
returns c = rw (lt-leb _ _ c.if-state-i.false) c.tag_row.ensures
