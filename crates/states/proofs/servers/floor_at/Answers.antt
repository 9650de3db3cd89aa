use borrow.Author.Tests.{eq-eqb, ne_eqb}
use Rattle.states.specs.Servers.{state_of}
use Rattle.states.proofs.servers.floor_at.Goals as goal

pub returns-then-bytes-ne1 : goal.returns-then-bytes-ne1
unfolding state_of
returns-then-bytes-ne1 c = rw (ne_eqb _ 1 c.if-bytes-ne1.true)

pub returns : goal.returns
unfolding state_of
returns c = rw (eq-eqb _ 1 c.if-bytes-ne1.false, c.tag_at.ensures)
