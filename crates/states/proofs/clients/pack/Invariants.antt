use Rattle.states.specs.inner.Clients.{row_at}
use Rattle.states.proofs.Rows.{Rows}
use Rattle.states.proofs.clients.pack.Given as goal

abbrev pub invariant-loop-i : goal.invariant-loop-i
invariant-loop-i l = Rows (row_at l.state l.x) 56 l.i l.out
