use Rattle.states.specs.inner.Servers.{row_at}
use Rattle.states.proofs.Rows.{Rows}
use Rattle.states.proofs.servers.pack.Given as goal

abbrev pub invariant-loop-i : goal.invariant-loop-i
invariant-loop-i l = Rows (row_at l.state) 88 l.i l.out
