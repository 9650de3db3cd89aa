use Rattle.record.specs.Record.{four_bytes}
use Rattle.states.proofs.clients.sets.Goals as goal

pub returns : goal.returns
unfolding four_bytes
returns c = rw (c.four_bytes-a.ensures, c.four_bytes-b.ensures)
