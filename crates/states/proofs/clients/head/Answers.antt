use Rattle.record.specs.Record.{four_bytes}
use Rattle.states.specs.Clients.{head_row}
use Rattle.states.proofs.clients.head.Goals as goal

pub returns : goal.returns
unfolding head_row four_bytes
returns c = rw (c.number.ensures, c.four_bytes-o.ensures, c.flag-flag.ensures)
