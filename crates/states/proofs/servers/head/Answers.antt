use Rattle.states.specs.Servers.{head_row}
use Rattle.states.proofs.servers.head.Goals as goal

pub returns : goal.returns
unfolding head_row
returns c = rw (c.number.ensures, c.floor_flag.ensures)
