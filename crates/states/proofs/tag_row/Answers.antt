use Rattle.record.specs.Record.{four_bytes, two_bytes}
use Rattle.states.specs.Bytes.{tag_row}
use Rattle.states.proofs.tag_row.Goals as goal

pub returns : goal.returns
unfolding tag_row four_bytes two_bytes
returns c = rw (c.four_bytes-n.ensures, c.two_bytes-l.ensures)
