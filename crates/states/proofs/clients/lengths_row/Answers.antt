use Rattle.record.specs.Record.{two_bytes}
use Rattle.states.specs.inner.Clients.{lengths_row}
use Rattle.states.proofs.clients.lengths_row.Goals as goal

pub returns : goal.returns
unfolding lengths_row two_bytes
returns c =
    rw (
      c.two_bytes-a.ensures,
      c.two_bytes-b.ensures,
      c.two_bytes-c.ensures,
      c.two_bytes-d.ensures,
      c.length_sent.ensures,
      c.length_sent-2.ensures,
      c.length_sent-3.ensures,
      c.length_sent-4.ensures,
    )
