-- `stream::several::records` meets its contract: each turn takes one record. Assumes nothing.
use Rattle.std.proofs.Common.{arith}
use Rattle.lines.proofs.Saying.{record_there, used_within}
use Rattle.stream.proofs.several.records.Goals as goal

pub overflow_add-taken : goal.overflow_add-taken
overflow_add-taken c = omega (arith, record_there c.event-said.ensures c.if-said-used.false, c.event_length-size.ensures, c.well_formed.1.1.1.1.0.0)

pub loop-taken-smaller : goal.loop-taken-smaller
loop-taken-smaller c = omega (arith, record_there c.event-said.ensures c.if-said-used.false, c.event_length-size.ensures)

pub loop-taken-preserved : goal.loop-taken-preserved
loop-taken-preserved c =
    let l = c.loop-taken in
    let e = c.event-said in (
      omega (arith, record_there e.ensures c.if-said-used.false, c.event_length-size.ensures),
      omega (arith, used_within e.ensures l.invariant.1, e.auto.output),
    )
