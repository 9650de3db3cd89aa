-- `stream::blocks` meets its contract. Assumes nothing.
use Rattle.std.proofs.Common.{◌≤◌, length}
use Rattle.events.specs.View.{lent}
use Rattle.stream.specs.inner.Went.{Went}
use Rattle.stream.proofs.blocks.Given as goal

-- the events so far
abbrev pub invariant-loop : goal.invariant-loop
invariant-loop l = record {
  went : Went l.cfg l.m l.initial.rig (lent l.initial.messages l.initial.stores l.initial.boards l.initial.elements) l.count l.rig (lent l.messages l.stores l.boards l.elements);
  within : l.end ≤ length l.input;
}
