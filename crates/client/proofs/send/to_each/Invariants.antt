use Rattle.std.proofs.Common.{◌≡◌, ◌*◌, ◌++◌, drop}
use Rattle.protocol.specs.Number.{to_each}
use Rattle.client.specs.Send.{records_of}
use Rattle.client.specs.inner.Send.{message_to}
use Rattle.client.proofs.send.to_each.Given as goal

-- the servers 1 to i have their records
abbrev pub invariant-loop-i : goal.invariant-loop-i
invariant-loop-i l = l.sends ≡ records_of l.cfg (to_each l.i (message_to l.cfg l.b l.board)) ++ drop (80 * l.i) l.initial.sends
