use Rattle.std.proofs.Common.{take}
use Rattle.server.proofs.Spots.{SeenOver}
use Rattle.server.proofs.within.risen.Given as goal

-- the tags so far are seen
abbrev pub invariant-loop-t : goal.invariant-loop-t
invariant-loop-t l = SeenOver l.clients l.low l.seen (take l.t-index l.t-items)
