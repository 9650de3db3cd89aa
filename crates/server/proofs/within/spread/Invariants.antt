use Rattle.std.proofs.Common.{take}
use mathlib.Core.Option.{none}
use Rattle.server.proofs.Spots.{Seen}
use Rattle.server.proofs.within.spread.Given as goal

-- the tags so far are seen
abbrev pub invariant-loop-t : goal.invariant-loop-t
invariant-loop-t l = Seen l.clients none l.seen (take l.t-index l.t-items)
