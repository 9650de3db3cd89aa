-- `stream::several::blocks` is safe. Assumes nothing.
use Rattle.std.proofs.Common.{◌≤◌, length}
use Rattle.stream.proofs.several.blocks.Given as goal

abbrev pub invariant-loop : goal.invariant-loop
invariant-loop l = l.end ≤ length l.input
