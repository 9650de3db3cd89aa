use mathlib.Core.Path.{◌≡◌}
use Prim.Native.Nat.{◌≤◌}
use lib.ListN.{length}
use Rattle.record.specs.Record.{all_zero}
use Rattle.record.proofs.Bytes.{zero_from}
use Rattle.record.proofs.layout.zero.Given as goal

-- the answer from the start is the answer from here
abbrev pub invariant-loop-byte : goal.invariant-loop-byte
invariant-loop-byte l = (l.byte-index ≤ length l.part) × (all_zero l.part ≡ zero_from l.any l.byte-index l.part)
