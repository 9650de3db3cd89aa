use mathlib.Core.List.{List}
use Prim.Native.Nat.{ℕ, ◌+◌, ◌*◌}
use Rattle.states.specs.Bytes.{length_from}
use Rattle.states.proofs.Rows.{Begun}
use Rattle.states.proofs.clients.told.Given as goal

-- the length at place i
abbrev pub length_of : List ℕ → ℕ → ℕ
length_of bs i = length_from bs (24 + 2 * i)

abbrev pub invariant-loop-i : goal.invariant-loop-i
invariant-loop-i l = Begun (length_of l.bytes) 16 l.i l.length-items
