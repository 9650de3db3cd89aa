use mathlib.Core.List.{List}
use Prim.Native.Nat.{ℕ, ◌+◌}
use Rattle.tag.specs.declared.Tag.{Tag}
use Rattle.states.specs.Bytes.{length_from, tag_from}
use Rattle.states.specs.Servers.{stored_at}
use Rattle.states.proofs.Rows.{Begun}
use Rattle.states.proofs.servers.told.Given as goal

-- the stored tag at place i, and its length
abbrev pub tag_of : List ℕ → ℕ → Tag
tag_of bs i = tag_from bs (stored_at i)

abbrev pub length_of : List ℕ → ℕ → ℕ
length_of bs i = length_from bs (stored_at i + 5)

abbrev pub invariant-loop-i : goal.invariant-loop-i
invariant-loop-i l = Begun (tag_of l.bytes) 8 l.i l.tags × Begun (length_of l.bytes) 8 l.i l.lengths
