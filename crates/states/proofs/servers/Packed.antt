-- A server's state in rows of 8 bytes. Assumes nothing.
use mathlib.Core.Path.{◌≡◌, refl, ap, ◌∙◌}
use mathlib.Core.Bool.{Bool, true, false, cond}
use mathlib.Core.List.{List, ◌++◌}
use Prim.Native.Nat.{ℕ, zero, suc, ◌+◌}
use lib.Dec.{leb}
use lib.ListN.{length, length-append}
use Rattle.tag.specs.declared.Tag.{Tag}
use Rattle.laws.specs.Bytes.{joined, tabulate}
use Rattle.record.specs.Record.{four_bytes, two_bytes}
use Rattle.std.proofs.Common.{Option, None, Some}
use Rattle.server.specs.declared.State.{State}
use Rattle.server.specs.View.{stored_length, tag_at}
use Rattle.states.specs.Bytes.{empty_row, tag_row}
use Rattle.states.specs.Servers.{floor_row, head_row, packed, stored_row}
use Rattle.states.specs.inner.Servers.{row_at}
use Rattle.states.proofs.Bytes.{tag_wide}
use Rattle.states.proofs.Rows.{parts_long}

-- each row has 8 bytes
floor_wide : (f : Option Tag) → length (floor_row f) ≡ 8
unfolding floor_row
floor_wide None = refl
floor_wide (Some t) = tag_wide t 0

pub stored_wide : (s : State) (i : ℕ) → length (stored_row s i) ≡ 8
unfolding stored_row
stored_wide s i = go (leb s.count i)
  where
    go : (b : Bool) → length (cond b empty_row (tag_row (tag_at s.tags i) (stored_length s.lengths i))) ≡ 8
    go true = refl
    go false = tag_wide (tag_at s.tags i) (stored_length s.lengths i)

pub row_wide : (s : State) (i : ℕ) → length (row_at s i) ≡ 8
unfolding row_at head_row
row_wide s zero = refl
row_wide s (suc zero) = tag_wide s.highest 0
row_wide s (suc (suc zero)) = floor_wide s.floor
row_wide s (suc (suc (suc i))) = stored_wide s i

-- what stands before the stored tags
abbrev pub first : State → List ℕ
first s = head_row s ++ tag_row s.highest 0 ++ floor_row s.floor

pub first_long : (s : State) → length (first s) ≡ 24
unfolding head_row tag_row four_bytes two_bytes
first_long s =
    length-append (head_row s ++ tag_row s.highest 0) (floor_row s.floor) ∙ ap (λ (n : ℕ). 16 + n) (floor_wide s.floor)

-- the bytes are the rows
pub packed_rows : (s : State) → joined (tabulate 11 (row_at s)) ≡ packed s
unfolding packed joined tabulate row_at head_row tag_row four_bytes two_bytes
packed_rows s = refl

pub packed_long : (s : State) → length (packed s) ≡ 88
packed_long s = rw (← packed_rows s) (parts_long 8 11 (row_at s) (row_wide s))
