-- A client's state in rows of 8 bytes. Assumes nothing.
use mathlib.Core.Path.{◌≡◌, refl}
use mathlib.Core.List.{List, ◌++◌}
use Prim.Native.Nat.{ℕ, zero, suc}
use lib.ListN.{length}
use Rattle.laws.specs.Bytes.{joined, tabulate}
use Rattle.record.specs.Record.{four_bytes, two_bytes}
use Rattle.client.specs.declared.State.{State}
use Rattle.states.specs.declared.clients.Numbers.{Numbers}
use Rattle.states.specs.Bytes.{tag_row}
use Rattle.states.specs.Clients.{head_row, kept_length, packed_with}
use Rattle.states.specs.inner.Clients.{lengths_row, row_at}
use Rattle.states.proofs.Bytes.{tag_wide}
use Rattle.states.proofs.Rows.{parts_long}

module _ (x : State) (n : Numbers) where
  -- each row has 8 bytes
  pub row_wide : (i : ℕ) → length (row_at x n i) ≡ 8
  unfolding row_at head_row lengths_row four_bytes two_bytes
  row_wide zero = refl
  row_wide (suc zero) = tag_wide n.tag (kept_length x n)
  row_wide (suc (suc zero)) = refl
  row_wide (suc (suc (suc i))) = refl

  -- what stands before the lengths sent
  abbrev pub first : List ℕ
  first = head_row x n ++ tag_row n.tag (kept_length x n) ++ (four_bytes n.counted ++ four_bytes n.sent)

  pub first_long : length first ≡ 24
  unfolding head_row tag_row four_bytes two_bytes
  first_long = refl

  -- the bytes are the rows
  pub packed_rows : joined (tabulate 7 (row_at x n)) ≡ packed_with x n
  unfolding packed_with joined tabulate row_at lengths_row head_row tag_row four_bytes two_bytes
  packed_rows = refl

  pub packed_long : length (packed_with x n) ≡ 56
  packed_long = rw (← packed_rows) (parts_long 8 7 (row_at x n) row_wide)
