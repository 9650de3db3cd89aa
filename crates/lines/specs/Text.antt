-- Text put into a buffer.
use Rattle.std.specs.Prelude.{◌≡◌, ℕ, ◌+◌, ◌≤◌, List, length}
use Rattle.laws.specs.Parts.{over}

-- A text is put into a buffer from a place on, and r is the place after it. All else of the buffer stays.
pub record Appended (out : List ℕ) (at : ℕ) (text out' : List ℕ) (r : ℕ) : Type 0 where
  pub place : r ≡ at + length text
  pub room : r ≤ length out
  pub whole : out' ≡ over at (length text) text out
