-- A table of the multiples of an element: four times four rows of 64 bytes, of which the element takes its length. Row v of four d
-- is of the number v times 4 to the power d, so that four rows, one of each four, make up any byte's multiple.
use Rattle.std.specs.Prelude.{ℕ, ◌+◌, ◌*◌, ◌/◌, ◌%◌, ◌^◌, ◌<◌, ◌≤◌, ◌≡◌, List, [], length, get_or}
use Rattle.field.specs.Field.{plus, times}
use Rattle.laws.specs.Bytes.{tabulate}

-- where byte j of row v of four d stands
abbrev pub place : ℕ → ℕ → ℕ → ℕ
place d v j = 256 * d + 64 * v + j

-- the table has its length, and the rows of the number 0 are clear
pub record Ready (table : List ℕ) : Type 0 where
  pub size : length table ≡ 1024
  pub clear : (d j : ℕ) → d < 4 → j < 64 → get_or table (place d 0 j) 0 ≡ 0

-- byte j of each row is that of the multiples of x, and the others are as they were
pub record PlacePost (before : List ℕ) (j x : ℕ) (after : List ℕ) : Type 0 where
  pub ready : Ready after
  pub here : (d v : ℕ) → d < 4 → v < 4 → get_or after (place d v j) 0 ≡ times (v * 4 ^ d) x
  pub there : (d v i : ℕ) → i < 64 → (i ≡ j → ⊥) → get_or after (place d v i) 0 ≡ get_or before (place d v i) 0

-- the first e bytes of the rows are those of the multiples of x
abbrev pub Rows : ℕ → List ℕ → List ℕ → Type 0
Rows e x table = (d v j : ℕ) → d < 4 → v < 4 → j < e → get_or table (place d v j) 0 ≡ times (v * 4 ^ d) (get_or x j 0)

-- the table has the multiples of x
pub record MultiplyPost (x table : List ℕ) : Type 0 where
  pub ready : Ready table
  pub rows : Rows (length x) x table

-- there are k rows of the length of x, and a table; column r is one of the 16
pub record SpreadPre (k r : ℕ) (x table board : List ℕ) : Type 0 where
  pub k_high : k ≤ 16
  pub r_high : r < 16
  pub e_low : 1 ≤ length x
  pub e_high : length x ≤ 64
  pub ready : Ready table
  pub size : length board ≡ k * length x

-- to each row of the board is added its coefficient of column r times x
unfoldable pub spread : List (List ℕ) → ℕ → List ℕ → List ℕ → List ℕ
spread rows r x board =
    tabulate (length board) (λ m. plus (get_or board m 0) (times (get_or (get_or rows (m / length x) []) r 0) (get_or x (m % length x) 0)))

-- after it the table serves for another
pub record SpreadPost (rows : List (List ℕ)) (r : ℕ) (x before after table : List ℕ) : Type 0 where
  pub board : after ≡ spread rows r x before
  pub ready : Ready table
