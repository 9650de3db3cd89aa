-- A table of sums of rows. Rows come in groups of four; a number below 16 chooses some of a group: digit m of it is 1 where row m is chosen.
use Rattle.std.specs.Prelude.{ℕ, ◌+◌, ◌*◌, ◌/◌, ◌%◌, ◌<◌, ◌≡◌, List, [], ◌∷◌, length, get_or}
use Rattle.field.specs.Field.{plus}

-- the sum of the f m that v chooses, of four
unfoldable pub chosen : ℕ → (ℕ → ℕ) → ℕ
chosen v f = plus (plus (plus (v % 2 * f 0) (v / 2 % 2 * f 1)) (v / 4 % 2 * f 2)) (v / 8 % 2 * f 3)

-- a table of one group has its length, and the sum of no row is clear
pub record Ready (table : List ℕ) : Type 0 where
  pub size : length table ≡ 1024
  pub clear : (j : ℕ) → j < 64 → get_or table j 0 ≡ 0

-- byte j of each row is that of the sums of a, b, c and d, and the others are as they were
pub record PlacePost (before : List ℕ) (j a b c d : ℕ) (after : List ℕ) : Type 0 where
  pub ready : Ready after
  pub here : (v : ℕ) → v < 16 → get_or after (64 * v + j) 0 ≡ chosen v (λ m. get_or (a ∷ b ∷ c ∷ d ∷ []) m 0)
  pub there : (v i : ℕ) → i < 64 → (i ≡ j → ⊥) → get_or after (64 * v + i) 0 ≡ get_or before (64 * v + i) 0

-- the first n bytes of each row are those of the sums of the four rows of x, of e bytes each
abbrev pub Rows : ℕ → ℕ → List ℕ → List ℕ → Type 0
Rows n e x table = (v j : ℕ) → v < 16 → j < n → get_or table (64 * v + j) 0 ≡ chosen v (λ m. get_or x (m * e + j) 0)

-- the table has the sums of the four rows of x
pub record GroupPost (e : ℕ) (x table : List ℕ) : Type 0 where
  pub ready : Ready table
  pub rows : Rows e e x table

-- the table has the sums of 16 rows of e bytes each, which stand one after the other, group by group
pub record FillPost (e : ℕ) (rows table : List ℕ) : Type 0 where
  pub size : length table ≡ 4096
  pub clear : (j : ℕ) → j < 64 → get_or table j 0 ≡ 0
  pub sums : (g v j : ℕ) → g < 4 → v < 16 → j < e
      → get_or table (1024 * g + 64 * v + j) 0 ≡ chosen v (λ m. get_or rows ((4 * g + m) * e + j) 0)
