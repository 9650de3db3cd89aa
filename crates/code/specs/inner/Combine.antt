-- Linear combinations of rows, by the digits of their coefficients.
use Rattle.std.specs.Prelude.{ℕ, ◌+◌, ◌*◌, ◌/◌, ◌^◌, ◌<◌, ◌≤◌, ◌≡◌, List, length, get_or}
use Rattle.config.specs.declared.Config.{Config}
use Rattle.config.specs.Config.{board_length, Valid}
use Rattle.field.specs.Field.{plus, times, double, bit}
use Rattle.laws.specs.Bytes.{Bytes, tabulate}
use Rattle.code.specs.Element.{byte_field}
use Rattle.code.specs.Laid.{laid}
use Rattle.code.specs.Polynomial.{sum}
use Rattle.code.specs.declared.combine.Places.{Places}
use Rattle.code.specs.inner.Subsets.{FillPost}

-- ---- the rows that a combination adds

-- of group g of the rows, those whose coefficient has digit b
unfoldable pub choice : (ℕ → ℕ) → ℕ → ℕ → ℕ
choice c b g = bit b (c (4 * g)) + bit b (c (4 * g + 1)) * 2 + bit b (c (4 * g + 2)) * 4 + bit b (c (4 * g + 3)) * 8

-- where the choice of combination t stands, of group g at digit b
abbrev pub choice_at : ℕ → ℕ → ℕ → ℕ
choice_at b g t = 64 * b + 16 * g + t

-- the choices of 16 combinations, of which c t i is the coefficient of row i in combination t
abbrev pub Choices : (ℕ → ℕ → ℕ) → List ℕ → Type 0
Choices c choices = (b g t : ℕ) → b < 8 → g < 4 → t < 16 → get_or choices (choice_at b g t) 0 ≡ choice (c t) b g

-- no choice is above 15
abbrev pub Small : List ℕ → Type 0
Small choices = (i : ℕ) → i < 512 → get_or choices i 0 < 16

-- these are choices of those coefficients
pub record ChoicesOf (c : ℕ → ℕ → ℕ) (choices : List ℕ) : Type 0 where
  pub chosen : Choices c choices
  pub small : Small choices

-- ---- a combination

-- the sum over the first k rows of x, of e bytes each, of row times coefficient
unfoldable pub combination : ℕ → ℕ → List ℕ → (ℕ → ℕ) → List ℕ
combination k e x c = tabulate e (λ j. sum byte_field k (λ i. times (get_or x (i * e + j) 0) (c i)))

-- the first row of a table, the sum of no row
unfoldable pub empty : List ℕ → List ℕ
empty table = tabulate 64 (λ j. get_or table j 0)

-- the row doubled, plus a sum of group 0 and one of group 1
unfoldable pub next : List ℕ → ℕ → ℕ → List ℕ → List ℕ
next row v w table =
    tabulate 64 (λ j. plus (double (get_or row j 0)) (plus (get_or table (64 * v + j) 0) (get_or table (1024 + 64 * w + j) 0)))

-- the row, plus a sum of group 2 and one of group 3
unfoldable pub added : List ℕ → ℕ → ℕ → List ℕ → List ℕ
added row v w table =
    tabulate 64 (λ j. plus (get_or row j 0) (plus (get_or table (2048 + 64 * v + j) 0) (get_or table (3072 + 64 * w + j) 0)))

-- byte j of the row doubled, plus a sum of each group
unfoldable pub last_byte : List ℕ → ℕ → ℕ → ℕ → ℕ → List ℕ → ℕ → ℕ
last_byte row v w y z table j =
    plus (double (get_or row j 0))
    (plus
    (plus
    (plus (get_or table (64 * v + j) 0) (get_or table (1024 + 64 * w + j) 0))
    (get_or table (2048 + 64 * y + j) 0))
    (get_or table (3072 + 64 * z + j) 0))

-- byte j of the sum over 16 rows of row times coefficient without its b last digits
unfoldable pub without_last : ℕ → List ℕ → (ℕ → ℕ) → ℕ → ℕ → ℕ
without_last e x c b j = sum byte_field 16 (λ i. times (get_or x (i * e + j) 0) (c i / 2 ^ b))

-- a table of the sums of the rows of x, which past k are 0, and the choices of combination t, whose coefficients are c
pub record Table (k e t : ℕ) (c : ℕ → ℕ) (x choices table : List ℕ) : Type 0 where
  pub fill : FillPost e x table
  pub chosen : (b g : ℕ) → b < 8 → g < 4 → get_or choices (choice_at b g t) 0 ≡ choice c b g
  pub bytes : Bytes x
  pub coefficients : (i : ℕ) → i < k → c i < 256
  pub none : (i : ℕ) → k * e ≤ i → get_or x i 0 ≡ 0

-- a row is combination t without its b last digits, of whatever rows and coefficients the table and the choices have
unfoldable pub Without : ℕ → ℕ → List ℕ → List ℕ → List ℕ → ℕ → Type 0
Without k t choices table row b = (e : ℕ) (c : ℕ → ℕ) (x : List ℕ) → e ≤ 64 → k ≤ 16 → Table k e t c x choices table
    → (j : ℕ) → j < e → get_or row j 0 ≡ without_last e x c b j

-- the whole of combination t, in a part of e bytes
pub record OnePost (k t : ℕ) (choices table : List ℕ) (e : ℕ) (after : List ℕ) : Type 0 where
  pub size : length after ≡ e
  pub whole : (c : ℕ → ℕ) (x : List ℕ) → k ≤ 16 → Table k e t c x choices table → after ≡ combination k e x c

-- ---- all combinations, each in its place

-- the choices are small, and the places are in the buffer, none of them over another
pub record EachPre (e : ℕ) (choices : List ℕ) (places : Places) (buffer : ℕ) : Type 0 where
  pub width : e ≤ 64
  pub small : Small choices
  pub count_high : places.count ≤ 16
  pub fits : places.offset + e ≤ places.distance
  pub room : places.count * places.distance ≤ buffer

-- the buffer with the combinations of c in their places
abbrev pub InPlaces : ℕ → ℕ → List ℕ → (ℕ → ℕ → ℕ) → Places → List ℕ → List ℕ → Type 0
InPlaces k e x c places before after =
    after ≡ laid (λ t. combination k e x (c t)) e places.offset places.distance places.count before

abbrev pub EachPost : ℕ → ℕ → List ℕ → List ℕ → Places → List ℕ → List ℕ → Type 0
EachPost k e choices table places before after = (c : ℕ → ℕ → ℕ) (x : List ℕ) → k ≤ 16
    → ((t : ℕ) → t < places.count → Table k e t (c t) x choices table) → InPlaces k e x c places before after

-- the rows are those of a board
pub record CombinePre (cfg : Config) (x choices : List ℕ) (places : Places) (buffer : ℕ) : Type 0 where
  pub valid : Valid cfg
  pub rows_length : length x ≡ board_length cfg
  pub each : EachPre cfg.e choices places buffer

abbrev pub CombinePost : Config → List ℕ → List ℕ → Places → List ℕ → List ℕ → Type 0
CombinePost cfg x choices places before after = (c : ℕ → ℕ → ℕ) → Choices c choices
    → ((t i : ℕ) → t < places.count → i < cfg.k → c t i < 256) → InPlaces cfg.k cfg.e x c places before after
