-- The rows of a board, combined of k elements by the inverse of the square of powers.
use Rattle.std.specs.Prelude.{ℕ, ◌+◌, ◌*◌, ◌/◌, ◌%◌, ◌<◌, ◌≤◌, ◌≡◌, List, get_or}
use Rattle.config.specs.declared.Config.{Config}
use Rattle.config.specs.Config.{board_length, Valid}
use Rattle.field.specs.Field.{times}
use Rattle.laws.specs.Bytes.{tabulate}
use Rattle.code.specs.Polynomial.{sum}
use Rattle.code.specs.Element.{byte_field}
use Rattle.code.specs.inner.Choice.{square_of}

-- the board of k rows that the first r elements make
unfoldable pub combined : ℕ → ℕ → List (List ℕ) → List ℕ → ℕ → List ℕ
combined k e rows elements r =
    tabulate (k * e) (λ m. sum byte_field r (λ t. times (square_of rows (m / e) t) (get_or elements (t * e + m % e) 0)))

-- there are at least k elements, a buffer for the board, and a square whose coefficients are bytes
pub record RowsPre (cfg : Config) (rows : List (List ℕ)) (elements buffer : ℕ) : Type 0 where
  pub valid : Valid cfg
  pub enough : board_length cfg ≤ elements
  pub buffer_length : buffer ≡ board_length cfg
  pub bytes : (t i : ℕ) → t < cfg.k → i < cfg.k → square_of rows t i < 256
