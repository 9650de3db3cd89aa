-- Rows of bytes.
use Rattle.std.specs.Prelude.{ℕ, List, map, length, get_or}
use Rattle.field.specs.Field.{plus, times}
use Rattle.laws.specs.Bytes.{tabulate}
use Rattle.code.specs.Element.{byte_field}
use Rattle.code.specs.Polynomial.{value}

-- one step of Horner's rule: s times the row, plus another
unfoldable pub stepped : List ℕ → ℕ → List ℕ → List ℕ
stepped row s more = tabulate (length row) (λ j. plus (get_or more j 0) (times s (get_or row j 0)))

-- byte j of the value of rows at s, the first row that of power 0
unfoldable pub value_at : List (List ℕ) → ℕ → ℕ → ℕ
value_at rows s j = value byte_field (map (λ row. get_or row j 0) rows) s

-- the row, plus c times x
unfoldable pub added : List ℕ → ℕ → List ℕ → List ℕ
added row c x = tabulate (length row) (λ j. plus (get_or row j 0) (times c (get_or x j 0)))

-- a row of zeros
unfoldable pub zeros : ℕ → List ℕ
zeros e = tabulate e (λ j. 0)
