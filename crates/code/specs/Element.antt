-- The elements of a board: document 01, "Field and code".
use Rattle.std.specs.Prelude.{ℕ, ◌+◌, ◌*◌, List, get_or}
use Rattle.config.specs.declared.Config.{Config}
use Rattle.field.specs.Field.{plus, times, power, inverse_of}
use Rattle.laws.specs.Bytes.{tabulate}
use Rattle.code.specs.Polynomial.{Operations, sum}

-- the field's operations, on numbers: a field element is a byte
abbrev pub byte_field : Operations ℕ
byte_field = record { nought = 0; unit = 1; add = plus; mul = times; inverse = inverse_of }

-- "Byte j of element s is the sum over i from 0 to k−1 of board byte i × E + j times s to the power i; s is the server number,
-- and power 0 is 1."
unfoldable pub element_byte : Config → List ℕ → ℕ → ℕ → ℕ
element_byte cfg board s j = sum byte_field cfg.k (λ i. times (get_or board (i * cfg.e + j) 0) (power s i))

-- the E bytes of element s
unfoldable pub element : Config → List ℕ → ℕ → List ℕ
element cfg board s = tabulate cfg.e (element_byte cfg board s)
