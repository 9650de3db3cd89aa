-- The board of k elements: document 01, "Field and code".
use Rattle.std.specs.Prelude.{ℕ, ◌+◌, ◌*◌, ◌/◌, ◌%◌, Bool, true, ◌&&◌, List, [], ◌∷◌, map, ltb, leb, get_or, take}
use Rattle.config.specs.declared.Config.{Config}
use Rattle.config.specs.Config.{board_length}
use Rattle.code.specs.Element.{byte_field}
use Rattle.laws.specs.Bytes.{tabulate, joined}
use Rattle.code.specs.Polynomial.{interpolated}

-- each number is above the one before, the first above `low`, and none is above n
unfoldable pub rising_above : ℕ → ℕ → List ℕ → Bool
rising_above n low [] = true
rising_above n low (s ∷ ss) = (ltb low s && leb s n) && rising_above n s ss

-- "do server numbers rise strictly within 1 to N?"
abbrev pub rising : ℕ → List ℕ → Bool
rising n servers = rising_above n 0 servers

-- "Decoding reverses the square of powers for the k servers used. It takes server numbers with their elements, strictly rising,
-- and uses the first k." Board byte i × E + j is coefficient i of the polynomial of k coefficients whose value at server r of the
-- first k is byte j of element r; the elements stand one after the other.
unfoldable pub decoded_byte : ℕ → ℕ → List ℕ → List ℕ → ℕ → ℕ → ℕ
decoded_byte k e servers elements i j = interpolated byte_field (take k servers) (λ r. get_or elements (r * e + j) 0) i

-- the V bytes of the board
unfoldable pub decoded : Config → List ℕ → List ℕ → List ℕ
decoded cfg servers elements =
    tabulate (board_length cfg) (λ m. decoded_byte cfg.k cfg.e servers elements (m / cfg.e) (m % cfg.e))

-- the same of server numbers, each with its element
unfoldable pub decoded_pairs : Config → List (ℕ × List ℕ) → List ℕ
decoded_pairs cfg pairs = decoded cfg (map (λ p. p.0) pairs) (joined (map (λ p. p.1) pairs))
