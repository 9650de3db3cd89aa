-- Records that stand one behind the other.
use Rattle.std.specs.Prelude.{ℕ, zero, suc, List, [], ◌∷◌, take, drop}
use Rattle.config.specs.Config.{record_length}

-- the first n of a buffer
unfoldable pub records : ℕ → List ℕ → List (List ℕ)
records zero bytes = []
records (suc n) bytes = take record_length bytes ∷ records n (drop record_length bytes)
