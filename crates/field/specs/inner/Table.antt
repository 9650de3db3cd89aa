-- What the table of logarithms holds. Assumes nothing.
use Rattle.std.specs.Prelude.{◌≡◌, ℕ, ◌<◌}
use Rattle.field.specs.Field.{power}

-- i is the exponent, below 255, of a as a power of 2; 0 is no power of 2
pub record LogarithmPost (a i : ℕ) : Type 0 where
  pub small : i < 255
  pub exponent : (a ≡ 0 → ⊥) → power 2 i ≡ a
