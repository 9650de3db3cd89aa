-- A factor doubled none to seven times, as a product by its doubles takes it.
use Rattle.std.specs.Prelude.{ℕ, ◌≡◌}
use Rattle.field.specs.Field.{double}

pub record ByDoublesPre (c c1 c2 c3 c4 c5 c6 c7 : ℕ) : Type 0 where
  pub one : c1 ≡ double c
  pub two : c2 ≡ double c1
  pub three : c3 ≡ double c2
  pub four : c4 ≡ double c3
  pub five : c5 ≡ double c4
  pub six : c6 ≡ double c5
  pub seven : c7 ≡ double c6
