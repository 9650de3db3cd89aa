-- A row of an outcome, for the private function that makes it: it tells its tag and its length.
use Rattle.std.specs.Prelude.{ℕ, ◌≡◌, List}
use Rattle.tag.specs.declared.Tag.{Tag}
use Rattle.states.specs.Bytes.{length_from, tag_from}
use Rattle.host.specs.Outcome.{outcome_row}

pub record RowPost (how sent length : ℕ) (t : Tag) (out : List ℕ) : Type 0 where
  pub bytes : out ≡ outcome_row how sent length t
  pub of_tag : tag_from out 4 ≡ t
  pub of_length : length_from out 2 ≡ length
