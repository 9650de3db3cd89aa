-- Document 02, L3: figures of the load. `proofs/Load.antt` proves them.
use Rattle.std.specs.Prelude.{ℕ, ◌≡◌, List, [], ◌∷◌, ◌++◌}
use Rattle.draws.specs.Draws.{default_seed, draw}
use Rattle.maker.specs.Load.{made}

-- the record of an event that hands a message over, loses or doubles it, or begins a read
abbrev pub plain : ℕ → ℕ → ℕ → List ℕ
plain code party position = code ∷ party ∷ position ∷ 0 ∷ 0 ∷ 0 ∷ 0 ∷ []

pub record Load : Type 0 where
  -- "From seed 1 the first draw is 270,369.", and those after it
  pub draw_1 : draw 1 ≡ 270369
  pub draw_2 : draw 270369 ≡ 67634689
  pub draw_3 : draw 67634689 ≡ 2647435461
  pub draw_4 : draw 2647435461 ≡ 307599695
  -- from "2,463,534,242 when none is given"
  pub default_1 : draw default_seed ≡ 723471715
  pub default_2 : draw 723471715 ≡ 2497366906
  pub default_3 : draw 2497366906 ≡ 2064144800
  -- the first records of each
  pub records_1 : made 6 1 ≡ plain 5 0 0 ++ plain 2 2 0 ++ plain 4 0 1 ++ plain 3 0 0 ++ plain 5 0 0 ++ plain 5 0 2
  pub records_default : made 4 default_seed ≡ (1 ∷ 1 ∷ 0 ∷ 0 ∷ 160 ∷ 1 ∷ 0 ∷ []) ++ plain 3 0 2 ++ plain 3 0 1 ++ plain 2 2 0
