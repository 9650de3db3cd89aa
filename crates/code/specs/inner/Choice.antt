-- The choices of combinations, computed in 16 lanes: lane t is of combination t.
use Rattle.std.specs.Prelude.{ℕ, ◌+◌, ◌*◌, ◌/◌, ◌%◌, ◌<◌, ◌≡◌, List, [], length, get_or}
use Rattle.laws.specs.Bytes.{tabulate}
use Rattle.code.specs.inner.Combine.{choice, choice_at}

-- the coefficients that a square has: in its row t those of combination t
abbrev pub square_of : List (List ℕ) → ℕ → ℕ → ℕ
square_of square t i = get_or (get_or square t []) i 0

-- column r of a square
unfoldable pub column : List (List ℕ) → ℕ → List ℕ
column square r = tabulate 16 (λ t. square_of square t r)

-- each lane without its last digit
unfoldable pub halved : List ℕ → List ℕ
halved a = tabulate 16 (λ t. get_or a t 0 / 2)

-- in each lane the choice that the last digits of four make
unfoldable pub chosen_lanes : List ℕ → List ℕ → List ℕ → List ℕ → List ℕ
chosen_lanes a b c d =
    tabulate 16 (λ t. get_or a t 0 % 2 + get_or b t 0 % 2 * 2 + get_or c t 0 % 2 * 4 + get_or d t 0 % 2 * 8)

-- the choices of group g stand in their places, and the others are as they were
pub record GroupPost (g : ℕ) (c : ℕ → ℕ → ℕ) (before after : List ℕ) : Type 0 where
  pub size : length after ≡ 512
  pub here : (b t : ℕ) → b < 8 → t < 16 → get_or after (choice_at b g t) 0 ≡ choice (c t) b g
  pub there : (b h t : ℕ) → b < 8 → h < 4 → t < 16 → (h ≡ g → ⊥) → get_or after (choice_at b h t) 0 ≡ get_or before (choice_at b h t) 0
