-- The inverse of the square of powers, computed in 16 lanes: lane r is of server r.
use Rattle.std.specs.Prelude.{ℕ, ◌≤◌, ◌<◌, ◌≡◌, List, [], ◌∷◌, length, get_or, take}
use Rattle.field.specs.Field.{plus, times}
use Rattle.code.specs.Element.{byte_field}
use Rattle.laws.specs.Bytes.{tabulate}
use Rattle.code.specs.Polynomial.{roots, lagrange}

-- there are k servers, at most 16, none above 16
pub record InvertPre (k : ℕ) (servers : List ℕ) : Type 0 where
  pub low : 1 ≤ k
  pub high : k ≤ 16
  pub enough : k ≤ length servers
  pub server_high : (r : ℕ) → r < k → get_or servers r 0 ≤ 16

-- no lane is above 31
abbrev pub AdvancePre : List ℕ → Type 0
AdvancePre s = (t : ℕ) → get_or s t 0 < 32

-- in each lane s times x, plus c
unfoldable pub advanced : List ℕ → List ℕ → List ℕ → List ℕ
advanced x s c = tabulate 16 (λ t. plus (get_or c t 0) (times (get_or s t 0) (get_or x t 0)))

-- in each lane d times x
unfoldable pub scaled_lanes : List ℕ → List ℕ → List ℕ
scaled_lanes x d = tabulate 16 (λ t. times (get_or d t 0) (get_or x t 0))

-- the numbers of the first k servers, and 0 in the other lanes
unfoldable pub numbers : ℕ → List ℕ → List ℕ
numbers k servers = tabulate 16 (λ r. get_or (take k servers) r 0)

-- the first 16 coefficients of (x + s) p, of the first 16 of p
unfoldable pub rooted_once : List ℕ → ℕ → List ℕ
rooted_once p s = tabulate 16 (λ i. plus (get_or (0 ∷ p) i 0) (times s (get_or p i 0)))

-- the first 16 coefficients of the product of (x + s) over the first k servers
unfoldable pub first_roots : ℕ → List ℕ → List ℕ
first_roots k servers = tabulate 16 (λ i. get_or (roots byte_field (take k servers)) i 0)

-- row i has coefficient i of Lagrange's polynomials, of server r in lane r
abbrev pub InvertPost : ℕ → List ℕ → List (List ℕ) → Type 0
InvertPost k servers rows = (i r : ℕ) → i < k → r < k
    → get_or (get_or rows i []) r 0 ≡ get_or (lagrange byte_field (take k servers) (get_or servers r 0)) i 0

-- the first k rows, each lane scaled by its own
abbrev pub ScalePost : ℕ → List ℕ → List (List ℕ) → List (List ℕ) → Type 0
ScalePost k d before after = (i t : ℕ) → i < k → t < 16
    → get_or (get_or after i []) t 0 ≡ times (get_or d t 0) (get_or (get_or before i []) t 0)
