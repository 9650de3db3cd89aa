-- A row of e bytes, as it is lent from rows that stand one after the other.
use Prim.Native.Nat.{ℕ, ◌+◌, ◌*◌, ◌-◌, ◌<◌, ◌≤◌}
use mathlib.Core.Path.{◌≡◌, ◌∙◌}
use mathlib.Core.List.{List}
use native.Mathlib.Omega.{arith}
use lib.ListN.{length, get_or, take, drop}
use lib.Seq.{get_or-take, get_or-drop}
use Rattle.laws.proofs.Parts.{lent_length, part_fits}

-- row i
abbrev pub lent_row : ℕ → List ℕ → ℕ → List ℕ
lent_row e board i = take (i * e + e - i * e) (drop (i * e) board)

pub lent_row_length : (k e i : ℕ) (board : List ℕ) → i < k → k * e ≤ length board → length (lent_row e board i) ≡ e
lent_row_length k e i board h l = lent_length board (i * e) e (omega (arith, part_fits i k e h))

pub lent_row_at : (e i j : ℕ) (board : List ℕ) → j < e → get_or (lent_row e board i) j 0 ≡ get_or board (i * e + j) 0
lent_row_at e i j board h =
    get_or-take (i * e + e - i * e) (drop (i * e) board) j 0 (omega arith) ∙ get_or-drop (i * e) board j 0
