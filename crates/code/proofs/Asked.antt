-- Tests that are joined, and how long a board is.
use Prim.Native.Nat.{ℕ, ◌*◌, ◌≤◌}
use mathlib.Core.Path.{◌≡◌, refl}
use mathlib.Core.Bool.{Bool, true, false, ◌&&◌}
use native.Mathlib.Omega.{arith}
use native.Mathlib.Nat.{mul-le-mul, le_trans}
use Rattle.config.specs.declared.Config.{Config}
use Rattle.config.specs.Config.{board_length, Valid}

-- a conjunction fails by either part
pub left_no : (a b : Bool) → a ≡ false → (a && b) ≡ false
left_no true b h = cc
left_no false b h = refl

pub right_no : (a b : Bool) → b ≡ false → (a && b) ≡ false
right_no true b h = h
right_no false b h = refl

pub both_yes : (a b : Bool) → a ≡ true → b ≡ true → (a && b) ≡ true
both_yes true b h l = l
both_yes false b h l = h

-- at most 16 rows have at most 1,024 bytes
pub rows_small : {k e : ℕ} → k ≤ 16 → e ≤ 64 → k * e ≤ 1024
rows_small h l = omega (arith, mul-le-mul h l)

-- a valid configuration's board is such
pub board_small : (cfg : Config) → Valid cfg → board_length cfg ≤ 1024
board_small cfg v = rows_small (le_trans v.k_high v.n_high) v.e_high
