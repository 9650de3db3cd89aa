-- What the boards lack to their shares. Assumes nothing.
use Prim.Native.Nat.{ℕ, ◌+◌, ◌-◌, ◌≤◌, ◌<◌}
use mathlib.Core.Path.{◌≡◌, refl, ap}
use mathlib.Core.Bool.{Bool, true, false}
use mathlib.Core.List.{List}
use native.Mathlib.Omega.{arith}
use native.Mathlib.Nat.{add-sub_cancel}
use borrow.Author.Tests.{eq-eqb, ne_eqb}
use lib.Dec.{eqb}
use lib.ListN.{get_or}
use Rattle.laws.specs.Below.{sum_below}
use Rattle.laws.specs.Owners.{count_of}
use Rattle.laws.proofs.Below.{sum_grows, sum_le, sum_next}
use Rattle.config.specs.declared.Room.{Room}
use Rattle.config.specs.Room.{kept_free, lacking, share_of, shares_sum}

module _ (room : Room) (b : ℕ) (os : List ℕ) where
  -- the board in place i
  pub lacks_own : (i : ℕ) → i + 1 ≡ b → 0 ≡ lacking room b os i
  lacks_own i e = rw (eq-eqb (i + 1) b e)

  pub lacks_other : (i has : ℕ) → (i + 1 ≡ b → ⊥) → has ≡ count_of (i + 1) os → get_or room.shares i 0 - has ≡ lacking room b os i
  lacks_other i has ne e =
      rw (ne_eqb (i + 1) b ne) (omega (arith, e, ap (λ (k : ℕ). get_or room.shares k 0) (add-sub_cancel i 1)))

  -- it is no more than the share
  lacks_most : (i : ℕ) → lacking room b os i ≤ share_of room (i + 1)
  lacks_most i = told (eqb (i + 1) b) refl
    where
      told : (t : Bool) → eqb (i + 1) b ≡ t → lacking room b os i ≤ share_of room (i + 1)
      told true e = rw e (omega arith)
      told false e = rw e (omega arith)

  pub kept_most : kept_free room b os ≤ shares_sum room
  unfolding kept_free shares_sum
  kept_most = sum_le room.boards (lacking room b os) (λ i. share_of room (i + 1)) (λ i l. lacks_most i)

  -- the boards before a place, and the one in it
  pub kept_part : (i : ℕ) → i < room.boards → sum_below i (lacking room b os) + lacking room b os i ≤ shares_sum room
  unfolding kept_free
  kept_part i l =
      omega (arith, sum_next i (lacking room b os), sum_grows (i + 1) room.boards (lacking room b os) (omega (arith, l)), kept_most)
