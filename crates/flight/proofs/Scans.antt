-- What an answer about each of a list says of all its places. Assumes nothing.
use Prim.Native.Nat.{ℕ, ◌<◌}
use mathlib.Core.Path.{◌≡◌, refl, sym}
use mathlib.Core.Bool.{Bool, true, false}
use Rattle.laws.specs.Below.{all_below}
use Rattle.laws.proofs.Below.{below_all, below_no}

pub all_told : (n : ℕ) (f : ℕ → Bool) (r : Bool) → (r ≡ true → (i : ℕ) → i < n → f i ≡ true) → (r ≡ false → (i : ℕ) × (i < n) × (f i ≡ false))
    → r ≡ all_below n f
all_told n f true all some = sym (below_all n f (all refl))
all_told n f false all some = let w = some refl in sym (below_no n f w.0 w.1 w.2)
