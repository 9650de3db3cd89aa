-- Sets of servers: a set has at most n members, two sets that together have more than n share the rest, and a set that is
-- not empty has a member. Assumes nothing.
use mathlib.Core.Path.{◌≡◌, refl}
use mathlib.Core.Bool.{Bool, true, false, cond, ◌&&◌}
use Prim.Native.Nat.{ℕ, zero, suc, ◌+◌, ◌≤◌}
use native.Mathlib.Omega.{arith}
use Rattle.laws.specs.Servers.{count, shared}

one_le : (b : Bool) → cond b 1 0 ≤ 1
one_le true = omega arith
one_le false = omega arith

one_both : (a b : Bool) → cond a 1 0 + cond b 1 0 ≤ 1 + cond (a && b) 1 0
one_both true true = omega arith
one_both true false = omega arith
one_both false true = omega arith
one_both false false = omega arith

pub count_le : (f : ℕ → Bool) (n : ℕ) → count f n ≤ n
unfolding count
count_le f zero = omega arith
count_le f (suc n) = omega (arith, count_le f n, one_le (f (suc n)))

-- two sets: what they have together is at most the n servers and what they share
pub count_both : (f g : ℕ → Bool) (n : ℕ) → count f n + count g n ≤ n + count (shared f g) n
unfolding count
count_both f g zero = omega arith
count_both f g (suc n) = omega (arith, count_both f g n, one_both (f (suc n)) (g (suc n)))

-- a set that is not empty has a member
pub count_member : (f : ℕ → Bool) (n : ℕ) → 1 ≤ count f n → (s : ℕ) × (f s ≡ true)
unfolding count
count_member f zero h = absurd (omega arith)
count_member f (suc n) h = go (f (suc n)) refl (count_member f n)
  where
    go : (b : Bool) → f (suc n) ≡ b → (1 ≤ count f n → (s : ℕ) × (f s ≡ true)) → (s : ℕ) × (f s ≡ true)
    go true e below = (suc n, e)
    go false e below = below (omega (arith, rw e at h))
