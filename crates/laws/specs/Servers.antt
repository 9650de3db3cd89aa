-- Sets of servers. A set is a test on server numbers; of N servers the members are counted among 1 to N.
use Rattle.std.specs.Prelude.{ℕ, zero, suc, ◌+◌, Bool, cond, ◌&&◌}

-- how many of the servers 1 to n are in the set
unfoldable pub count : (ℕ → Bool) → ℕ → ℕ
count f zero = 0
count f (suc n) = count f n + cond (f (suc n)) 1 0

-- the servers that are in both sets
abbrev pub shared : (ℕ → Bool) → (ℕ → Bool) → ℕ → Bool
shared f g s = f s && g s
