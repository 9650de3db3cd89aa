-- Sets of servers as the code keeps them: the bits of a number, bit s for server s.
use Rattle.std.specs.Prelude.{ℕ, ◌+◌, ◌/◌, ◌%◌, ◌^◌, Bool, cond, ◌&&◌, eqb, ltb}
use Rattle.std.proofs.Math.Option.{Option, none, some}

-- server s is in the set
unfoldable pub member : ℕ → ℕ → Bool
member set s = eqb (set / 2 ^ s % 2) 1

-- what each server of the set sent
unfoldable pub sent_by : {A : Type 0} → (ℕ → A) → ℕ → ℕ → Option A
sent_by f sent s = cond (member sent s) (some (f s)) none

-- every server of the set is one of 1 to n: neither bit 0 nor a bit past n is set
abbrev pub within_servers : ℕ → ℕ → Bool
within_servers n set = eqb (set % 2) 0 && ltb set (2 ^ (n + 1))
