-- The boards of records: each record's stands beside it, in a lent buffer of its own, and so many are in use.
use Rattle.std.specs.Prelude.{ℕ, ◌-◌, ◌≤◌, ◌<◌, ◌≡◌, List, ◌++◌, length, take, drop, replicate}
use Rattle.laws.specs.Lists.{without}

-- Removing, of n owners, that at place i: those behind it have moved up by one, and the last of the n places is no longer in use. Where there is none,
-- all is as it was.
pub record RemovedPost (n i : ℕ) (owners after : List ℕ) : Type 0 where
  pub long : length after ≡ length owners
  pub left : i < n → n ≤ length owners → take (n - 1) after ≡ without i (take n owners)
  pub behind : drop n after ≡ drop n owners
  pub same : (i < n → n ≤ length owners → ⊥) → after ≡ owners

-- Filling, behind the first `low` owners, up to `high`: these have one board. Where there is no room, all is as it was.
pub record FilledPost (low high board : ℕ) (owners after : List ℕ) : Type 0 where
  pub long : length after ≡ length owners
  pub filled : low ≤ high → high ≤ length owners → take high after ≡ take low owners ++ replicate (high - low) board
  pub behind : drop high after ≡ drop high owners
  pub same : (low ≤ high → high ≤ length owners → ⊥) → after ≡ owners
