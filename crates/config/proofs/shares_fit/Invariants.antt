-- The shares of the boards passed are taken from M: with what is left they are M. Assumes nothing.
use mathlib.Core.Path.{◌≡◌}
use Prim.Native.Nat.{ℕ, ◌+◌, ◌≤◌}
use Rattle.laws.specs.Below.{sum_below}
use Rattle.config.specs.declared.Room.{Room}
use Rattle.config.specs.Room.{share_of}
use Rattle.config.proofs.shares_fit.Given as goal

-- the share at place i
abbrev pub here : Room → ℕ → ℕ
here room i = share_of room (i + 1)

abbrev pub invariant-loop-share : goal.invariant-loop-share
invariant-loop-share l = (l.share-index ≤ l.fn.room.boards) × (sum_below l.share-index (here l.fn.room) + l.left ≡ l.fn.room.m)
