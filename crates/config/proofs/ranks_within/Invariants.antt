use mathlib.Core.Path.{◌≡◌}
use mathlib.Core.Bool.{Bool, true}
use Prim.Native.Nat.{ℕ, ◌+◌, ◌≤◌}
use lib.Dec.{leb}
use Rattle.laws.specs.Below.{all_below}
use Rattle.config.specs.declared.Config.{Config}
use Rattle.config.specs.Config.{highest_rank, rank}
use Rattle.config.proofs.ranks_within.Given as goal

-- what is asked of the client of place i
abbrev pub here : Config → ℕ → Bool
here cfg i = leb (rank cfg (i + 1)) highest_rank

abbrev pub invariant-loop-rank : goal.invariant-loop-rank
invariant-loop-rank l = (l.rank-index ≤ l.fn.cfg.c) × (all_below l.rank-index (here l.fn.cfg) ≡ true)
