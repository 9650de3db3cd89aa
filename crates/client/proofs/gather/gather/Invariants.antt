use Rattle.std.proofs.Common.{◌≡◌, ℕ, ◌-◌, ◌≤◌, List, length}
use Rattle.config.specs.declared.Config.{Config}
use Rattle.client.specs.inner.Gather.{GatherPost, lowest}
use Rattle.client.proofs.gather.gather.Given as goal

-- the servers 1 to s are done
pub record Now (cfg : Config) (sent : ℕ) (es numbers₀ packed₀ numbers packed : List ℕ) (found s : ℕ) : Type 0 where
  pub done : GatherPost cfg (lowest cfg es sent s) numbers₀ numbers packed₀ packed found
  pub high : s ≤ cfg.n
  pub same_numbers : length numbers ≡ length numbers₀
  pub same-packed : length packed ≡ length packed₀

-- those before s are
abbrev pub invariant-loop-s : goal.invariant-loop-s
invariant-loop-s l =
    Now l.cfg l.sent l.elements l.initial.numbers l.initial.packed l.numbers l.packed l.found (l.s - 1)
