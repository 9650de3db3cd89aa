use Prim.Native.Nat.{ℕ}
use mathlib.Core.Path.{◌≡◌}
use mathlib.Core.List.{List}
use lib.ListN.{length}
use Rattle.config.specs.declared.Config.{Config}
use Rattle.parties.specs.declared.Node.{Node}
use Rattle.rig.specs.inner.Fresh.{FreshServers}
use Rattle.rig.proofs.fresh.servers.Given as goal

-- the servers of the places below i are fresh
pub record Now (cfg : Config) (start stores₀ stores : List ℕ) (nodes : List Node) (i : ℕ) : Type 0 where
  pub fresh : FreshServers cfg start i nodes stores
  pub places : length nodes ≡ 16
  pub same : length stores ≡ length stores₀

abbrev pub invariant-loop-i : goal.invariant-loop-i
invariant-loop-i l = Now l.cfg l.start l.initial.stores l.stores l.nodes l.i
