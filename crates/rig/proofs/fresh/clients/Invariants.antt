use mathlib.Core.Path.{◌≡◌}
use lib.ListN.{length}
use Rattle.rig.specs.inner.Fresh.{FreshClients}
use Rattle.rig.proofs.fresh.clients.Given as goal

abbrev pub invariant-loop-i : goal.invariant-loop-i
invariant-loop-i l = FreshClients l.i l.states × (length l.states ≡ 16)
