use mathlib.Core.Path.{refl, ap₂}
use lib.ListN.{replicate}
use Rattle.client.specs.declared.State as client
use Rattle.parties.specs.declared.Node.{Node}
use Rattle.config.proofs.Valid.{least_valid}
use Rattle.rig.proofs.Making.{least_node}
use Rattle.rig.proofs.fresh.least.Goals as goal

pub client-state-requires : goal.client-state-requires
client-state-requires c = (least_valid, refl)

pub returns : goal.returns
returns c =
    ap₂ (λ (s : Node) (z : client.State). record { servers = replicate 16 s; clients = replicate 16 z; count = 0 })
    (least_node refl c.server-made.ensures) c.client-state.ensures
