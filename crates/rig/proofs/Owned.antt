-- What the type of a rig tells: it has sixteen places for servers, and as many for clients. Assumes nothing.
use mathlib.Core.Path.{◌≡◌}
use mathlib.Core.List.{List}
use lib.ListN.{length}
use mir.Val.{Val}
use denote.Laws.{Is}
use Rattle.client.specs.contracts.State as client
use Rattle.parties.specs.contracts.Node as node
use Rattle.parties.proofs.Owned.{array_length}
use Rattle.events.specs.declared.Rig.{Rig}
use Rattle.events.specs.contracts.Rig as rig

pub server_places : (r : Rig) (vs : List Val) → Is rig.the_row r vs → length r.servers ≡ 16
server_places r vs p = array_length node.the_row 16 r.servers _ p.1.1.0

pub client_places : (r : Rig) (vs : List Val) → Is rig.the_row r vs → length r.clients ≡ 16
client_places r vs p = array_length client.the_row 16 r.clients _ p.1.1.1.0
