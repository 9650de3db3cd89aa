-- What the types of a rig and of a board tell: a rig has eight places for boards, and a board sixteen for servers and as many for clients. Assumes
-- nothing.
use mathlib.Core.Path.{◌≡◌}
use mathlib.Core.List.{List}
use lib.ListN.{length}
use mir.Val.{Val}
use denote.Laws.{Is}
use Rattle.client.specs.contracts.State as client
use Rattle.parties.specs.contracts.Node as node
use Rattle.parties.proofs.Owned.{array_length}
use Rattle.boards.specs.declared.OneBoard.{OneBoard}
use Rattle.boards.specs.declared.Rig.{Rig}
use Rattle.boards.specs.contracts.OneBoard as one
use Rattle.boards.specs.contracts.Rig as rig

pub board_places : (r : Rig) (vs : List Val) → Is rig.the_row r vs → length r.boards ≡ 8
board_places r vs p = array_length one.the_row 8 r.boards _ p.1.1.0

pub server_places : (x : OneBoard) (vs : List Val) → Is one.the_row x vs → length x.servers ≡ 16
server_places x vs p = array_length node.the_row 16 x.servers _ p.1.1.0

pub client_places : (x : OneBoard) (vs : List Val) → Is one.the_row x vs → length x.clients ≡ 16
client_places x vs p = array_length client.the_row 16 x.clients _ p.1.1.1.0
