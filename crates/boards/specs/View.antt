-- A rig of several boards, with the buffers lent to it, seen as the protocol's network. The rig "joins starting boards and its parties' parts board by
-- board"; only what is in use is read.
use Rattle.std.specs.Prelude.{ℕ, ◌-◌, ◌*◌, cond, List, [], take}
use Rattle.std.proofs.Math.Option.{Option, none, some}
use Rattle.std.proofs.Math.ListN.{get_elem?}
use Rattle.laws.specs.Parts.{part}
use Rattle.config.specs.declared.Config.{Config}
use Rattle.config.specs.declared.Room.{Room}
use Rattle.config.specs.Config.{board_length, elements_length, store_length}
use Rattle.config.specs.Questions.{within}
use Rattle.flight.specs.Flight.{records}
use Rattle.protocol.specs.Boards.{BoardNetwork, BoardParties}
use Rattle.protocol.specs.Network.{no_parties}
use Rattle.events.specs.declared.Rig as one
use Rattle.events.specs.View as oneView
use Rattle.events.specs.View.{messages_of, parties_of}
use Rattle.boards.specs.declared.OneBoard.{OneBoard}
use Rattle.boards.specs.declared.Rig.{Rig}

-- the buffers lent to a rig, as they are between calls
pub record Lent : Type 0 where
  -- the messages in flight, 80 × M
  pub messages : List ℕ
  -- "each message's board beside its record", M bytes
  pub owners : List ℕ
  -- of each board the servers' stores, the boards that clients keep to write, and the elements that they have received
  pub stores : List ℕ
  pub boards : List ℕ
  pub elements : List ℕ

abbrev pub lent : List ℕ → List ℕ → List ℕ → List ℕ → List ℕ → Lent
lent messages owners stores boards elements =
    record { messages = messages; owners = owners; stores = stores; boards = boards; elements = elements }

-- the parties of one board as a rig of one board, with the messages of all in flight
unfoldable pub rig_with : Option OneBoard → ℕ → one.Rig
rig_with none count = record { servers = []; clients = []; count = count }
rig_with (some x) count = record { servers = x.servers; clients = x.clients; count = count }

-- and the parties of a rig of one board
abbrev pub board_by : one.Rig → OneBoard
board_by x = record { servers = x.servers; clients = x.clients }

-- the board in place i, from 0
abbrev pub rig_at : Rig → ℕ → one.Rig
rig_at r i = rig_with (get_elem? r.boards i) r.count

-- and its parts of the buffers
abbrev pub lent_at : Config → Lent → ℕ → oneView.Lent
lent_at cfg l i =
    oneView.lent l.messages (part (cfg.n * store_length cfg) i l.stores) (part (cfg.c * board_length cfg) i l.boards)
    (part (cfg.c * elements_length cfg) i l.elements)

-- the parties of board b
unfoldable pub parties_on : Config → Room → Rig → Lent → ℕ → BoardParties
parties_on cfg room r l b = cond (within 1 room.boards b) (parties_of cfg (rig_at r (b - 1)) (lent_at cfg l (b - 1))) no_parties

-- the records in flight, and the board of each
abbrev pub flight : Rig → Lent → List (List ℕ)
flight r l = records r.count l.messages

abbrev pub owners_of : Rig → Lent → List ℕ
owners_of r l = take r.count l.owners

-- the protocol's network
unfoldable pub view : Config → Room → Rig → Lent → BoardNetwork
view cfg room r l = record { parties = parties_on cfg room r l; in_flight = messages_of cfg (flight r l); owners = owners_of r l }
