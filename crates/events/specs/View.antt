-- A rig with the buffers lent to it, seen as the protocol's rig. Each buffer is the parties' parts joined in order of their numbers;
-- only what is in use is read.
use Rattle.std.specs.Prelude.{ℕ, ◌-◌, Bool, true, cond, List, map}
use Rattle.std.proofs.Math.Option.{Option, none, some}
use Rattle.std.proofs.Math.ListN.{get_elem?}
use Rattle.laws.specs.Parts.{part}
use Rattle.config.specs.declared.Config.{Config}
use Rattle.config.specs.Config.{board_length, elements_length, store_length}
use Rattle.config.specs.Questions.{within}
use Rattle.record.specs.Record.{message_of}
use Rattle.server.specs.View as serverView
use Rattle.client.specs.declared.State as client
use Rattle.client.specs.State as clientView
use Rattle.flight.specs.Flight.{records}
use Rattle.protocol.specs.Server.{no_server}
use Rattle.protocol.specs.Client.{fresh_client}
use Rattle.protocol.specs.Boards.{BoardClient, BoardMessage, BoardParties, BoardRig, BoardServer}
use Rattle.parties.specs.declared.Node.{Node}
use Rattle.events.specs.declared.Rig.{Rig}

-- the buffers lent to a rig, as they are between calls
pub record Lent : Type 0 where
  -- the messages in flight, 80 × M
  pub messages : List ℕ
  -- the servers' stores, (D + 1) × E each
  pub stores : List ℕ
  -- the boards that clients keep to write, V each
  pub boards : List ℕ
  -- the elements that clients have received, N × E each
  pub elements : List ℕ

abbrev pub lent : List ℕ → List ℕ → List ℕ → List ℕ → Lent
lent messages stores boards elements = record { messages = messages; stores = stores; boards = boards; elements = elements }

-- what stands in the place of party p, of 1 to n
unfoldable pub place : {A : Type 0} → ℕ → ℕ → List A → Option A
place n p xs = cond (within 1 n p) (get_elem? xs (p - 1)) none

-- Server s: what its state and its part of the stores say. Past N there is none.
unfoldable pub server_seen : Config → Option Node → List ℕ → BoardServer
server_seen cfg none store = no_server
server_seen cfg (some x) store = serverView.view cfg x.state store

unfoldable pub server_of : Config → Rig → Lent → ℕ → BoardServer
server_of cfg r l s = server_seen cfg (place cfg.n s r.servers) (part (store_length cfg) (s - 1) l.stores)

-- server s is up; so is one that is none
unfoldable pub up_seen : Option Node → Bool
up_seen none = true
up_seen (some x) = x.up

unfoldable pub up_of : Config → Rig → ℕ → Bool
up_of cfg r s = up_seen (place cfg.n s r.servers)

-- Client c: what its state and its parts of the boards and the elements say. Past C there is none, and the protocol's is fresh.
unfoldable pub client_seen : Config → Option client.State → List ℕ → List ℕ → BoardClient
client_seen cfg none board received = fresh_client
client_seen cfg (some x) board received = clientView.view cfg x board received

unfoldable pub client_of : Config → Rig → Lent → ℕ → BoardClient
client_of cfg r l c =
    client_seen cfg (place cfg.c c r.clients)
    (part (board_length cfg) (c - 1) l.boards)
    (part (elements_length cfg) (c - 1) l.elements)

-- its parties
unfoldable pub parties_of : Config → Rig → Lent → BoardParties
parties_of cfg r l = record { servers = server_of cfg r l; up = up_of cfg r; clients = client_of cfg r l }

-- the records in flight, and the messages that they are
abbrev pub flight : Rig → Lent → List (List ℕ)
flight r l = records r.count l.messages

abbrev pub messages_of : Config → List (List ℕ) → List BoardMessage
messages_of cfg rs = map (message_of cfg) rs

-- the protocol's rig
unfoldable pub view : Config → Rig → Lent → BoardRig
view cfg r l = record { parties = parties_of cfg r l; in_flight = messages_of cfg (flight r l) }
