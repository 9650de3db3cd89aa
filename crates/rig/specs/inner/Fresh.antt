-- What the inner functions of making take and give.
use Rattle.std.specs.Prelude.{ℕ, ◌+◌, ◌*◌, ◌<◌, ◌≡◌, List, length}
use Rattle.std.proofs.Math.Option.{Option, some}
use Rattle.std.proofs.Math.ListN.{get_elem?}
use Rattle.laws.specs.Parts.{part}
use Rattle.config.specs.declared.Config.{Config}
use Rattle.config.specs.Config.{Valid, board_length, store_length}
use Rattle.server.specs.View as serverView
use Rattle.client.specs.declared.State as client
use Rattle.protocol.specs.Boards.{encode, starting_board}
use Rattle.protocol.specs.Server.{fresh_server}
use Rattle.parties.specs.declared.Node.{Node}
use Rattle.events.specs.declared.Rig.{Rig}
use Rattle.parties.specs.Fresh.{fresh_node, fresh_state}

-- server s, with its store, is the protocol's fresh server
abbrev pub FreshStore : Config → ℕ → List ℕ → List ℕ → Type 0
FreshStore cfg s start store =
    serverView.view cfg (fresh_node (board_length cfg) s).state store ≡ fresh_server (encode cfg (starting_board cfg start) s)

-- making every party
pub record RigPre (cfg : Config) (start stores : List ℕ) : Type 0 where
  pub valid : Valid cfg
  pub start_length : length start ≡ board_length cfg
  pub stores_length : length stores ≡ cfg.n * store_length cfg

-- what stands in place i, with a store, is a fresh server
pub record FreshServer (cfg : Config) (start : List ℕ) (i : ℕ) (o : Option Node) (store : List ℕ) : Type 0 where
  pub is : o ≡ some (fresh_node (board_length cfg) (i + 1))
  pub seen : FreshStore cfg (i + 1) start store

-- the first n servers are fresh
abbrev pub FreshServers : Config → List ℕ → ℕ → List Node → List ℕ → Type 0
FreshServers cfg start n nodes stores = (i : ℕ) → i < n → FreshServer cfg start i (get_elem? nodes i) (part (store_length cfg) i stores)

pub record ServersPost (cfg : Config) (start before after : List ℕ) (nodes : List Node) : Type 0 where
  pub fresh : FreshServers cfg start cfg.n nodes after
  pub long : length after ≡ length before

-- the first n clients are fresh
abbrev pub FreshClients : ℕ → List client.State → Type 0
FreshClients n states = (i : ℕ) → i < n → get_elem? states i ≡ some (fresh_state (i + 1))

abbrev pub ClientsPost : Config → List client.State → Type 0
ClientsPost cfg states = FreshClients cfg.c states

pub record RigPost (cfg : Config) (start before after : List ℕ) (r : Rig) : Type 0 where
  pub servers : ServersPost cfg start before after r.servers
  pub clients : ClientsPost cfg r.clients
  pub nothing : r.count ≡ 0
