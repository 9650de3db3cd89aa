-- The protocol with the documents' boards: what a board, an element and the order of tags are is said here, and the model's types and
-- definitions have names with them.
use Rattle.std.specs.Prelude.{ℕ, ◌-◌, ◌≤◌, ◌≡◌, Bool, List, [], ◌∷◌, ◌++◌, map, leb, length, take, replicate}
use Rattle.std.proofs.Math.Option.{Option}
use Rattle.config.specs.declared.Config.{Config}
use Rattle.config.specs.declared.Room.{Room}
use Rattle.config.specs.Config.{board_length}
use Rattle.config.specs.Questions.{Question}
use Rattle.tag.specs.declared.Tag.{Tag}
use Rattle.tag.specs.Tag.{key}
use Rattle.laws.specs.Bytes.{Bytes}
use Rattle.code.specs.Element.{element}
use Rattle.code.specs.Decoded.{decoded_pairs}
use Rattle.record.specs.Element.{Element, element_with}
use Rattle.record.specs.Message.{Message}
use Rattle.protocol.specs.Server as server
use Rattle.protocol.specs.Client as client
use Rattle.protocol.specs.Board as board
use Rattle.protocol.specs.Parties as parties
use Rattle.protocol.specs.Rig as rig
use Rattle.protocol.specs.Hosts as hosts
use Rattle.protocol.specs.Network as network
use Rattle.protocol.specs.Network.{On}
use Rattle.protocol.specs.Rig.{Code}

-- a board has a length and bytes
pub record Board : Type 0 where
  pub length : ℕ
  pub bytes : List ℕ

-- so many bytes, "zeros after"
unfoldable pub cut : ℕ → List ℕ → List ℕ
cut n bs = take n bs ++ replicate (length bs - n) 0

-- the board of a length and bytes: "the code sees zeros after that many of its V bytes"
abbrev pub board_of : ℕ → List ℕ → Board
board_of n bs = record { length = n; bytes = cut n bs }

-- "the starting board has length V"
abbrev pub starting_board : Config → List ℕ → Board
starting_board cfg bs = record { length = board_length cfg; bytes = bs }

-- bytes, zeros past the length: of every length and all bytes that are handed in, `board_of` is one
pub record Filled (v : Board) : Type 0 where
  pub bytes : Bytes v.bytes
  pub zeros : cut v.length v.bytes ≡ v.bytes

-- "A board has V = k × E bytes." "A write now brings a length from 0 to V".
pub record IsBoard (cfg : Config) (v : Board) : Type 0 where
  pub whole : length v.bytes ≡ board_length cfg
  pub fits : v.length ≤ board_length cfg
  pub filled : Filled v

-- "19, is the write's length at most V"
abbrev pub fits_in : Config → Board → Bool
fits_in cfg v = leb v.length (board_length cfg)

-- the element of a server for a board, with the length beside it
abbrev pub encode : Config → Board → ℕ → Element
encode cfg v s = element_with v.length (element cfg v.bytes s)

-- "the length sent with its lowest server's element": the elements stand in order of their servers
abbrev pub lowest_length : List (ℕ × Element) → ℕ
lowest_length [] = 0
lowest_length (x ∷ xs) = x.1.length

abbrev pub bytes_sent : ℕ × Element → ℕ × List ℕ
bytes_sent x = (x.0, x.1.bytes)

-- the board that elements of k servers give back: that length "and that many bytes, zeros after"
abbrev pub decode : Config → List (ℕ × Element) → Board
decode cfg xs = board_of (lowest_length xs) (decoded_pairs cfg (map bytes_sent xs))

-- the order of tags, as a key: "by number, then by the rank of the tag's client, then by client number"
abbrev pub order : Config → Tag → ℕ
order cfg = key cfg

-- ---- the types

abbrev pub BoardMessage : Type 0
BoardMessage = Message Element

abbrev pub BoardStored : Type 0
BoardStored = server.Stored Element

abbrev pub BoardServer : Type 0
BoardServer = server.Server Element

abbrev pub BoardServed : Type 0
BoardServed = server.Served Element

abbrev pub BoardPhase : Type 0
BoardPhase = client.Phase Board Element

abbrev pub BoardClient : Type 0
BoardClient = client.Client Board Element

abbrev pub BoardMoved : Type 0
BoardMoved = client.Moved Board Element

abbrev pub BoardEnded : Type 0
BoardEnded = client.Ended Board

abbrev pub BoardParties : Type 0
BoardParties = parties.Parties Board Element

abbrev pub BoardActed : Type 0
BoardActed = parties.Acted Board Element

abbrev pub BoardRig : Type 0
BoardRig = rig.Rig Board Element

abbrev pub BoardTurn : Type 0
BoardTurn = rig.Turn Board Element

abbrev pub BoardCall : Type 0
BoardCall = board.Call Board

abbrev pub BoardAnswer : Type 0
BoardAnswer = board.Answer Board

abbrev pub BoardEvent : Type 0
BoardEvent = board.Event Board

abbrev pub BoardNetwork : Type 0
BoardNetwork = network.Network Board Element

abbrev pub BoardNetworkTurn : Type 0
BoardNetworkTurn = network.NetworkTurn Board Element

-- ---- the definitions

module _ (cfg : Config) where
  -- a server's step
  abbrev pub server_step : ℕ → BoardServer → BoardMessage → BoardServed
  server_step = server.server_step (order cfg) cfg.d

  -- a client: question 14, its step, its begin
  abbrev pub awaited : BoardClient → BoardMessage → Bool
  awaited = client.awaited (order cfg)

  abbrev pub client_step : ℕ → BoardClient → BoardMessage → BoardMoved
  client_step = client.client_step (order cfg) (encode cfg) (decode cfg) cfg

  abbrev pub begin_client : ℕ → BoardClient → Option Board → BoardMoved
  begin_client = client.begin_client cfg

  -- the parties
  abbrev pub fresh_parties : Board → BoardParties
  fresh_parties = parties.fresh_parties cfg (encode cfg)

  abbrev pub begin : BoardParties → ℕ → Option Board → BoardActed
  begin = parties.begin cfg

  abbrev pub deliver : BoardParties → BoardMessage → BoardActed
  deliver = parties.deliver (order cfg) (encode cfg) (decode cfg) cfg

  -- the rig
  abbrev pub fresh_rig : Board → BoardRig
  fresh_rig = rig.fresh_rig cfg (encode cfg)

  abbrev pub move : BoardRig → BoardCall → Code → BoardTurn
  move = rig.move (order cfg) (encode cfg) (decode cfg) cfg

  abbrev pub move_of : BoardRig → BoardCall → Option Code → BoardTurn
  move_of = rig.move_of (order cfg) (encode cfg) (decode cfg) cfg

  abbrev pub questions : ℕ → BoardRig → BoardCall → Bool → Option Code → List Question
  questions = rig.questions (order cfg) (encode cfg) (decode cfg) cfg

  abbrev pub write_fits : BoardCall → Option Code → Bool
  write_fits = rig.write_fits (fits_in cfg)

  abbrev pub questions_after6 : ℕ → BoardRig → BoardCall → Bool → Option Code → List Question
  questions_after6 = rig.questions_after6 (order cfg) (encode cfg) (decode cfg) cfg (fits_in cfg)

  abbrev pub event : ℕ → BoardRig → BoardCall → BoardTurn
  event = rig.event (order cfg) (encode cfg) (decode cfg) cfg (fits_in cfg)

  abbrev pub run : ℕ → BoardRig → List BoardCall → List BoardEvent
  run = rig.run (order cfg) (encode cfg) (decode cfg) cfg (fits_in cfg)

  -- executions, and what is to be shown of their events
  abbrev pub BoardExecution : Board → BoardRig → List BoardEvent → Type 0
  BoardExecution = rig.Execution (order cfg) (encode cfg) (decode cfg) cfg (IsBoard cfg)

  -- runs of hosts
  abbrev pub BoardHosted : Board → BoardParties → List BoardMessage → List BoardEvent → Type 0
  BoardHosted = hosts.Hosted (order cfg) (encode cfg) (decode cfg) cfg (IsBoard cfg)

  -- the server, or the client, that a message is for does its step
  abbrev pub served : BoardParties → BoardMessage → BoardActed
  served = hosts.served (order cfg) (encode cfg) (decode cfg) cfg

  abbrev pub stepped : BoardParties → BoardMessage → BoardActed
  stepped = hosts.stepped (order cfg) (encode cfg) (decode cfg) cfg

  -- "A read must return the length of the nearest write and that many of its bytes, zeros after, and the starting board has length V; that is
  -- what the single board now keeps and shows."
  abbrev pub BoardAtomic : Board → List BoardEvent → Type 0
  BoardAtomic = board.Atomic (order cfg)

  -- several boards over one network
  abbrev pub fresh_network : Room → (ℕ → Board) → BoardNetwork
  fresh_network room = network.fresh_network cfg room (encode cfg)

  abbrev pub network_move : Room → BoardNetwork → ℕ → BoardCall → Code → BoardNetworkTurn
  network_move = network.network_move (order cfg) (encode cfg) (decode cfg) cfg

  abbrev pub network_move_of : Room → BoardNetwork → ℕ → BoardCall → Option Code → BoardNetworkTurn
  network_move_of = network.network_move_of (order cfg) (encode cfg) (decode cfg) cfg

  abbrev pub network_from7 : Room → BoardNetwork → ℕ → BoardCall → Bool → Option Code → List Question
  network_from7 = network.network_from7 (order cfg) (encode cfg) (decode cfg) cfg

  abbrev pub network_after6 : Room → BoardNetwork → ℕ → BoardCall → Bool → Option Code → List Question
  network_after6 = network.network_after6 (order cfg) (encode cfg) (decode cfg) cfg (fits_in cfg)

  abbrev pub network_event : Room → BoardNetwork → On BoardCall → BoardNetworkTurn
  network_event = network.network_event (order cfg) (encode cfg) (decode cfg) cfg (fits_in cfg)

  abbrev pub network_run : Room → BoardNetwork → List (On BoardCall) → List (On BoardEvent)
  network_run = network.network_run (order cfg) (encode cfg) (decode cfg) cfg (fits_in cfg)

  abbrev pub BoardNetworkExecution : Room → (ℕ → Board) → BoardNetwork → List (On BoardEvent) → Type 0
  BoardNetworkExecution = network.NetworkExecution (order cfg) (encode cfg) (decode cfg) cfg (IsBoard cfg)
