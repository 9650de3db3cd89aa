-- Runs of hosts: what they keep of their servers and clients between calls, in bytes, and the records that they have sent. Each call gets the state and
-- the buffers that the same party's last call left. What is handed in is a record that some earlier call sent, any number of times and in any
-- order, or bytes that question 12 finds out. A party that is not called again has crashed; a server that is called again from what it kept has
-- restarted. The list of events is that of the clients' calls, refused ones included; a server's step adds none.
use Rattle.std.specs.Prelude.{ℕ, true, false, ◌≡◌, ◌⊎◌}
use mathlib.Core.List.{List, [], ◌∷◌, ◌++◌, Memᴰ}
use Rattle.laws.specs.Bytes.{Bytes}
use Rattle.config.specs.Questions.{first_no, within}
use Rattle.record.specs.Record.{well_formed}
use Rattle.record.specs.Records.{records}
use Rattle.protocol.specs.Board.{nothing_ended, refused}
use Rattle.protocol.specs.Boards.{Board, BoardAnswer, BoardEvent, board_of}
use Rattle.protocol.specs.Hosts.{call_by, then}
use Rattle.protocol.specs.Number.{upd}
use Rattle.protocol.specs.Parties.{answer_of}
use Rattle.client.specs.Calls.{ended_of}
use Rattle.client.specs.State.{lent}
use Rattle.host.specs.Calls.{ClientFreshPost, ClientReadPost, ClientStepPost, ClientWritePost, EncodePost, ServerFreshPost, ServerStepPost, unless_no}
use Rattle.host.specs.Config.{config_of, config_questions}
use Rattle.host.specs.Outcome.{ended_from, sent_from}

-- what a host keeps of a server: its state and its store
pub record ServerKept : Type 0 where
  pub state : List ℕ
  pub store : List ℕ

-- of a client: its state, the board that it writes, and the elements that it has received
pub record ClientKept : Type 0 where
  pub state : List ℕ
  pub board : List ℕ
  pub elements : List ℕ

-- of all, by their numbers, with every record that was sent
pub record Kept : Type 0 where
  pub servers : ℕ → ServerKept
  pub clients : ℕ → ClientKept
  pub sent : List (List ℕ)

-- ---- fresh parties

-- a server's element is that of the starting board, and its state and store are what its making left
pub record ServerMade (config start : List ℕ) (s : ℕ) (x : ServerKept) : Type 0 where
  pub part : List ℕ
  pub element : List ℕ
  pub state_before : List ℕ
  pub store_before : List ℕ
  pub encoded : EncodePost config start s part element 0
  pub made : ServerFreshPost config s element state_before store_before x.state x.store 0

pub record ClientMade (config : List ℕ) (c : ℕ) (x : ClientKept) : Type 0 where
  pub state_before : List ℕ
  pub made : ClientFreshPost config c state_before x.state 0

-- ---- a call

-- what may be handed in
abbrev pub Handed : List ℕ → List (List ℕ) → List ℕ → Type 0
Handed config sent message = Memᴰ message sent ⊎ (well_formed (config_of config) message ≡ false)

-- what a call sends: nothing where it is refused
abbrev pub sends : ℕ → List (List ℕ) → List (List ℕ)
sends told rs = unless_no told rs []

-- a server sends its answer, a client so many records of its sends
abbrev pub answer_sent : ℕ → List ℕ → List (List ℕ)
answer_sent told answer = sends told (answer ∷ [])

abbrev pub records_sent : ℕ → ℕ → List ℕ → List (List ℕ)
records_sent told n out = sends told (records n out)

-- what is kept after a call: of a server's step the state and the store; of a begin the state and the board; of a client's step the state and the elements
abbrev pub served : List ℕ → List ℕ → ServerKept
served state store = record { state = state; store = store }

abbrev pub begun : ClientKept → List ℕ → List ℕ → ClientKept
begun x state board = record { state = state; board = board; elements = x.elements }

abbrev pub stepped : ClientKept → List ℕ → List ℕ → ClientKept
stepped x state elements = record { state = state; board = x.board; elements = elements }

-- the host after a server's call, or a client's
abbrev pub after_server : Kept → ℕ → ServerKept → List (List ℕ) → Kept
after_server k s x rs = record { servers = upd k.servers s x; clients = k.clients; sent = k.sent ++ rs }

abbrev pub after_client : Kept → ℕ → ClientKept → List (List ℕ) → Kept
after_client k c x rs = record { servers = k.servers; clients = upd k.clients c x; sent = k.sent ++ rs }

-- an event's answer: a refusal's number, or how the operation ended
abbrev pub answered : ℕ → BoardAnswer → BoardAnswer
answered told answer = unless_no told answer (refused told)

-- no board is written
abbrev pub no_board : Board
no_board = board_of 0 []

-- how a client's operation ended: as the outcome tells, with the bytes in the buffer lent for a read
abbrev pub ended_by : ℕ → List ℕ → List ℕ → BoardAnswer
ended_by c outcome board = answer_of c (ended_of (ended_from outcome) board)

pub data Runs (config start : List ℕ) : Kept → List BoardEvent → Type 0 where
  made : {k : Kept} → first_no (config_questions config) ≡ 0 → Bytes start
      → ((s : ℕ) → within 1 (config_of config).n s ≡ true → ServerMade config start s (k.servers s))
      → ((c : ℕ) → within 1 (config_of config).c c ≡ true → ClientMade config c (k.clients c))
      → k.sent ≡ [] → Runs config start k []
  server_step : {k : Kept} {events : List BoardEvent} → Runs config start k events
      → (s : ℕ) → within 1 (config_of config).n s ≡ true
      → (message answer : List ℕ) → Handed config k.sent message → {state' store' answer' : List ℕ} {told : ℕ}
      → ServerStepPost config (k.servers s).state message (k.servers s).store answer state' store' answer' told
      → Runs config start (after_server k s (served state' store') (answer_sent told answer')) events
  begin_write : {k : Kept} {events : List BoardEvent} → Runs config start k events
      → (c : ℕ) → within 1 (config_of config).c c ≡ true
      → (n : ℕ) (board out : List ℕ) → Bytes board → {state' board' out' : List ℕ} {told : ℕ}
      → ClientWritePost config (k.clients c).state n board (k.clients c).board out state' board' out' told
      → Runs config start
      (after_client k c (begun (k.clients c) state' board') (records_sent told (config_of config).n out'))
      (then events (call_by 1 c (board_of n board)) (answered told nothing_ended))
  begin_read : {k : Kept} {events : List BoardEvent} → Runs config start k events
      → (c : ℕ) → within 1 (config_of config).c c ≡ true
      → (out : List ℕ) → {state' out' : List ℕ} {told : ℕ}
      → ClientReadPost config (k.clients c).state out state' out' told
      → Runs config start
      (after_client k c (begun (k.clients c) state' (k.clients c).board) (records_sent told (config_of config).n out'))
      (then events (call_by 2 c no_board) (answered told nothing_ended))
  client_step : {k : Kept} {events : List BoardEvent} → Runs config start k events
      → (c : ℕ) → within 1 (config_of config).c c ≡ true
      → (message out read outcome : List ℕ) → Handed config k.sent message → {state' elements' out' read' outcome' : List ℕ} {told : ℕ}
      → ClientStepPost config (k.clients c).state message (lent (k.clients c).board (k.clients c).elements out read) outcome
      state' (lent (k.clients c).board elements' out' read') outcome' told
      → Runs config start
      (after_client k c (stepped (k.clients c) state' elements') (records_sent told (sent_from outcome') out'))
      (then events (call_by 3 c no_board) (answered told (ended_by c outcome' read')))
