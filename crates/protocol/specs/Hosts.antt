-- The parties as hosts run them, each where it likes: there is no list of messages from which one is taken. A message that was ever sent may be handed over, any
-- number of times, in any order, or never. A party that is not called again has crashed; one that is called again goes on from what it kept.
use Rattle.std.specs.Prelude.{ℕ, ◌≡◌, true}
use Rattle.std.proofs.Math.Option.{none, some}
use mathlib.Core.List.{List, [], ◌∷◌, ◌++◌, Memᴰ}
use Rattle.config.specs.declared.Config.{Config}
use Rattle.config.specs.Questions.{first_no}
use Rattle.tag.specs.declared.Tag.{Tag}
use Rattle.record.specs.Message.{Message}
use Rattle.protocol.specs.Server.{server_step}
use Rattle.protocol.specs.Client.{client_step}
use Rattle.protocol.specs.Board.{Answer, Call, Event, refused}
use Rattle.protocol.specs.Parties.{Acted, Parties, begin, client_acts, fresh_parties, questions_to_begin, server_acts}

module _ {Value : Type 0} where
  -- a client's call: 1 begins a write of the board, 2 a read, 3 hands a message over
  abbrev pub call_by : ℕ → ℕ → Value → Call Value
  call_by code c board = record { code = code; party = c; position = 0; board = board }

  -- the events with one more: the call and its answer
  abbrev pub then : List (Event Value) → Call Value → Answer Value → List (Event Value)
  then events a answer = events ++ (record { call = a; answer = answer } ∷ [])

module _ {Value Element : Type 0} (key : Tag → ℕ) (encode : Value → ℕ → Element) (decode : List (ℕ × Element) → Value) (cfg : Config) where
  -- the server that a message is for does its step
  abbrev pub served : Parties Value Element → Message Element → Acted Value Element
  served p m = server_acts p m.server (server_step key cfg.d m.server (p.servers m.server) m)

  -- the client that a message is for does its step
  abbrev pub stepped : Parties Value Element → Message Element → Acted Value Element
  stepped p m = client_acts p m.client (client_step key encode decode cfg m.client (p.clients m.client) m)

-- Runs of hosts: the parties, all that they ever sent, and the list of the clients' calls. A server's step adds no event to it.
pub data Hosted {Value Element : Type 0} (key : Tag → ℕ) (encode : Value → ℕ → Element) (decode : List (ℕ × Element) → Value) (cfg : Config)
    (IsBoard : Value → Type 0) (start : Value) : Parties Value Element → List (Message Element) → List (Event Value) → Type 0 where
  -- fresh parties of one configuration and one starting board
  fresh : Hosted key encode decode cfg IsBoard start (fresh_parties cfg encode start) [] []
  -- any call of a client may be refused, for any reason, and then nothing changes
  refuses : {p : Parties Value Element} {sent : List (Message Element)} {events : List (Event Value)}
      → Hosted key encode decode cfg IsBoard start p sent events → (a : Call Value) (number : ℕ)
      → Hosted key encode decode cfg IsBoard start p sent (then events a (refused number))
  -- a server's step on a message that was sent
  serves : {p : Parties Value Element} {sent : List (Message Element)} {events : List (Event Value)}
      → Hosted key encode decode cfg IsBoard start p sent events → (m : Message Element) → Memᴰ m sent
      → Hosted key encode decode cfg IsBoard start (served key encode decode cfg p m).parties (sent ++ (served key encode decode cfg p m).sends) events
  -- a client begins to write
  writes : {p : Parties Value Element} {sent : List (Message Element)} {events : List (Event Value)}
      → Hosted key encode decode cfg IsBoard start p sent events → (c : ℕ) (v : Value) → first_no (questions_to_begin cfg p c) ≡ 0 → IsBoard v
      → Hosted key encode decode cfg IsBoard start (begin cfg p c (some v)).parties (sent ++ (begin cfg p c (some v)).sends)
      (then events (call_by 1 c v) (begin cfg p c (some v)).answer)
  -- a client begins to read
  reads : {p : Parties Value Element} {sent : List (Message Element)} {events : List (Event Value)}
      → Hosted key encode decode cfg IsBoard start p sent events → (c : ℕ) (v : Value) → first_no (questions_to_begin cfg p c) ≡ 0
      → Hosted key encode decode cfg IsBoard start (begin cfg p c none).parties (sent ++ (begin cfg p c none).sends)
      (then events (call_by 2 c v) (begin cfg p c none).answer)
  -- a client's step on a message that was sent
  steps : {p : Parties Value Element} {sent : List (Message Element)} {events : List (Event Value)}
      → Hosted key encode decode cfg IsBoard start p sent events → (m : Message Element) → Memᴰ m sent → (v : Value)
      → Hosted key encode decode cfg IsBoard start (stepped key encode decode cfg p m).parties (sent ++ (stepped key encode decode cfg p m).sends)
      (then events (call_by 3 m.client v) (stepped key encode decode cfg p m).answer)
