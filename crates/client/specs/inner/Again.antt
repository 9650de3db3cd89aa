-- A client that asks what to read, in its next operation number: what it takes and what it leaves.
use Rattle.std.specs.Prelude.{ℕ, ◌+◌, ◌<◌, true, ◌≡◌, List, length}
use Rattle.std.proofs.Math.Option.{none}
use Rattle.config.specs.declared.Config.{Config}
use Rattle.config.specs.Config.{Valid, sends_length}
use Rattle.config.specs.Number.{client_number}
use Rattle.protocol.specs.Client as protocol
use Rattle.protocol.specs.Client.{highest_number}
use Rattle.client.specs.declared.Moved.{Moved}
use Rattle.client.specs.declared.State.{State}
use Rattle.client.specs.State.{state_within}
use Rattle.client.specs.inner.Settle.{Moves}

-- what the questions have shown of state and sends
pub record AskAgainPre (cfg : Config) (x : State) (sends : List ℕ) : Type 0 where
  pub valid : Valid cfg
  pub within : state_within cfg x ≡ true
  pub sends-length : length sends ≡ sends_length cfg

-- and there is a next operation number
abbrev pub AskToReadPre : Config → State → List ℕ → Type 0
AskToReadPre cfg x sends = AskAgainPre cfg x sends × (x.operation < highest_number)

-- the protocol's queries, whatever is kept, received and lent
abbrev pub AskToReadPost : Config → State → List ℕ → List ℕ → Moved → Type 0
AskToReadPost cfg x sends sends' r =
    (kept es board : List ℕ) → Moves cfg x (protocol.send_queries cfg (client_number x.me) (x.operation + 1) none) kept es sends sends' board board r

-- the same, or at the highest number the end of the read
abbrev pub AskAgainPost : Config → State → List ℕ → List ℕ → Moved → Type 0
AskAgainPost cfg x sends sends' r =
    (kept es board : List ℕ) → Moves cfg x (protocol.ask_again cfg (client_number x.me) x.operation) kept es sends sends' board board r
