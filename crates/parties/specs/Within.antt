-- Question 6 of a party in its place of a rig.
use Rattle.std.specs.Prelude.{ℕ, ◌+◌, Bool, false, ◌&&◌, List, [], ◌∷◌, ◌++◌, eqb}
use Rattle.std.proofs.Math.Option.{Option, none, some}
use Rattle.config.specs.declared.Config.{Config}
use Rattle.config.specs.Config.{questions}
use Rattle.config.specs.Number.{client_number, server_number}
use Rattle.config.specs.Questions.{Question, ask}
use Rattle.server.specs.Within.{state_within as server_state_within}
use Rattle.client.specs.declared.State as client
use Rattle.client.specs.State.{state_within}
use Rattle.parties.specs.declared.Node.{Node}

-- the server in a place has the number of its place, by which the parts are joined, and what it keeps is within its limits
unfoldable pub server_in_place : Config → ℕ → Option Node → Bool
server_in_place cfg i none = false
server_in_place cfg i (some x) = eqb (server_number x.state.me) (i + 1) && server_state_within cfg x.state

-- the client in a place, likewise
unfoldable pub client_in_place : Config → ℕ → Option client.State → Bool
client_in_place cfg i none = false
client_in_place cfg i (some x) = eqb (client_number x.me) (i + 1) && state_within cfg x

-- A party in a place: questions 1 to 5 and 21; 6, as one of the two above answers it.
abbrev pub place_questions : Config → Bool → List Question
place_questions cfg within = questions cfg ++ ask 6 within ∷ []
