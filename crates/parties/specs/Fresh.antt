-- Fresh parties of a rig: what their making asks, answers and leaves.
use Rattle.std.specs.Prelude.{ℕ, true, ◌&&◌, ◌≡◌, List, [], ◌∷◌, ◌++◌, eqb, length}
use Rattle.config.specs.declared.Config.{Config}
use Rattle.config.specs.Config.{board_length, questions, store_length}
use Rattle.config.specs.Number.{client_questions}
use Rattle.config.specs.Questions.{Question, ask, first_no, within}
use Rattle.config.specs.Refusal.{verdict_number}
use Rattle.server.specs.Calls as server
use Rattle.server.specs.View.{view}
use Rattle.client.specs.declared.NewState.{NewState}
use Rattle.client.specs.declared.State as client
use Rattle.client.specs.Calls as clientCalls
use Rattle.protocol.specs.Boards.{encode, starting_board}
use Rattle.protocol.specs.Server.{fresh_server}
use Rattle.parties.specs.declared.Node.{Node}
use Rattle.parties.specs.declared.fresh.NewNode.{NewNode}

-- a fresh server, up, with a starting board of a length, and a fresh client: of number 1, 2, ..
abbrev pub fresh_node : ℕ → ℕ → Node
fresh_node length s = record { state = server.fresh_state (record { 0 = s }) length; up = true }

abbrev pub fresh_state : ℕ → client.State
fresh_state c = clientCalls.fresh_state (record { 0 = c })

-- A server: questions 1 to 5 and 21; 6, the lengths of the starting board and of the store; 8, is it a server's number?
unfoldable pub fresh_server_questions : Config → ℕ → ℕ → ℕ → List Question
fresh_server_questions cfg s start store =
    questions cfg ++ ask 6 (eqb start (board_length cfg) && eqb store (store_length cfg)) ∷ ask 8 (within 1 cfg.n s) ∷ []

abbrev pub server_no : Config → ℕ → List ℕ → List ℕ → ℕ
server_no cfg s start store = first_no (fresh_server_questions cfg s (length start) (length store))

pub record FreshServerPost (cfg : Config) (s : ℕ) (start before after : List ℕ) (r : NewNode) : Type 0 where
  pub number : verdict_number r.verdict ≡ server_no cfg s start before
  -- "Fresh: H = (0, 0), with the starting board's element stored at (0, 0)."
  pub made : server_no cfg s start before ≡ 0 → r.node ≡ fresh_node (board_length cfg) s
  pub seen : server_no cfg s start before ≡ 0
      → view cfg (fresh_node (board_length cfg) s).state after ≡ fresh_server (encode cfg (starting_board cfg start) s)
  pub long : length after ≡ length before
  -- a refusal gives server 1 with a board of one byte, and leaves the store
  pub refused : (server_no cfg s start before ≡ 0 → ⊥) → (r.node ≡ fresh_node 1 1) × (after ≡ before)

-- A client: questions 1 to 5, 21 and 8. A refusal gives client 1.
pub record FreshClientPost (cfg : Config) (c : ℕ) (r : NewState) : Type 0 where
  pub number : verdict_number r.verdict ≡ first_no (client_questions cfg c)
  pub made : first_no (client_questions cfg c) ≡ 0 → r.state ≡ fresh_state c
  pub refused : (first_no (client_questions cfg c) ≡ 0 → ⊥) → r.state ≡ fresh_state 1
