-- Rows of a server's state, what unpacking takes, and what a refusal gives.
use Rattle.std.specs.Prelude.{ℕ, zero, suc, ◌≡◌, List, ◌∷◌, length, get_or, replicate}
use Rattle.config.specs.declared.Server.{Server}
use Rattle.config.specs.declared.Refusal.{Refusal}
use Rattle.config.specs.Number.{server_number}
use Rattle.config.specs.Refusal.{refusal_number, verdict_number}
use Rattle.server.specs.declared.State.{State}
use Rattle.states.specs.declared.servers.Unpacked.{Unpacked}
use Rattle.states.specs.Bytes.{tag_row}
use Rattle.states.specs.Servers.{floor_row, head_row, packed_length, state_of, stored_row}

-- row i
unfoldable pub row_at : State → ℕ → List ℕ
row_at s zero = head_row s
row_at s (suc zero) = tag_row s.highest 0
row_at s (suc (suc zero)) = floor_row s.floor
row_at s (suc (suc (suc i))) = stored_row s i

-- bytes of which the first is the server's number
pub record ToldPre (me : Server) (bs : List ℕ) : Type 0 where
  pub long : length bs ≡ packed_length
  pub number : server_number me ≡ get_or bs 0 0

-- a refusal, with the state that zeros tell, of server 1
pub record RefusedPost (why : Refusal) (r : Unpacked) : Type 0 where
  pub number : verdict_number r.verdict ≡ refusal_number why
  pub state : r.state ≡ state_of (1 ∷ replicate 87 0)
