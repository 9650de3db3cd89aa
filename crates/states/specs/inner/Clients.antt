-- Rows of a client's state, what unpacking takes, and what a refusal gives.
use Rattle.std.specs.Prelude.{ℕ, zero, suc, ◌+◌, ◌*◌, false, ◌≡◌, List, ◌∷◌, ◌++◌, length, get_or, replicate}
use Rattle.config.specs.declared.Client.{Client}
use Rattle.config.specs.declared.Refusal.{Refusal}
use Rattle.config.specs.Number.{client_number}
use Rattle.config.specs.Refusal.{refusal_number, verdict_number}
use Rattle.tag.specs.declared.Tag.{Tag}
use Rattle.record.specs.Record.{four_bytes, two_bytes}
use Rattle.client.specs.declared.State.{State}
use Rattle.states.specs.declared.clients.Numbers.{Numbers}
use Rattle.states.specs.declared.clients.Unpacked.{Unpacked}
use Rattle.states.specs.Bytes.{tag_row}
use Rattle.states.specs.Clients.{head_row, kept_length, packed_length, sent_length, state_of}

-- a phase that neither asks nor receives elements
abbrev pub plain_of : ℕ → Tag → ℕ → Numbers
plain_of which t counted = record { which = which; writes = false; tag = t; counted = counted; sent = 0 }

-- the lengths of four servers, from place i on
unfoldable pub lengths_row : List ℕ → ℕ → ℕ → List ℕ
lengths_row lengths sent i =
    two_bytes (sent_length lengths sent i)
    ++ two_bytes (sent_length lengths sent (i + 1))
    ++ two_bytes (sent_length lengths sent (i + 2))
    ++ two_bytes (sent_length lengths sent (i + 3))

-- row i
unfoldable pub row_at : State → Numbers → ℕ → List ℕ
row_at x n zero = head_row x n
row_at x n (suc zero) = tag_row n.tag (kept_length x n)
row_at x n (suc (suc zero)) = four_bytes n.counted ++ four_bytes n.sent
row_at x n (suc (suc (suc i))) = lengths_row x.lengths n.sent (4 * i)

-- bytes of which the first is the client's number
pub record ToldPre (me : Client) (bs : List ℕ) : Type 0 where
  pub long : length bs ≡ packed_length
  pub number : client_number me ≡ get_or bs 0 0

-- a refusal, with the state that zeros tell, of client 1
pub record RefusedPost (why : Refusal) (r : Unpacked) : Type 0 where
  pub number : verdict_number r.verdict ≡ refusal_number why
  pub state : r.state ≡ state_of (1 ∷ replicate 55 0)
