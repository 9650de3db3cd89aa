-- What a call leaves of a client.
use Rattle.std.specs.Prelude.{ℕ, ◌+◌, ◌-◌, Bool, cond, ◌≡◌, length, set, Ok}
use Rattle.config.specs.Number.{server_number}
use Rattle.config.specs.Refusal.{verdict_number}
use Rattle.tag.specs.Tag.{start}
use Rattle.record.specs.declared.Header.{Header}
use Rattle.client.specs.declared.Ended.{Ended}
use Rattle.client.specs.declared.Moved.{Moved}
use Rattle.client.specs.declared.Phase.{Phase}
use Rattle.client.specs.declared.Phase.TheVariants.{Asking}
use Rattle.client.specs.declared.State.{State}

-- a refusal leaves the client as it was
pub record RefusedPost (x : State) (refusal : ℕ) (r : Moved) : Type 0 where
  pub verdict : verdict_number r.verdict ≡ refusal
  pub state : r.state ≡ x
  pub sent : r.sent ≡ 0
  pub ended : r.ended ≡ Ended.Nothing

abbrev pub accepted_of : State → ℕ → Ended → Moved
accepted_of x sent ended = record { verdict = Ok tt; state = x; sent = sent; ended = ended }

-- the client with its next operation number, asking, with the length of a board to write
abbrev pub begun_of : State → Bool → ℕ → State
begun_of x writes length =
    record { me = x.me; operation = x.operation + 1; phase = Asking writes start 0; length = length; lengths = x.lengths }

-- the client in another phase of its operation, with the length, if the answer has an element, in its server's place
unfoldable pub counted_of : State → Phase → Header → State
counted_of x phase h =
    record {
      me = x.me;
      operation = x.operation;
      phase = phase;
      length = x.length;
      lengths = cond h.present (set x.lengths (server_number h.server - 1) h.length) x.lengths;
    }

pub record CountedPost (x : State) (phase : Phase) (h : Header) (r : State) : Type 0 where
  pub state : r ≡ counted_of x phase h
  pub sixteen : length x.lengths ≡ 16
