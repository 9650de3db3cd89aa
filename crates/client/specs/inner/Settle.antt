-- The second half of a client's step: what it takes and what it leaves.
use Rattle.std.specs.Prelude.{ℕ, ◌≤◌, true, ◌≡◌, List, length, Ok}
use Rattle.config.specs.declared.Config.{Config}
use Rattle.config.specs.Config.{Valid, board_length, elements_length, sends_length}
use Rattle.config.specs.Number.{client_number}
use Rattle.protocol.specs.Boards.{BoardMoved, decode, encode}
use Rattle.protocol.specs.Client as protocol
use Rattle.client.specs.declared.Moved.{Moved}
use Rattle.client.specs.declared.State.{State}
use Rattle.client.specs.Calls.{ended_of, shown}
use Rattle.client.specs.Quorum.{OwnTag}
use Rattle.client.specs.Send.{front, records_of}
use Rattle.client.specs.State.{Lent, seen, state_within, view}

-- what the questions of a step have shown of state and buffers
pub record SettlePre (cfg : Config) (x : State) (l : Lent) : Type 0 where
  pub valid : Valid cfg
  pub within : state_within cfg x ≡ true
  pub operation : 1 ≤ x.operation
  pub own : OwnTag x.me x.phase
  pub kept-length : length l.kept ≡ board_length cfg
  pub elements-length : length l.elements ≡ elements_length cfg
  pub sends-length : length l.sends ≡ sends_length cfg
  pub board-length : length l.board ≡ board_length cfg

-- the protocol's, with the code of document 01
abbrev pub settle_of : Config → State → Lent → BoardMoved
settle_of cfg x l = protocol.settle (encode cfg) (decode cfg) cfg (client_number x.me) (seen cfg x l)

-- what the code leaves of a client is what the protocol's move does
pub record Moves (cfg : Config) (x : State) (move : BoardMoved) (kept es sends sends' board board' : List ℕ) (r : Moved) : Type 0 where
  pub verdict : r.verdict ≡ Ok tt
  pub self : r.state.me ≡ x.me
  pub same_length : r.state.length ≡ x.length
  pub same_lengths : r.state.lengths ≡ x.lengths
  pub client : view cfg r.state kept es ≡ move.client
  pub count : r.sent ≡ length move.sends
  pub out : sends' ≡ front (records_of cfg move.sends) sends
  pub ended : ended_of r.ended board' ≡ move.ended
  pub lent : board' ≡ shown move.ended board
  pub within : state_within cfg r.state ≡ true

abbrev pub SettlePost : Config → State → Lent → List ℕ → List ℕ → Moved → Type 0
SettlePost cfg x l sends' board' r = Moves cfg x (settle_of cfg x l) l.kept l.elements l.sends sends' l.board board' r
