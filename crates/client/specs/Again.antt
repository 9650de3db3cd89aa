-- A reader that asks again, and operations that end spent: what the theorems say of them.
use Rattle.std.specs.Prelude.{ℕ, ◌+◌, ◌≤◌, Bool, true, false, ◌≡◌, List}
use Rattle.config.specs.declared.Config.{Config}
use Rattle.config.specs.Number.{client_number}
use Rattle.tag.specs.declared.Tag.{Tag}
use Rattle.tag.specs.Tag.{start}
use Rattle.record.specs.declared.Kind.TheVariants.{Query}
use Rattle.record.specs.Record.{kind_at, server_at, tag_at}
use Rattle.protocol.specs.Boards.{order}
use Rattle.protocol.specs.Client as protocol
use Rattle.protocol.specs.Number.{nothing_yet}
use Rattle.protocol.specs.Tags.{higher}
use Rattle.client.specs.declared.Ended.TheVariants.{Nothing, Spent}
use Rattle.client.specs.declared.Moved.{Moved}
use Rattle.client.specs.declared.Phase.{Phase}
use Rattle.client.specs.declared.Phase.TheVariants.{Idle, Asking, PreWriting, FinalisingWrite, FinalisingRead, Down}
use Rattle.client.specs.declared.State.{State}
use Rattle.client.specs.Send.{front, records_of}
use Rattle.client.specs.Servers.{member}
use Rattle.client.specs.State.{Lent}
use Rattle.client.specs.Quorum.{Quorum}

-- the operation of a phase is a write
abbrev pub is_write : Phase → Bool
is_write Idle = false
is_write (Asking writes best counted) = writes
is_write (PreWriting tag counted) = true
is_write (FinalisingWrite tag counted) = true
is_write (FinalisingRead tag counted sent) = false
is_write Down = false

-- "A reader in its finalise phase": of a record's tag, with the record's server not counted
pub record Finalises (message : List ℕ) (p : Phase) : Type 0 where
  pub counted : ℕ
  pub sent : ℕ
  pub phase : p ≡ FinalisingRead (tag_at message) counted sent
  pub new : member counted (server_at message) ≡ false

-- how a write ends spent: while asking, on at least q answers, with the highest tag's number the last
pub record WriteSpent (cfg : Config) (message : List ℕ) (p : Phase) : Type 0 where
  pub best : Tag
  pub counted : ℕ
  pub phase : p ≡ Asking true best counted
  pub quorum : Quorum cfg message counted
  pub last : protocol.highest_number ≤ (higher (order cfg) best (tag_at message)).number

-- how a read does: in its finalise phase, on a kind 9, with its operation number the last
pub record ReadSpent (message : List ℕ) (x : State) : Type 0 where
  pub kind : kind_at message ≡ 9
  pub finalises : Finalises message x.phase
  pub last : protocol.highest_number ≤ x.operation

-- the board kept, the elements received and their lengths, and the lent board are as they were
pub record Untouched (x : State) (l l' : Lent) (r : Moved) : Type 0 where
  pub length : r.state.length ≡ x.length
  pub lengths : r.state.lengths ≡ x.lengths
  pub kept : l'.kept ≡ l.kept
  pub elements : l'.elements ≡ l.elements
  pub board : l'.board ≡ l.board

-- it "raises its operation number by 1 and queries again": it asks what to read, the best tag is (0, 0), nobody is counted, no element is in
-- use, and the N queries of the new number stand at the front of the sends
pub record AsksAgain (cfg : Config) (x : State) (l l' : Lent) (r : Moved) : Type 0 where
  pub phase : r.state.phase ≡ Asking false start 0
  pub operation : r.state.operation ≡ x.operation + 1
  pub count : r.sent ≡ cfg.n
  pub out :
      l'.sends
      ≡ front (records_of cfg (protocol.send_each cfg Query (client_number x.me) (x.operation + 1) start nothing_yet)) l.sends
  pub ended : r.ended ≡ Nothing
  pub others : Untouched x l l' r

-- "the read ends spent": the client is idle, and nothing is sent
pub record EndsSpent (x : State) (l l' : Lent) (r : Moved) : Type 0 where
  pub phase : r.state.phase ≡ Idle
  pub operation : r.state.operation ≡ x.operation
  pub count : r.sent ≡ 0
  pub out : l'.sends ≡ l.sends
  pub ended : r.ended ≡ Spent
  pub others : Untouched x l l' r
