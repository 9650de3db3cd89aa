-- What the theorems on a client's operation speak of: the servers counted, quorums and elements, the tag of a write, and two states of
-- which steps answer alike.
use Rattle.std.specs.Prelude.{ℕ, ◌≤◌, Bool, true, cond, ◌≡◌, List, eqb, length}
use Rattle.config.specs.declared.Client.{Client}
use Rattle.config.specs.declared.Config.{Config}
use Rattle.config.specs.Config.{quorum_of}
use Rattle.config.specs.Number.{client_number}
use Rattle.config.specs.Refusal.{verdict_number}
use Rattle.record.specs.Record.{present_at, server_at}
use Rattle.protocol.specs.Client as protocol
use Rattle.protocol.specs.Number.{count, nobody, upd}
use Rattle.client.specs.declared.Moved.{Moved}
use Rattle.client.specs.declared.Phase.{Phase}
use Rattle.client.specs.declared.Phase.TheVariants.{Idle, Asking, PreWriting, FinalisingWrite, FinalisingRead, Down}
use Rattle.client.specs.declared.State.{State}
use Rattle.client.specs.Calls.{ended_of}
use Rattle.client.specs.Servers.{member}
use Rattle.client.specs.State.{Lent, seen}

module _ {Value Element : Type 0} where
  -- the servers counted in a phase
  abbrev pub counted_in : protocol.Phase Value Element → ℕ → Bool
  counted_in protocol.idle = nobody
  counted_in (protocol.asking b t cs) = cs
  counted_in (protocol.pre_writing t cs) = cs
  counted_in (protocol.finalising_write t cs) = cs
  counted_in (protocol.finalising_read t cs es) = cs
  counted_in protocol.down = nobody

  -- the six phases, numbered
  abbrev pub phase_number : protocol.Phase Value Element → ℕ
  phase_number protocol.idle = 0
  phase_number (protocol.asking b t cs) = 1
  phase_number (protocol.pre_writing t cs) = 2
  phase_number (protocol.finalising_write t cs) = 3
  phase_number (protocol.finalising_read t cs es) = 4
  phase_number protocol.down = 5

  -- the servers counted in phase q once an answer of server s was counted in phase p: in another phase it begins with nobody
  abbrev pub counted_after : protocol.Phase Value Element → ℕ → protocol.Phase Value Element → ℕ → Bool
  counted_after p s q = cond (eqb (phase_number p) (phase_number q)) (upd (counted_in p) s true) nobody

-- the servers counted in a phase, with that of a record's answer, are at least q
abbrev pub Quorum : Config → List ℕ → ℕ → Type 0
Quorum cfg message counted = quorum_of cfg ≤ count (upd (member counted) (server_at message) true) cfg.n

-- the servers that sent an element, with that of a record's answer if it has one, are at least k
abbrev pub Elements : Config → List ℕ → ℕ → Type 0
Elements cfg message sent = cfg.k ≤ count (upd (member sent) (server_at message) (present_at message)) cfg.n

-- the tag of a write is the client's own
abbrev pub OwnTag : Client → Phase → Type 0
OwnTag me Idle = Unit {0}
OwnTag me (Asking writes best counted) = Unit {0}
OwnTag me (PreWriting tag counted) = tag.client ≡ client_number me
OwnTag me (FinalisingWrite tag counted) = tag.client ≡ client_number me
OwnTag me (FinalisingRead tag counted sent) = Unit {0}
OwnTag me Down = Unit {0}

-- two states of one client, with buffers of one length, that are seen alike: they differ only in lengths and bytes that are not in use
pub record AlikeStates (cfg : Config) (x y : State) (la lb : Lent) : Type 0 where
  pub me : x.me ≡ y.me
  pub kept_long : length la.kept ≡ length lb.kept
  pub elements_long : length la.elements ≡ length lb.elements
  pub client : seen cfg x la ≡ seen cfg y lb

-- two steps that answer alike: the number, what is sent, how the operation ended with the lent board, and two such states
pub record AlikeSteps (cfg : Config) (a b : Moved) (la lb : Lent) : Type 0 where
  pub number : verdict_number a.verdict ≡ verdict_number b.verdict
  pub sent : a.sent ≡ b.sent
  pub out : la.sends ≡ lb.sends
  pub ended : ended_of a.ended la.board ≡ ended_of b.ended lb.board
  pub lent : la.board ≡ lb.board
  pub states : AlikeStates cfg a.state b.state la lb
