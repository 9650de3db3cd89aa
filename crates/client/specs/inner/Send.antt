-- What a client sends as a phase begins.
use Rattle.std.specs.Prelude.{ℕ, ◌≤◌, Bool, true, false, cond, ◌≡◌, List, length}
use Rattle.std.proofs.Math.Option.{Option, none, some}
use Rattle.laws.specs.Parts.{over}
use Rattle.config.specs.declared.Config.{Config}
use Rattle.config.specs.Config.{Valid, board_length, record_length, sends_length}
use Rattle.config.specs.Number.{client_number}
use Rattle.config.specs.Questions.{within}
use Rattle.tag.specs.declared.Tag.{Tag}
use Rattle.tag.specs.Tag.{allowed, start}
use Rattle.code.specs.Element.{element}
use Rattle.record.specs.declared.Kind.{Kind}
use Rattle.record.specs.declared.Kind.TheVariants.{Query, PreWrite, WriteFinalise, ReadFinalise}
use Rattle.record.specs.Record.{element_in, kind_number, length_fits, own_tag, presence, query_tag}
use Rattle.record.specs.Element.{Element, element_with}
use Rattle.protocol.specs.Boards.{BoardMessage, cut}
use Rattle.protocol.specs.Number.{to_each}
use Rattle.client.specs.declared.Ended.{Ended}
use Rattle.client.specs.declared.Moved.{Moved}
use Rattle.client.specs.declared.Phase.{Phase}
use Rattle.client.specs.declared.Phase.TheVariants.{Idle, Asking, PreWriting, FinalisingWrite, FinalisingRead, Down}
use Rattle.client.specs.declared.State.{State}
use Rattle.client.specs.declared.send.Broadcast.{Broadcast}
use Rattle.client.specs.Send.{front, records_of}
use Rattle.client.specs.State.{state_within}
use Rattle.client.specs.Quorum.{OwnTag}
use Rattle.client.specs.inner.Outcome.{accepted_of}

abbrev pub broadcast_of : State → Kind → Tag → Bool → ℕ → Broadcast
broadcast_of x kind tag element n =
    record { kind = kind; me = x.me; operation = x.operation; tag = tag; element = element; length = n }

-- the message that a phase begins with
unfoldable pub opening_of : State → Phase → Broadcast
opening_of x Idle = broadcast_of x Query start false 0
opening_of x (Asking writes best counted) = broadcast_of x Query start false 0
opening_of x (PreWriting tag counted) = broadcast_of x PreWrite tag true x.length
opening_of x (FinalisingWrite tag counted) = broadcast_of x WriteFinalise tag false 0
opening_of x (FinalisingRead tag counted sent) = broadcast_of x ReadFinalise tag false 0
opening_of x Down = broadcast_of x Query start false 0

-- the message to server s with an element, or none
abbrev pub with_element_of : Broadcast → ℕ → Option Element → BoardMessage
with_element_of b s e =
    record { kind = b.kind; client = client_number b.me; server = s; operation = b.operation; tag = b.tag; element = e }

-- with the element of server s of a board, if each gets one
abbrev pub message_to : Config → Broadcast → List ℕ → ℕ → BoardMessage
message_to cfg b board s = with_element_of b s (cond b.element (some (element_with b.length (element cfg board s))) none)

-- with the element, if each gets one, that stands in a record's bytes
abbrev pub addressed : Config → Broadcast → ℕ → List ℕ → BoardMessage
addressed cfg b s buffer = with_element_of b s (cond b.element (some (element_with b.length (element_in cfg buffer))) none)

-- "All sends go out in server order": one to each server, 1 to N
abbrev pub broadcast : Config → Broadcast → List ℕ → List BoardMessage
broadcast cfg b board = to_each cfg.n (message_to cfg b board)

-- the message is well formed, to whatever server
pub record Sendable (cfg : Config) (b : Broadcast) : Type 0 where
  pub valid : Valid cfg
  pub me : within 1 cfg.c (client_number b.me) ≡ true
  pub operation : 1 ≤ b.operation
  pub tag : allowed cfg.c b.tag ≡ true
  pub query : query_tag (kind_number b.kind) b.tag ≡ true
  pub own : own_tag (kind_number b.kind) (client_number b.me) b.tag ≡ true
  pub present : presence (kind_number b.kind) b.element ≡ true
  pub fits : length_fits cfg b.element b.length ≡ true

-- to each server: a board to take elements from, if they get one, and room for the records
pub record ToEachPre (cfg : Config) (b : Broadcast) (board sends : List ℕ) : Type 0 where
  pub goes : Sendable cfg b
  pub board-length : b.element ≡ true → length board ≡ board_length cfg
  pub room : length sends ≡ sends_length cfg

-- to server s: room for one
pub record ToOnePre (cfg : Config) (b : Broadcast) (s : ℕ) (board buffer : List ℕ) : Type 0 where
  pub goes : Sendable cfg b
  pub board-length : b.element ≡ true → length board ≡ board_length cfg
  pub low : 1 ≤ s
  pub high : s ≤ cfg.n
  pub room : length buffer ≡ record_length

pub record AddressPre (cfg : Config) (b : Broadcast) (s : ℕ) (buffer : List ℕ) : Type 0 where
  pub goes : Sendable cfg b
  pub low : 1 ≤ s
  pub high : s ≤ cfg.n
  pub room : length buffer ≡ record_length

-- "at offset 16 of their records": the record's bytes with the element of server s in its place, if each gets one; those around it stay
abbrev pub filled : Config → Bool → ℕ → List ℕ → List ℕ → List ℕ
filled cfg each s board buffer = cond each (over 16 cfg.e (element cfg board s) buffer) buffer

-- a pre-write has a board to take elements from, of a length that fits
abbrev pub Opens : Config → Phase → ℕ → List ℕ → Type 0
Opens cfg Idle n board = Unit {0}
Opens cfg (Asking writes best counted) n board = Unit {0}
Opens cfg (PreWriting tag counted) n board = (length board ≡ board_length cfg) × (n ≤ board_length cfg)
Opens cfg (FinalisingWrite tag counted) n board = Unit {0}
Opens cfg (FinalisingRead tag counted sent) n board = Unit {0}
Opens cfg Down n board = Unit {0}

-- a client of an operation begun, within its limits, at the begin of a phase
pub record AnnouncePre (cfg : Config) (x : State) (board sends : List ℕ) : Type 0 where
  pub valid : Valid cfg
  pub within : state_within cfg x ≡ true
  pub operation : 1 ≤ x.operation
  pub own : OwnTag x.me x.phase
  pub opens : Opens cfg x.phase x.length board
  pub room : length sends ≡ sends_length cfg

pub record AnnouncePost (cfg : Config) (x : State) (board sends sends' : List ℕ) (r : Moved) : Type 0 where
  pub move : r ≡ accepted_of x cfg.n Ended.Nothing
  pub out : sends' ≡ front (records_of cfg (broadcast cfg (opening_of x x.phase) (cut x.length board))) sends
