-- A client's state as the protocol sees it. The board to write and the elements received stand in lent buffers, their lengths in the state;
-- only what is in use is read.
use Rattle.std.specs.Prelude.{ℕ, ◌+◌, ◌-◌, ◌*◌, Bool, true, cond, ◌&&◌, List, [], leb, get_or, set}
use Rattle.std.proofs.Math.Option.{Option, none, some}
use Rattle.laws.specs.Below.{all_below}
use Rattle.laws.specs.Parts.{over, part}
use Rattle.config.specs.declared.Config.{Config}
use Rattle.config.specs.Config.{board_length}
use Rattle.config.specs.Number.{client_number}
use Rattle.config.specs.Questions.{within}
use Rattle.tag.specs.declared.Tag.{Tag}
use Rattle.tag.specs.Tag.{allowed}
use Rattle.record.specs.Element.{Element, element_with}
use Rattle.protocol.specs.Boards.{Board, BoardClient, BoardMessage, BoardPhase, board_of}
use Rattle.protocol.specs.Client as protocol
use Rattle.client.specs.declared.Phase.{Phase}
use Rattle.client.specs.declared.Phase.TheVariants.{Idle, Asking, PreWriting, FinalisingWrite, FinalisingRead, Down}
use Rattle.client.specs.declared.State.{State}
use Rattle.client.specs.Servers.{member, sent_by, within_servers}

-- the elements received as they are held, their lengths in the state and their bytes in the lent buffer: those of server s are length s − 1
-- and the bytes "at (s − 1) × E"
pub record Slots : Type 0 where
  pub lengths : List ℕ
  pub bytes : List ℕ

-- that of server s
abbrev pub slot_at : Config → Slots → ℕ → Element
slot_at cfg es s = element_with (get_or es.lengths (s - 1) 0) (part cfg.e (s - 1) es.bytes)

-- those of the servers that sent one
unfoldable pub received : Config → Slots → ℕ → ℕ → Option Element
received cfg es sent = sent_by (slot_at cfg es) sent

-- the bytes with those of one more element, if there is one, in the place of server s; the lengths with its length
unfoldable pub placed_at : Config → ℕ → Option Element → List ℕ → List ℕ
placed_at cfg s none bytes = bytes
placed_at cfg s (some e) bytes = over ((s - 1) * cfg.e) cfg.e e.bytes bytes

unfoldable pub length_placed_at : ℕ → Option Element → List ℕ → List ℕ
length_placed_at s none lengths = lengths
length_placed_at s (some e) lengths = set lengths (s - 1) e.length

-- with that of a message
abbrev pub placed : Config → BoardMessage → List ℕ → List ℕ
placed cfg m bytes = placed_at cfg m.server m.element bytes

abbrev pub length_placed : BoardMessage → List ℕ → List ℕ
length_placed m lengths = length_placed_at m.server m.element lengths

-- the phase: the board to write is read while asking, the elements received while finalising a read
unfoldable pub phase_of : Config → Phase → Board → Slots → BoardPhase
phase_of cfg Idle board es = protocol.idle
phase_of cfg (Asking writes best counted) board es = protocol.asking (cond writes (some board) none) best (member counted)
phase_of cfg (PreWriting tag counted) board es = protocol.pre_writing tag (member counted)
phase_of cfg (FinalisingWrite tag counted) board es = protocol.finalising_write tag (member counted)
phase_of cfg (FinalisingRead tag counted sent) board es =
    protocol.finalising_read tag (member counted) (received cfg es sent)
phase_of cfg Down board es = protocol.down

-- the board to write: the lent bytes, cut at the length that the state keeps
abbrev pub to_write : State → List ℕ → Board
to_write x kept = board_of x.length kept

abbrev pub slots_of : List ℕ → List ℕ → Slots
slots_of lengths es = record { lengths = lengths; bytes = es }

abbrev pub slots : State → List ℕ → Slots
slots x es = slots_of x.lengths es

-- the client of a state, with the board to write and the elements received as lent
unfoldable pub view : Config → State → List ℕ → List ℕ → BoardClient
view cfg x kept es = record { operation = x.operation; phase = phase_of cfg x.phase (to_write x kept) (slots x es) }

-- the buffers that a step is lent: the board that the client keeps to write, the elements that it has received, room for its sends,
-- and a board for a read to show
pub record Lent : Type 0 where
  pub kept : List ℕ
  pub elements : List ℕ
  pub sends : List ℕ
  pub board : List ℕ

abbrev pub lent : List ℕ → List ℕ → List ℕ → List ℕ → Lent
lent kept es sends board = record { kept = kept; elements = es; sends = sends; board = board }

-- the client with the buffers of a step
abbrev pub seen : Config → State → Lent → BoardClient
seen cfg x l = view cfg x l.kept l.elements

-- the client with no buffers
abbrev pub bare : Config → State → BoardClient
bare cfg x = view cfg x [] []

-- a tag that is allowed, and servers within 1 to N
abbrev pub tag_within : Config → Tag → ℕ → Bool
tag_within cfg t counted = allowed cfg.c t && within_servers cfg.n counted

-- "is each count, server number, client number and tag in the state within its limit": the phase's
unfoldable pub phase_within : Config → Phase → Bool
phase_within cfg Idle = true
phase_within cfg (Asking writes best counted) = tag_within cfg best counted
phase_within cfg (PreWriting tag counted) = tag_within cfg tag counted
phase_within cfg (FinalisingWrite tag counted) = tag_within cfg tag counted
phase_within cfg (FinalisingRead tag counted sent) = tag_within cfg tag counted && within_servers cfg.n sent
phase_within cfg Down = true

-- "A length above V kept by a party gets 6": that of the board to write while asking to write, those of the servers that sent an element
-- while finalising a read
unfoldable pub lengths_within : Config → Phase → ℕ → List ℕ → Bool
lengths_within cfg Idle length lengths = true
lengths_within cfg (Asking writes best counted) length lengths = cond writes (leb length (board_length cfg)) true
lengths_within cfg (PreWriting tag counted) length lengths = true
lengths_within cfg (FinalisingWrite tag counted) length lengths = true
lengths_within cfg (FinalisingRead tag counted sent) length lengths =
    all_below cfg.n (λ i. cond (member sent (i + 1)) (leb (get_or lengths i 0) (board_length cfg)) true)
lengths_within cfg Down length lengths = true

-- the state's: its own number is 1 to C, the phase's numbers are within their limits, and so are the lengths
unfoldable pub state_within : Config → State → Bool
state_within cfg x =
    within 1 cfg.c (client_number x.me) && phase_within cfg x.phase && lengths_within cfg x.phase x.length x.lengths
