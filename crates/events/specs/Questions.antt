-- What an event of a rig asks, in the documents' order.
use Rattle.std.specs.Prelude.{ℕ, ◌+◌, ◌-◌, ◌*◌, Bool, true, cond, ◌&&◌, List, [], ◌∷◌, ◌++◌, eqb, leb, length, get_or}
use Rattle.std.proofs.Math.Option.{Option, none, some}
use Rattle.std.proofs.Math.ListN.{get_elem?}
use Rattle.laws.specs.Below.{all_below}
use Rattle.config.specs.declared.Config.{Config}
use Rattle.config.specs.Config.{board_length, elements_length, record_length, rig_questions, store_length}
use Rattle.config.specs.Questions.{Question, ask, within}
use Rattle.flight.specs.Flight.{stands}
use Rattle.record.specs.Record.{well_formed}
use Rattle.protocol.specs.Boards.{BoardCall, questions, questions_after6}
use Rattle.protocol.specs.Rig.{Code, code_of, begin_write, begin_read, handOver, lose, double, crash_server, crash_client, restart_server}
use Rattle.parties.specs.Within.{client_in_place, server_in_place}
use Rattle.events.specs.declared.Call.{Call}
use Rattle.events.specs.declared.Part.{Part}
use Rattle.events.specs.declared.Places.{Places}
use Rattle.events.specs.declared.Rig.{Rig}
use Rattle.events.specs.declared.Sizes.{Sizes}
use Rattle.events.specs.View.{Lent, flight, view}

-- "Has each buffer its length (V for boards, .. N × E for the elements a client has received, .. 80 × M for messages, (D + 1) × E for each
-- server's store; the rig joins its parties' parts in order of their numbers)"
unfoldable pub sized_by : Config → ℕ → ℕ → ℕ → ℕ → ℕ → Bool
sized_by cfg m messages stores boards elements =
    eqb messages (record_length * m)
    && eqb stores (cfg.n * store_length cfg)
    && eqb boards (cfg.c * board_length cfg)
    && eqb elements (cfg.c * elements_length cfg)

-- a board and the buffers lent to a rig, by their lengths
abbrev pub lent_sized : Config → ℕ → ℕ → Sizes → Bool
lent_sized cfg m board x = eqb board (board_length cfg) && sized_by cfg m x.messages x.stores x.boards x.elements

abbrev pub sized : Config → ℕ → Lent → Bool
sized cfg m l = sized_by cfg m (length l.messages) (length l.stores) (length l.boards) (length l.elements)

-- "is each count, server number, client number and tag in the state within its limit, ..": those of every server and every client. A
-- party's own number is that of its place. "A length above V kept by a party gets 6."
abbrev pub parties_within : Config → Rig → Bool
parties_within cfg r =
    all_below cfg.n (λ i. server_in_place cfg i (get_elem? r.servers i))
    && all_below cfg.c (λ i. client_in_place cfg i (get_elem? r.clients i))

-- a rig's: at most M messages are in flight, and every party passes
unfoldable pub rig_within : Config → ℕ → Rig → Bool
rig_within cfg m r = leb r.count m && parties_within cfg r

-- the two parties of a part, likewise; its count is asked beside
unfoldable pub part_within : Config → Part → Bool
part_within cfg p = server_in_place cfg p.server (some p.pair.node) && client_in_place cfg p.client (some p.pair.client)

-- every buffer handed in has its length, whatever the event: the board, the buffer for a read, and those lent to the rig
abbrev pub all_sized : Config → ℕ → List ℕ → List ℕ → Lent → Bool
all_sized cfg m board read l = eqb (length board) (board_length cfg) && eqb (length read) (board_length cfg) && sized cfg m l

-- "12. Is the record handed over well formed?"
unfoldable pub formed : Config → Option (List ℕ) → Bool
formed cfg none = true
formed cfg (some bytes) = well_formed cfg bytes

-- of event 3, the record at the position; of another nothing is asked
unfoldable pub formed_for : Config → List (List ℕ) → ℕ → Option Code → Bool
formed_for cfg rs i none = true
formed_for cfg rs i (some begin_write) = true
formed_for cfg rs i (some begin_read) = true
formed_for cfg rs i (some handOver) = formed cfg (get_elem? rs i)
formed_for cfg rs i (some lose) = true
formed_for cfg rs i (some double) = true
formed_for cfg rs i (some crash_server) = true
formed_for cfg rs i (some crash_client) = true
formed_for cfg rs i (some restart_server) = true

-- the place of party number p, of 1 to n; the first where there is none
abbrev pub place_for : ℕ → ℕ → ℕ
place_for n p = cond (within 1 n p) (p - 1) 0

-- the byte at an offset of the record at a position
abbrev pub byte_of : ℕ → ℕ → List ℕ → ℕ
byte_of i offset messages = get_or messages (record_length * i + offset) 0

-- the number by which an event is called: of event 3, the byte at an offset of the record at the position, or 0 where none stands there or the
-- records in flight don't fit the buffer; of any other, the party's
abbrev pub named_by : ℕ → ℕ → ℕ → ℕ → ℕ → List ℕ → ℕ
named_by count code party i offset messages = cond (eqb code 3) (cond (stands count i messages) (byte_of i offset messages) 0) party

-- the places that an event names: those of the server and of the client of the number by which it is called; offset 2 of a record is its
-- server, offset 1 its client
abbrev pub places_of : Config → ℕ → Call → List ℕ → Places
places_of cfg count a messages =
    record {
      server = place_for cfg.n (named_by count a.code a.party a.position 2 messages);
      client = place_for cfg.c (named_by count a.code a.party a.position 1 messages);
    }

-- a part has these places
abbrev pub has_places : Part → Places → Bool
has_places p x = eqb p.server x.server && eqb p.client x.client

-- 7 to 13, as the protocol has them: 12 is of a record's bytes, and its answer is handed in
abbrev pub later_questions : Config → ℕ → Rig → BoardCall → Lent → List Question
later_questions cfg m r a l =
    questions cfg m (view cfg r l) a (formed_for cfg (flight r l) a.position (code_of a.code)) (code_of a.code)

-- An event: questions 1 to 5 and 21; 6, of every buffer handed in, whatever the event, and of the rig; 19; 7 to 13.
unfoldable pub event_questions : Config → ℕ → Rig → BoardCall → List ℕ → Lent → List Question
event_questions cfg m r a read l =
    rig_questions cfg m
    ++ ask 6 (all_sized cfg m a.board.bytes read l && rig_within cfg m r)
    ∷ questions_after6 cfg m (view cfg r l) a (formed_for cfg (flight r l) a.position (code_of a.code)) (code_of a.code)

-- An event by a part of a rig: 1 to 5 and 21; 6, of every buffer handed in, of how many are in flight, of the part's places, which are to be those that
-- the event names, and of what its parties keep. 19 and 7 to 13 are those of the rig's event (`ChangePost`'s `event`).
unfoldable pub part_questions : Config → ℕ → Part → Call → List ℕ → List ℕ → Lent → List Question
part_questions cfg m p a board read l =
    rig_questions cfg m
    ++ ask 6 (all_sized cfg m board read l && leb p.count m && has_places p (places_of cfg p.count a l.messages) && part_within cfg p)
    ∷ []
