-- Document 02, "Group visits: several boards, one network": the parties of each board, and the messages of all in flight. An event names its
-- board, and is that board's event; a crash or a restart names none, and is one on every board.
use Rattle.std.specs.Prelude.{ℕ, ◌+◌, ◌-◌, ◌≡◌, Bool, true, false, cond, ◌&&◌, List, [], ◌∷◌, ◌++◌, eqb, length, replicate}
use Rattle.std.proofs.Math.Option.{Option, none, some}
use Rattle.laws.specs.Lists.{without}
use Rattle.laws.specs.Owners.{own, place_of}
use Rattle.config.specs.declared.Config.{Config}
use Rattle.config.specs.declared.Room.{Room}
use Rattle.config.specs.Questions.{Question, ask, first_no, within}
use Rattle.config.specs.Room.{fits_room}
use Rattle.tag.specs.declared.Tag.{Tag}
use Rattle.record.specs.Message.{Message}
use Rattle.protocol.specs.Number.{upd}
use Rattle.protocol.specs.Server.{no_server}
use Rattle.protocol.specs.Client.{fresh_client}
use Rattle.protocol.specs.Parties as parties
use Rattle.protocol.specs.Parties.{Parties, fresh_parties}
use Rattle.protocol.specs.Board.{Call, Answer, Event, refused, nothing_ended}
use Rattle.protocol.specs.Rig as rig
use Rattle.protocol.specs.Rig.{Rig, Turn, Code, begin_write, begin_read, handOver, lose, double, crash_server, crash_client, restart_server, code_of, from7, write_fits, questions_to11}

-- "run over the same servers and clients, each with its own starting board, tags, stores and operations, and share the M messages in flight":
-- the parties of each board, by its number from 1; the messages in order of sending; and "each message's board beside its record"
pub record Network (Value Element : Type 0) : Type 0 where
  pub parties : ℕ → Parties Value Element
  pub in_flight : List (Message Element)
  pub owners : List ℕ

-- a call, or an event, with the board that it names. A crash, a restart and an unknown event name none, and then the number is not looked at.
pub record On (A : Type 0) : Type 0 where
  pub board : ℕ
  pub it : A

-- what an event leaves: the network and the answer
pub record NetworkTurn (Value Element : Type 0) : Type 0 where
  pub network : Network Value Element
  pub answer : Answer Value

-- "Every event except a crash names its board"; "an unknown event names none"; "Event 8, naming no board"
unfoldable pub names_board : Option Code → Bool
names_board none = false
names_board (some begin_write) = true
names_board (some begin_read) = true
names_board (some handOver) = true
names_board (some lose) = true
names_board (some double) = true
names_board (some crash_server) = false
names_board (some crash_client) = false
names_board (some restart_server) = false

-- "does the named board exist"
unfoldable pub board_exists : Room → ℕ → Option Code → Bool
board_exists room b w = cond (names_board w) (within 1 room.boards b) true

-- the board whose parties an event is asked of. "a party is down on all boards or none": one that names none is asked of board 1's.
unfoldable pub asked_board : ℕ → Code → ℕ
asked_board b w = cond (names_board (some w)) b 1

-- the boards of the messages that stay: where one leaves the list, from a place, its board leaves with it
unfoldable pub owners_kept : ℕ → List ℕ → Code → List ℕ
owners_kept p os begin_write = os
owners_kept p os begin_read = os
owners_kept p os handOver = without p os
owners_kept p os lose = without p os
owners_kept p os double = os
owners_kept p os crash_server = os
owners_kept p os crash_client = os
owners_kept p os restart_server = os

-- and of those that are then in flight, so many: what is added at the end is of the named board
unfoldable pub owners_after : ℕ → ℕ → List ℕ → ℕ → Code → List ℕ
owners_after b p os count w = owners_kept p os w ++ replicate (count - length (owners_kept p os w)) b

-- an event, called with this board, is of board b: it names it
abbrev pub is_named : ℕ → Option Code → ℕ → Bool
is_named b w board = names_board w && eqb board b

module _ {Value : Type 0} where
  unfoldable pub is_of : ℕ → On (Event Value) → Bool
  is_of b x = is_named b (code_of x.it.call.code) x.board

  -- "Each board has its own single-board history, taken from the events that name it"
  unfoldable pub events_of : ℕ → List (On (Event Value)) → List (Event Value)
  events_of b [] = []
  events_of b (x ∷ xs) = cond (is_of b x) (x.it ∷ events_of b xs) (events_of b xs)

module _ {Value Element : Type 0} where
  -- board b by itself: its parties and its messages, in order of sending
  unfoldable pub rig_of : ℕ → Network Value Element → Rig Value Element
  rig_of b n = record { parties = n.parties b; in_flight = own b n.owners n.in_flight }

  -- its parties, with the messages of all
  unfoldable pub among_all : ℕ → Network Value Element → Rig Value Element
  among_all b n = record { parties = n.parties b; in_flight = n.in_flight }

  -- "positions count that board's messages only": the call with the place of that message among all
  unfoldable pub placed : ℕ → Network Value Element → Call Value → Call Value
  placed b n a = record { code = a.code; party = a.party; position = place_of b a.position n.owners; board = a.board }

  -- the parties of a board that there is not
  unfoldable pub no_parties : Parties Value Element
  no_parties = record { servers = λ s. no_server; up = λ s. true; clients = λ c. fresh_client }

  -- fresh parties for each board, with its own starting board, and nothing in flight
  unfoldable pub fresh_network : Config → Room → (Value → ℕ → Element) → (ℕ → Value) → Network Value Element
  fresh_network cfg room encode starts =
      record {
        parties = λ b. cond (within 1 room.boards b) (fresh_parties cfg encode (starts b)) no_parties;
        in_flight = [];
        owners = [];
      }

  -- every board's parties changed alike
  unfoldable pub on_each : Room → (Parties Value Element → Parties Value Element) → Network Value Element → Network Value Element
  on_each room f n =
      record {
        parties = λ b. cond (within 1 room.boards b) (f (n.parties b)) (n.parties b);
        in_flight = n.in_flight;
        owners = n.owners;
      }

  -- a crash or a restart, on every board
  unfoldable pub turned_on_each : Room → (Parties Value Element → Parties Value Element) → Network Value Element → NetworkTurn Value Element
  turned_on_each room f n = record { network = on_each room f n; answer = nothing_ended }

  -- board b after its event, in which the message at a place is the one that is named; the other boards' parties stay
  unfoldable pub turned_on : ℕ → ℕ → Network Value Element → Code → Turn Value Element → NetworkTurn Value Element
  turned_on b p n w t =
      record {
        network =
            record {
              parties = upd n.parties b t.rig.parties;
              in_flight = t.rig.in_flight;
              owners = owners_after b p n.owners (length t.rig.in_flight) w;
            };
        answer = t.answer;
      }

  -- questions 8 to 11: of the board by itself; of an event that names none, of board 1
  unfoldable pub network_to11 : Config → Network Value Element → ℕ → Call Value → Code → List Question
  network_to11 cfg n b a w = questions_to11 cfg (rig_of (asked_board b w) n) a w

  -- "The first "no" is returned; state and buffers hold their old content"
  unfoldable pub unless_refused : Network Value Element → NetworkTurn Value Element → ℕ → NetworkTurn Value Element
  unless_refused n t number = cond (eqb number 0) t (record { network = n; answer = refused number })

module _ {Value Element : Type 0} (key : Tag → ℕ) (encode : Value → ℕ → Element) (decode : List (ℕ × Element) → Value) (cfg : Config) where
  -- the one-board event of the board's parties, with the messages of all in flight, at the place of the message that is named
  unfoldable pub board_move : Network Value Element → ℕ → Call Value → Code → NetworkTurn Value Element
  board_move n b a w = turned_on b (place_of b a.position n.owners) n w (rig.move key encode decode cfg (among_all b n) (placed b n a) w)

  -- What an event does, once its questions are answered.
  unfoldable pub network_move : Room → Network Value Element → ℕ → Call Value → Code → NetworkTurn Value Element
  network_move room n b a begin_write = board_move n b a begin_write
  network_move room n b a begin_read = board_move n b a begin_read
  network_move room n b a handOver = board_move n b a handOver
  network_move room n b a lose = board_move n b a lose
  network_move room n b a double = board_move n b a double
  network_move room n b a crash_server = turned_on_each room (λ p. (parties.crash_server p a.party).parties) n
  network_move room n b a crash_client = turned_on_each room (λ p. (parties.crash_client p a.party).parties) n
  network_move room n b a restart_server = turned_on_each room (λ p. (parties.restart_server p a.party).parties) n

  -- nothing, where there is no such event
  unfoldable pub network_move_of : Room → Network Value Element → ℕ → Call Value → Option Code → NetworkTurn Value Element
  network_move_of room n b a none = record { network = n; answer = nothing_ended }
  network_move_of room n b a (some w) = network_move room n b a w

  -- 7 to 13. The answer to 12 is handed in; 13 goes by what the whole event would leave.
  unfoldable pub network_from7 : Room → Network Value Element → ℕ → Call Value → Bool → Option Code → List Question
  network_from7 room n b a formed w = from7 (network_to11 cfg n b a) formed (λ x. ask 13 (fits_room room (network_move room n b a x).network.owners) ∷ []) w

  -- 19, and then those
  abbrev pub network_after6 : (Value → Bool) → Room → Network Value Element → ℕ → Call Value → Bool → Option Code → List Question
  network_after6 fits room n b a formed w = ask 19 (write_fits fits a w) ∷ network_from7 room n b a formed w

  -- 22, whether the named board exists, 19, and 7 to 13, as a model asks them: its messages are well formed
  unfoldable pub network_questions : (Value → Bool) → Room → Network Value Element → On (Call Value) → List Question
  network_questions fits room n x =
      ask 22 (board_exists room x.board (code_of x.it.code)) ∷ network_after6 fits room n x.board x.it true (code_of x.it.code)

  -- an event of the network
  unfoldable pub network_event : (Value → Bool) → Room → Network Value Element → On (Call Value) → NetworkTurn Value Element
  network_event fits room n x =
      unless_refused n (network_move_of room n x.board x.it (code_of x.it.code)) (first_no (network_questions fits room n x))

  -- the events of a list of calls
  unfoldable pub network_run : (Value → Bool) → Room → Network Value Element → List (On (Call Value)) → List (On (Event Value))
  network_run fits room n [] = []
  network_run fits room n (x ∷ later) =
      let t = network_event fits room n x in
      record { board = x.board; it = record { call = x.it; answer = t.answer } } ∷ network_run fits room t.network later

-- An execution of a network: any event may be refused, for any reason, and then nothing changes; an accepted one is the move, once the named
-- board exists and questions 7 to 11 are answered, and a board that it writes is a board.
pub data NetworkExecution {Value Element : Type 0} (key : Tag → ℕ) (encode : Value → ℕ → Element) (decode : List (ℕ × Element) → Value) (cfg : Config)
    (IsBoard : Value → Type 0) (room : Room) (starts : ℕ → Value) : Network Value Element → List (On (Event Value)) → Type 0 where
  fresh : NetworkExecution key encode decode cfg IsBoard room starts (fresh_network cfg room encode starts) []
  refuses : {n : Network Value Element} {events : List (On (Event Value))} → NetworkExecution key encode decode cfg IsBoard room starts n events
      → (x : On (Call Value)) (number : ℕ)
      → NetworkExecution key encode decode cfg IsBoard room starts n
      (events ++ (record { board = x.board; it = record { call = x.it; answer = refused number } } ∷ []))
  moves : {n : Network Value Element} {events : List (On (Event Value))} → NetworkExecution key encode decode cfg IsBoard room starts n events
      → (x : On (Call Value)) (w : Code) → code_of x.it.code ≡ some w → board_exists room x.board (some w) ≡ true
      → first_no (network_to11 cfg n x.board x.it w) ≡ 0 → (w ≡ begin_write → IsBoard x.it.board)
      → NetworkExecution key encode decode cfg IsBoard room starts (network_move key encode decode cfg room n x.board x.it w).network
      (events ++ (record { board = x.board; it = record { call = x.it; answer = (network_move key encode decode cfg room n x.board x.it w).answer } } ∷ []))
