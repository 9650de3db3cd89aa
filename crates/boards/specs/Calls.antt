-- The making of a rig of several boards, and its events: what each answers and leaves.
use Rattle.std.specs.Prelude.{ℕ, ◌-◌, ◌*◌, true, false, ◌&&◌, ◌≡◌, List, [], ◌∷◌, ◌++◌, eqb, length, replicate}
use Rattle.laws.specs.Owners.{place_of}
use Rattle.laws.specs.Parts.{part}
use Rattle.config.specs.declared.Config.{Config}
use Rattle.config.specs.declared.Room.{Room}
use Rattle.config.specs.Config.{board_length}
use Rattle.config.specs.Questions.{Question, ask, first_no}
use Rattle.config.specs.Refusal.{verdict_number}
use Rattle.config.specs.Room.{most_boards, room_questions}
use Rattle.protocol.specs.Boards.{Board, BoardCall, BoardNetworkTurn, board_of, fresh_network, network_move_of, starting_board}
use Rattle.protocol.specs.Network.{On, names_board, unless_refused}
use Rattle.protocol.specs.Rig.{code_of}
use Rattle.parties.specs.Acts.{answer_of, is_read}
use Rattle.events.specs.Calls.{records_after}
use Rattle.rig.specs.Calls as one
use Rattle.boards.specs.declared.Call.{Call}
use Rattle.boards.specs.declared.Made.{Made}
use Rattle.boards.specs.declared.Rig.{Rig}
use Rattle.boards.specs.declared.Turn.{Turn}
use Rattle.boards.specs.View.{Lent, board_by, flight, owners_of, view}
use Rattle.boards.specs.Questions.{event_questions, rig_within, sized}

-- the starting board of board b: they are joined, that of board 1 first
abbrev pub start_of : Config → List ℕ → ℕ → Board
start_of cfg start b = starting_board cfg (part (board_length cfg) (b - 1) start)

-- Making: questions 1 to 5, 21 and 22; 6, of the starting boards and of the buffers lent.
unfoldable pub make_questions : Config → Room → List ℕ → Lent → List Question
make_questions cfg room start l = room_questions cfg room ++ ask 6 (eqb (length start) (room.boards * board_length cfg) && sized cfg room l) ∷ []

-- the number of the first question that is answered no, or 0
abbrev pub make_no : Config → Room → List ℕ → Lent → ℕ
make_no cfg room start l = first_no (make_questions cfg room start l)

-- the rig that a refused making gives: every board is as a refused making of one leaves it, and nothing is in flight
abbrev pub least_rig : Rig
least_rig = record { boards = replicate most_boards (board_by one.least_rig); count = 0 }

-- Making a rig of starting boards, with the buffers as they were and as they are left.
pub record MakePost (cfg : Config) (room : Room) (start : List ℕ) (l : Lent) (r : Made) (l' : Lent) : Type 0 where
  pub number : verdict_number r.verdict ≡ make_no cfg room start l
  -- fresh servers and clients for each board, with its own starting board, and no messages in flight
  pub seen : make_no cfg room start l ≡ 0 → view cfg room r.rig l' ≡ fresh_network cfg room (start_of cfg start)
  -- the rig passes every question about a state
  pub within : make_no cfg room start l ≡ 0 → rig_within cfg room r.rig l'.owners ≡ true
  pub lengths : sized cfg room l' ≡ sized cfg room l
  -- "The first "no" is returned; state and buffers hold their old content"
  pub held : (make_no cfg room start l ≡ 0 → ⊥) → l' ≡ l
  pub refused : (make_no cfg room start l ≡ 0 → ⊥) → r.rig ≡ least_rig

-- a call as the history sees it, with the board handed in and the board that it names
abbrev pub called : Call → List ℕ → On BoardCall
called a board =
    record { board = a.board; it = record { code = a.code; party = a.party; position = a.position; board = board_of a.length board } }

-- the refusal's number, or 0
abbrev pub event_no : Config → Room → Rig → On BoardCall → List ℕ → Lent → ℕ
event_no cfg room r a read l = first_no (event_questions cfg room r a read l)

-- what the network's event leaves and answers, or the refusal with all as it was
abbrev pub outcome : Config → Room → Rig → On BoardCall → List ℕ → Lent → BoardNetworkTurn
outcome cfg room r a read l =
    unless_refused (view cfg room r l) (network_move_of cfg room (view cfg room r l) a.board a.it (code_of a.it.code))
    (event_no cfg room r a read l)

-- An event, with the lent buffers as they were and as they are left.
pub record EventPost (cfg : Config) (room : Room) (r : Rig) (a : On BoardCall) (read : List ℕ) (l : Lent) (t : Turn) (read' : List ℕ) (l' : Lent) : Type 0 where
  -- the refusal, or what the network's event answers
  pub answer : answer_of t.answer read' ≡ (outcome cfg room r a read l).answer
  -- "in a lent buffer, touched in no other answer"
  pub untouched : is_read t.answer ≡ false → read' ≡ read
  -- the rig left is what the network's event leaves
  pub seen : view cfg room t.rig l' ≡ (outcome cfg room r a read l).network
  -- the records in flight, byte for byte
  pub records : event_no cfg room r a read l ≡ 0
      → flight t.rig l' ≡ records_after cfg (flight r l) (place_of a.board a.it.position (owners_of r l)) (outcome cfg room r a read l).network.in_flight (code_of a.it.code)
  -- the rig left passes every question about a state
  pub within : event_no cfg room r a read l ≡ 0 → rig_within cfg room t.rig l'.owners ≡ true
  pub lengths : sized cfg room l' ≡ sized cfg room l
  -- "The first "no" is returned; state and buffers hold their old content"
  pub held : (event_no cfg room r a read l ≡ 0 → ⊥) → (t.rig ≡ r) × (l' ≡ l)
  -- an event that names no board, a crash or a restart among them, touches no buffer: what the parties keep there is left byte for byte, on every board
  pub buffers_stay : names_board (code_of a.it.code) ≡ false → l' ≡ l
