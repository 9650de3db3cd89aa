-- The rig of document 01: its parties and the messages in flight, its events, with document 02's event 8, their questions and their answers.
use Rattle.std.specs.Prelude.{ℕ, ◌+◌, ◌≡◌, Bool, true, false, cond, ◌⊎◌, List, [], ◌∷◌, ◌++◌, eqb, leb, ltb, length}
use Rattle.std.proofs.Math.Option.{Option, none, some}
use Rattle.std.proofs.Math.ListN.{get_elem?}
use Rattle.config.specs.declared.Config.{Config}
use Rattle.config.specs.Questions.{Question, ask, first_no}
use Rattle.tag.specs.declared.Tag.{Tag}
use Rattle.record.specs.Message.{Message}
unfoldable pub use Rattle.laws.specs.Lists.{without}
use Rattle.protocol.specs.Number.{to_list}
use Rattle.protocol.specs.Client.{down}
use Rattle.protocol.specs.Parties as parties
use Rattle.protocol.specs.Parties.{Parties, Acted, fresh_parties, quiet, begin, deliver, questions_to_begin, questions_to_crash_server, questions_to_crash_client, questions_to_restart_server}
use Rattle.protocol.specs.Board.{Call, Answer, Event, refused, nothing_ended}

-- "It holds fresh servers and clients, a starting board, and the messages in flight .. in order of sending." The starting board is in
-- the fresh servers' elements.
pub record Rig (Value Element : Type 0) : Type 0 where
  pub parties : Parties Value Element
  pub in_flight : List (Message Element)

-- what an event leaves: the rig and the answer
pub record Turn (Value Element : Type 0) : Type 0 where
  pub rig : Rig Value Element
  pub answer : Answer Value

-- "Events: 1 begin write (client, V bytes), 2 begin read (client), 3 hand over the message at a position from 0, 4 lose it, 5 double
-- it (a copy goes to the end), 6 crash a server, 7 crash a client." "Event 8, naming no board, starts a crashed server again ..".
pub data Code : Type 0 where
  begin_write begin_read handOver lose double crash_server crash_client restart_server : Code

-- the event of a number, if there is one
unfoldable pub code_of : ℕ → Option Code
code_of n =
    cond (eqb n 1) (some begin_write)
    (cond (eqb n 2) (some begin_read)
    (cond (eqb n 3) (some handOver)
    (cond (eqb n 4) (some lose)
    (cond (eqb n 5) (some double)
    (cond (eqb n 6) (some crash_server)
    (cond (eqb n 7) (some crash_client) (cond (eqb n 8) (some restart_server) none)))))))

module _ {A : Type 0} where
  -- "double it (a copy goes to the end)"
  unfoldable pub doubled : ℕ → List A → List A
  doubled i xs = xs ++ to_list (get_elem? xs i)

  -- "8. Does the named .. position exist?"
  unfoldable pub position_questions : List A → ℕ → List Question
  position_questions xs i = ask 8 (ltb i (length xs)) ∷ []

module _ {Value : Type 0} where
  -- whether what event 1 brings fits; of another nothing is asked
  unfoldable pub write_fits : (Value → Bool) → Call Value → Option Code → Bool
  write_fits fits a none = true
  write_fits fits a (some begin_write) = fits a.board
  write_fits fits a (some begin_read) = true
  write_fits fits a (some handOver) = true
  write_fits fits a (some lose) = true
  write_fits fits a (some double) = true
  write_fits fits a (some crash_server) = true
  write_fits fits a (some crash_client) = true
  write_fits fits a (some restart_server) = true

-- The questions of an event, in order: 7, whether there is such an event ("Question 7 now runs to 8"); those up to 11; "12. Is the record handed over well formed?", whose answer is handed
-- in, since a model has no bytes (1 to 6 and 21 are of the configuration and of buffers, and of these it asks nothing either); and what is asked last.
abbrev pub from7 : (Code → List Question) → Bool → (Code → List Question) → Option Code → List Question
from7 to11 formed last none = ask 7 false ∷ []
from7 to11 formed last (some w) = ask 7 true ∷ to11 w ++ ask 12 formed ∷ last w

module _ {Value Element : Type 0} where
  -- "all parties up, clients idle, nothing in flight"
  unfoldable pub fresh_rig : Config → (Value → ℕ → Element) → Value → Rig Value Element
  fresh_rig cfg encode start = record { parties = fresh_parties cfg encode start; in_flight = [] }

  -- what an event leaves, given what it leaves in flight and what the parties do: "what it causes is added at the end"
  unfoldable pub leaves : List (Message Element) → Acted Value Element → Turn Value Element
  leaves ms x = record { rig = record { parties = x.parties; in_flight = ms ++ x.sends }; answer = x.answer }

  -- The questions 8 to 11, as far as they concern an event: "8. Does the named client, server or position exist? 9. Is the party to begin
  -- or crash up? 10. Is the beginning client idle? 11. Is its operation number below 4,294,967,295?" 9 of event 8 is another question.
  unfoldable pub questions_to11 : Config → Rig Value Element → Call Value → Code → List Question
  questions_to11 cfg r a begin_write = questions_to_begin cfg r.parties a.party
  questions_to11 cfg r a begin_read = questions_to_begin cfg r.parties a.party
  questions_to11 cfg r a handOver = position_questions r.in_flight a.position
  questions_to11 cfg r a lose = position_questions r.in_flight a.position
  questions_to11 cfg r a double = position_questions r.in_flight a.position
  questions_to11 cfg r a crash_server = questions_to_crash_server cfg r.parties a.party
  questions_to11 cfg r a crash_client = questions_to_crash_client cfg r.parties a.party
  questions_to11 cfg r a restart_server = questions_to_restart_server cfg r.parties a.party

  -- "13. Would at most M be in flight afterwards?" of what the event would leave
  unfoldable pub has_room : ℕ → Turn Value Element → Bool
  has_room most t = leb (length t.rig.in_flight) most

  -- "The first "no" is returned; state and buffers hold their old content": a refused event leaves the rig as it was
  unfoldable pub unless_no : Rig Value Element → Turn Value Element → ℕ → Turn Value Element
  unless_no r t number = cond (eqb number 0) t (record { rig = r; answer = refused number })

module _ {Value Element : Type 0} (key : Tag → ℕ) (encode : Value → ℕ → Element) (decode : List (ℕ × Element) → Value) (cfg : Config) where
  -- the message at a position is handed over; where there is none, nothing happens
  unfoldable pub deliver_at : Parties Value Element → Option (Message Element) → Acted Value Element
  deliver_at p none = quiet p
  deliver_at p (some m) = deliver key encode decode cfg p m

  -- What an event does, once its questions are answered. "A message handed over leaves the list first; what it causes is added at the
  -- end."
  unfoldable pub move : Rig Value Element → Call Value → Code → Turn Value Element
  move r a begin_write = leaves r.in_flight (begin cfg r.parties a.party (some a.board))
  move r a begin_read = leaves r.in_flight (begin cfg r.parties a.party none)
  move r a handOver = leaves (without a.position r.in_flight) (deliver_at r.parties (get_elem? r.in_flight a.position))
  move r a lose = leaves (without a.position r.in_flight) (quiet r.parties)
  move r a double = leaves (doubled a.position r.in_flight) (quiet r.parties)
  move r a crash_server = leaves r.in_flight (parties.crash_server r.parties a.party)
  move r a crash_client = leaves r.in_flight (parties.crash_client r.parties a.party)
  move r a restart_server = leaves r.in_flight (parties.restart_server r.parties a.party)

  -- nothing, where there is no such event
  unfoldable pub move_of : Rig Value Element → Call Value → Option Code → Turn Value Element
  move_of r a none = record { rig = r; answer = nothing_ended }
  move_of r a (some w) = move r a w

  -- 7 to 13, where M is the most that may be in flight
  unfoldable pub questions : ℕ → Rig Value Element → Call Value → Bool → Option Code → List Question
  questions most r a formed w = from7 (questions_to11 cfg r a) formed (λ x. ask 13 (has_room most (move r a x)) ∷ []) w

  -- "19, is the write's length at most V, placed after 6", and then those; `fits` says it of a board
  abbrev pub questions_after6 : (Value → Bool) → ℕ → Rig Value Element → Call Value → Bool → Option Code → List Question
  questions_after6 fits most r a formed w = ask 19 (write_fits fits a w) ∷ questions most r a formed w

  -- an event of the rig; its messages are well formed
  unfoldable pub event : (Value → Bool) → ℕ → Rig Value Element → Call Value → Turn Value Element
  event fits most r a =
      unless_no r (move_of r a (code_of a.code)) (first_no (questions_after6 fits most r a true (code_of a.code)))

  -- "Each event gets the rig as the one before left it": the events of a list of calls
  unfoldable pub run : (Value → Bool) → ℕ → Rig Value Element → List (Call Value) → List (Event Value)
  run fits most r [] = []
  run fits most r (a ∷ later) =
      let t = event fits most r a in
      record { call = a; answer = t.answer } ∷ run fits most t.rig later

-- What happens on another board, or to a party of all boards, between this board's events: its servers keep what they have, its messages stay
-- in flight, and each of its clients is as it was or down. Which servers are up may change in any way.
pub record Elsewhere {Value Element : Type 0} (r r' : Rig Value Element) : Type 0 where
  pub servers : r'.parties.servers ≡ r.parties.servers
  pub in_flight : r'.in_flight ≡ r.in_flight
  pub clients : (c : ℕ) → (r'.parties.clients c ≡ r.parties.clients c)
      ⊎ (r'.parties.clients c ≡ record { operation = (r.parties.clients c).operation; phase = down })

-- An execution: the rig that it comes to, and its events. Any event may be refused, for any reason, want of room among them, and then nothing changes; an
-- accepted one is the model's move, once the questions 7 to 11 are answered, and a board that it writes is a board. What happens elsewhere is
-- no event of this board.
pub data Execution {Value Element : Type 0} (key : Tag → ℕ) (encode : Value → ℕ → Element) (decode : List (ℕ × Element) → Value) (cfg : Config)
    (IsBoard : Value → Type 0) (start : Value) : Rig Value Element → List (Event Value) → Type 0 where
  fresh : Execution key encode decode cfg IsBoard start (fresh_rig cfg encode start) []
  refuses : {r : Rig Value Element} {events : List (Event Value)} → Execution key encode decode cfg IsBoard start r events
      → (a : Call Value) (number : ℕ)
      → Execution key encode decode cfg IsBoard start r (events ++ (record { call = a; answer = refused number } ∷ []))
  moves : {r : Rig Value Element} {events : List (Event Value)} → Execution key encode decode cfg IsBoard start r events
      → (a : Call Value) (w : Code) → code_of a.code ≡ some w → first_no (questions_to11 cfg r a w) ≡ 0
      → (w ≡ begin_write → IsBoard a.board)
      → Execution key encode decode cfg IsBoard start (move key encode decode cfg r a w).rig
      (events ++ (record { call = a; answer = (move key encode decode cfg r a w).answer } ∷ []))
  elsewhere : {r r' : Rig Value Element} {events : List (Event Value)} → Execution key encode decode cfg IsBoard start r events
      → Elsewhere r r' → Execution key encode decode cfg IsBoard start r' events
