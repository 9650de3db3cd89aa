-- An event of a rig, and the same by the part of the rig that it can touch: what each answers and leaves.
use Rattle.std.specs.Prelude.{ℕ, ◌-◌, Bool, true, false, ◌&&◌, ◌≡◌, List, [], ◌∷◌, ◌++◌, map, leb, length, drop, set}
use Rattle.std.proofs.Math.Option.{Option, none, some}
use Rattle.std.proofs.Math.ListN.{get_elem?}
use Rattle.laws.specs.Lists.{to_list, without}
use Rattle.config.specs.declared.Config.{Config}
use Rattle.config.specs.Config.{rig_questions}
use Rattle.config.specs.Questions.{ask, first_no}
use Rattle.record.specs.Record.{record_of}
use Rattle.client.specs.declared.State as client
use Rattle.protocol.specs.Boards.{BoardCall, BoardMessage, BoardTurn, board_of, move_of}
use Rattle.protocol.specs.Network.{names_board}
use Rattle.protocol.specs.Rig.{Code, begin_write, begin_read, handOver, lose, double, crash_server, crash_client, restart_server, code_of, unless_no}
use Rattle.protocol.specs.Board.{refused}
use Rattle.parties.specs.declared.Node.{Node}
use Rattle.parties.specs.Acts.{answer_of, is_read}
use Rattle.events.specs.declared.Call.{Call}
use Rattle.events.specs.declared.Change.{Change}
use Rattle.events.specs.declared.CrashOrRestart.{CrashOrRestart}
use Rattle.events.specs.declared.Part.{Part}
use Rattle.events.specs.declared.Places.{Places}
use Rattle.events.specs.declared.Rig.{Rig}
use Rattle.events.specs.declared.Turn.{Turn}
use Rattle.events.specs.View.{Lent, flight, view}
use Rattle.events.specs.Questions.{all_sized, event_questions, has_places, part_questions, part_within, places_of, rig_within, sized}

-- an event as it is called: its code, party and position, and the board handed in, of the length handed in
abbrev pub called : Call → List ℕ → BoardCall
called a board = record { code = a.code; party = a.party; position = a.position; board = board_of a.length board }

-- the refusal's number, or 0
abbrev pub event_no : Config → ℕ → Rig → BoardCall → List ℕ → Lent → ℕ
event_no cfg m r a read l = first_no (event_questions cfg m r a read l)

-- what the protocol's event leaves and answers, or the refusal with all as it was
abbrev pub outcome : Config → ℕ → Rig → BoardCall → List ℕ → Lent → BoardTurn
outcome cfg m r a read l = unless_no (view cfg r l) (move_of cfg (view cfg r l) a (code_of a.code)) (event_no cfg m r a read l)

-- the records in flight after an event that was not refused, with the messages then in flight: those that stay are left byte for
-- byte, "in order of sending", and what is sent stands at the end
unfoldable pub records_after : Config → List (List ℕ) → ℕ → List BoardMessage → Option Code → List (List ℕ)
records_after cfg rs i ms none = rs
records_after cfg rs i ms (some begin_write) = rs ++ map (record_of cfg) (drop (length rs) ms)
records_after cfg rs i ms (some begin_read) = rs ++ map (record_of cfg) (drop (length rs) ms)
records_after cfg rs i ms (some handOver) = without i rs ++ map (record_of cfg) (drop (length rs - 1) ms)
records_after cfg rs i ms (some lose) = without i rs
records_after cfg rs i ms (some double) = rs ++ to_list (get_elem? rs i)
records_after cfg rs i ms (some crash_server) = rs
records_after cfg rs i ms (some crash_client) = rs
records_after cfg rs i ms (some restart_server) = rs

-- An event, with the lent buffers as they were and as they are left.
pub record EventPost (cfg : Config) (m : ℕ) (r : Rig) (a : BoardCall) (read : List ℕ) (l : Lent) (t : Turn) (read' : List ℕ) (l' : Lent) : Type 0 where
  -- the refusal, or what the protocol's event answers
  pub answer : answer_of t.answer read' ≡ (outcome cfg m r a read l).answer
  -- "in a lent buffer, touched in no other answer"
  pub untouched : is_read t.answer ≡ false → read' ≡ read
  -- the rig left is what the protocol's event leaves
  pub seen : view cfg t.rig l' ≡ (outcome cfg m r a read l).rig
  -- the records in flight, byte for byte
  pub records : event_no cfg m r a read l ≡ 0
      → flight t.rig l' ≡ records_after cfg (flight r l) a.position (outcome cfg m r a read l).rig.in_flight (code_of a.code)
  -- the rig left passes every question about a state
  pub within : event_no cfg m r a read l ≡ 0 → rig_within cfg m t.rig ≡ true
  pub lengths : sized cfg m l' ≡ sized cfg m l
  -- "The first "no" is returned; state and buffers hold their old content"
  pub held : (event_no cfg m r a read l ≡ 0 → ⊥) → (t.rig ≡ r) × (l' ≡ l)
  -- an event that names no board, a crash or a restart among them, touches no buffer: what the parties keep there is left byte for byte
  pub buffers_stay : names_board (code_of a.code) ≡ false → l' ≡ l

-- the rig with a part put in its places
abbrev pub with_part : Rig → Part → Rig
with_part r p =
    record {
      servers = set r.servers p.server p.pair.node;
      clients = set r.clients p.client p.pair.client;
      count = p.count;
    }

-- what a change makes of a rig
abbrev pub turned : Rig → Change → Turn
turned r x = record { answer = x.answer; rig = with_part r x.part }

-- the part of these places, parties and count
abbrev pub part_at : Places → Node → client.State → ℕ → Part
part_at x node state count = record { server = x.server; client = x.client; pair = record { node = node; client = state }; count = count }

-- a part is of a rig: its parties stand there in its places, and the count is the rig's
pub record PartOf (r : Rig) (p : Part) : Type 0 where
  pub node : get_elem? r.servers p.server ≡ some p.pair.node
  pub client : get_elem? r.clients p.client ≡ some p.pair.client
  pub count : r.count ≡ p.count

-- the first of the part's questions that is answered no, or 0
abbrev pub part_no : Config → ℕ → Part → Call → List ℕ → List ℕ → Lent → ℕ
part_no cfg m p a board read l = first_no (part_questions cfg m p a board read l)

-- The same event by the part of a rig that it can touch.
pub record ChangePost (cfg : Config) (m : ℕ) (p : Part) (a : Call) (board read : List ℕ) (l : Lent) (x : Change) (read' : List ℕ) (l' : Lent) : Type 0 where
  -- its places stay
  pub server : x.part.server ≡ p.server
  pub client : x.part.client ≡ p.client
  -- "The first "no" is returned; state and buffers hold their old content"
  pub refuses : (part_no cfg m p a board read l ≡ 0 → ⊥)
      → (answer_of x.answer read' ≡ refused (part_no cfg m p a board read l)) × (x.part ≡ p) × (read' ≡ read) × (l' ≡ l)
  -- of every rig that the part is of and whose parties pass question 6: what is left, put into the part's places, is what the rig's event
  -- leaves, with its answer and its buffers
  pub event : part_no cfg m p a board read l ≡ 0 → (r : Rig) → PartOf r p → rig_within cfg m r ≡ true
      → EventPost cfg m r (called a board) read l (turned r x) read' l'

-- "6 crash a server, 7 crash a client", and 8, which "starts a crashed server again"
abbrev pub code_in : CrashOrRestart → ℕ
code_in CrashOrRestart.CrashServer = 6
code_in CrashOrRestart.CrashClient = 7
code_in CrashOrRestart.RestartServer = 8

-- that event of a party, as it is called
abbrev pub call_of : CrashOrRestart → ℕ → Call
call_of k party = record { code = code_in k; party = party; position = 0; length = 0 }

-- 6 of a part, for a crash or a restart alone: how many are in flight, its places, which are to be those that the event names, and what its parties
-- keep. Which places it names does not hang on the messages.
abbrev pub alone_within : Config → ℕ → Part → Call → Bool
alone_within cfg m p a = leb p.count m && has_places p (places_of cfg p.count a []) && part_within cfg p

-- the first of questions 1 to 5, 21 and 6 that is answered no, or 0
abbrev pub alone_no : Config → ℕ → Part → Call → ℕ
alone_no cfg m p a = first_no (rig_questions cfg m ++ ask 6 (alone_within cfg m p a) ∷ [])

-- Events 6, 7 and 8 alone, by the part of a rig that they name.
pub record AloneChangePost (cfg : Config) (m : ℕ) (p : Part) (a : Call) (x : Change) : Type 0 where
  -- its places stay
  pub server : x.part.server ≡ p.server
  pub client : x.part.client ≡ p.client
  -- "The first "no" is returned; state and buffers hold their old content"
  pub refuses : (alone_no cfg m p a ≡ 0 → ⊥) → (read : List ℕ) → (answer_of x.answer read ≡ refused (alone_no cfg m p a)) × (x.part ≡ p)
  -- of every rig that the part is of and whose parties pass question 6, with any buffers of their lengths: what is left, put into the part's
  -- places, is what the rig's event leaves, with its answer; the buffers stay
  pub event : alone_no cfg m p a ≡ 0 → (board read : List ℕ) (l : Lent) (r : Rig) → PartOf r p → rig_within cfg m r ≡ true
      → all_sized cfg m (called a board).board.bytes read l ≡ true
      → EventPost cfg m r (called a board) read l (turned r x) read l
