-- What a client's calls answer. On a refusal everything is as it was; else what the code leaves is what the protocol's client does, with
-- the documents' code and order of tags.
use Rattle.std.specs.Prelude.{ℕ, true, cond, ◌≡◌, List, eqb, length, replicate}
use Rattle.std.proofs.Math.Option.{Option, none, some}
use Rattle.config.specs.declared.Client.{Client}
use Rattle.config.specs.declared.Config.{Config}
use Rattle.config.specs.Number.{client_number, client_questions}
use Rattle.config.specs.Questions.{first_no}
use Rattle.config.specs.Refusal.{verdict_number}
use Rattle.record.specs.Record.{message_of}
use Rattle.protocol.specs.Boards as boards
use Rattle.protocol.specs.Boards.{Board, BoardClient, BoardEnded, BoardMoved}
use Rattle.protocol.specs.Client as protocol
use Rattle.client.specs.declared.Ended.{Ended}
use Rattle.client.specs.declared.Ended.TheVariants.{Nothing, Written, Spent, Read}
use Rattle.client.specs.declared.NewState.{NewState}
use Rattle.client.specs.declared.Moved.{Moved}
use Rattle.client.specs.declared.Phase.{Phase}
use Rattle.client.specs.declared.State.{State}
use Rattle.client.specs.Questions.{crash_questions, step_questions}
use Rattle.client.specs.Send.{front, records_of}
use Rattle.client.specs.State.{Lent, length_placed, placed, seen, state_within, view}

-- ---- fresh: questions 1 to 5, 21, and 8, does the client exist?

-- idle, the operation number "0 when fresh"
abbrev pub fresh_state : Client → State
fresh_state me = record { me = me; operation = 0; phase = Phase.Idle; length = 0; lengths = replicate 16 0 }

pub record FreshPost (cfg : Config) (me : Client) (r : NewState) : Type 0 where
  pub number : verdict_number r.verdict ≡ first_no (client_questions cfg (client_number me))
  pub state : r.state ≡ fresh_state me

-- ---- a call that moves

-- the move, or on a refusal the client as it was, with nothing sent and nothing ended
abbrev pub unless_no : ℕ → BoardClient → BoardMoved → BoardMoved
unless_no refusal x move = cond (eqb refusal 0) move (protocol.stays x)

-- what a call answers, by the number of its first no: the client seen before and after, and the move
pub record Answered (cfg : Config) (refusal : ℕ) (x : State) (before after : BoardClient) (move : BoardMoved) (sends sends' : List ℕ) (r : Moved) : Type 0 where
  -- the refusal's number, or 0
  pub number : verdict_number r.verdict ≡ refusal
  -- on a refusal the state is as it was; its own number stays in any case
  pub held : (refusal ≡ 0 → ⊥) → r.state ≡ x
  pub self : r.state.me ≡ x.me
  -- the client
  pub client : after ≡ (unless_no refusal before move).client
  -- how many records it sends, and these at the front of the sends
  pub count : r.sent ≡ length (unless_no refusal before move).sends
  pub out : sends' ≡ front (records_of cfg (unless_no refusal before move).sends) sends
  -- a state that passes question 6 is left as one that does
  pub within : state_within cfg x ≡ true → state_within cfg r.state ≡ true

-- the bytes kept, and their length: those of the board to write, where there is one
abbrev pub keeping : Option Board → List ℕ → List ℕ
keeping none kept = kept
keeping (some board) kept = board.bytes

abbrev pub keeping_length : Option Board → ℕ → ℕ
keeping_length none length = length
keeping_length (some board) length = board.length

-- begin, with the board to write or none; `es` are the elements received, which no beginning touches
pub record BeginPost (cfg : Config) (refusal : ℕ) (x : State) (board : Option Board) (kept kept' es sends sends' : List ℕ) (r : Moved) : Type 0 where
  pub answered :
      Answered cfg refusal x (view cfg x kept es) (view cfg r.state kept' es)
      (boards.begin_client cfg (client_number x.me) (view cfg x kept es) board) sends sends' r
  pub nothing : r.ended ≡ Nothing
  pub keeps : kept' ≡ cond (eqb refusal 0) (keeping board kept) kept
  pub length : r.state.length ≡ cond (eqb refusal 0) (keeping_length board x.length) x.length
  pub lengths : r.state.lengths ≡ x.lengths

-- how the operation ends, with the bytes that stand in the lent buffer
abbrev pub ended_of : Ended → List ℕ → BoardEnded
ended_of Nothing bytes = protocol.nothing
ended_of (Written t) bytes = protocol.written t
ended_of Spent bytes = protocol.spent
ended_of (Read t length) bytes = protocol.read t (record { length = length; bytes = bytes })

-- the lent buffer after that, "touched in no other answer" than a read's end
abbrev pub shown : BoardEnded → List ℕ → List ℕ
shown protocol.nothing bytes = bytes
shown (protocol.written t) bytes = bytes
shown protocol.spent bytes = bytes
shown (protocol.read t b) bytes = b.bytes

-- the protocol's step on the message of a record
abbrev pub client_step : Config → State → List ℕ → Lent → BoardMoved
client_step cfg x message l =
    boards.client_step cfg (client_number x.me) (seen cfg x l) (message_of cfg message)

-- the same, where the questions let it
abbrev pub step_of : Config → State → List ℕ → Lent → BoardMoved
step_of cfg x message l = unless_no (first_no (step_questions cfg x message l)) (seen cfg x l) (client_step cfg x message l)

-- A step on a record, with the buffers before and after: how the operation ended, the lent board, touched in no other answer than a
-- read's end, and the elements received and their lengths, with that of the record, if it has one, in its server's place. The board kept
-- stays, and so does its length.
pub record StepPost (cfg : Config) (x : State) (message : List ℕ) (l l' : Lent) (r : Moved) : Type 0 where
  pub answered :
      Answered cfg (first_no (step_questions cfg x message l)) x (seen cfg x l) (seen cfg r.state l') (client_step cfg x message l) l.sends
      l'.sends r
  pub ended : ended_of r.ended l'.board ≡ (step_of cfg x message l).ended
  pub lent : l'.board ≡ shown (step_of cfg x message l).ended l.board
  pub kept : l'.kept ≡ l.kept
  pub elements :
      l'.elements
      ≡ cond (eqb (first_no (step_questions cfg x message l)) 0) (placed cfg (message_of cfg message) l.elements) l.elements
  pub length : r.state.length ≡ x.length
  pub lengths :
      r.state.lengths
      ≡ cond (eqb (first_no (step_questions cfg x message l)) 0) (length_placed (message_of cfg message) x.lengths) x.lengths

-- ---- crash

-- the client in another phase of its operation
abbrev pub in_phase : State → Phase → State
in_phase x phase = record { me = x.me; operation = x.operation; phase = phase; length = x.length; lengths = x.lengths }

-- "crash a client": it is down, unless the call is refused; nothing is sent and nothing ends
pub record CrashPost (cfg : Config) (x : State) (r : Moved) : Type 0 where
  pub number : verdict_number r.verdict ≡ first_no (crash_questions cfg x)
  pub state : r.state ≡ cond (eqb (first_no (crash_questions cfg x)) 0) (in_phase x Phase.Down) x
  pub sent : r.sent ≡ 0
  pub nothing : r.ended ≡ Nothing
