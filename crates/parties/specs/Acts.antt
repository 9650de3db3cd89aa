-- What the parties of a rig do in an event, one server and one client of them: what each call asks, and what it leaves.
use Rattle.std.specs.Prelude.{ℕ, ◌≤◌, Bool, true, false, cond, ◌&&◌, ◌≡◌, List, [], ◌∷◌, ◌++◌, eqb, length}
use Rattle.std.proofs.Math.Option.{Option}
use Rattle.config.specs.declared.Config.{Config}
use Rattle.config.specs.Config.{questions, store_length}
use Rattle.config.specs.Number.{client_number, server_number}
use Rattle.config.specs.Questions.{Question, ask}
use Rattle.config.specs.Refusal.{refusal_number}
use Rattle.record.specs.Record.{message_of, well_formed}
use Rattle.server.specs.Within.{state_within as server_state_within}
use Rattle.server.specs.View as serverView
use Rattle.client.specs.declared.State as clientState
use Rattle.client.specs.Questions.{is_for, step_sized}
use Rattle.client.specs.Send.{front, records_of}
use Rattle.client.specs.State as clientView
use Rattle.protocol.specs.Board.{refused, nothing_ended, written_by, spent_by, read_by}
use Rattle.protocol.specs.Boards.{Board, BoardActed, BoardAnswer, BoardParties, begin, deliver}
use Rattle.protocol.specs.Parties as protocol
use Rattle.protocol.specs.Parties.{with_pair}
use Rattle.parties.specs.declared.Acted.{Acted}
use Rattle.parties.specs.declared.Answer.{Answer}
use Rattle.parties.specs.declared.Pair.{Pair}
use Rattle.protocol.specs.Sound.{Sound}

-- the parts of the buffers that are the two's: the server's store, the board that the client keeps to write, the elements that it has
-- received
pub record Parts : Type 0 where
  pub store : List ℕ
  pub kept : List ℕ
  pub elements : List ℕ

abbrev pub parts : List ℕ → List ℕ → List ℕ → Parts
parts store kept elements = record { store = store; kept = kept; elements = elements }

-- the two, with their parts, among whatever other parties there are
abbrev pub among : Config → BoardParties → Pair → Parts → BoardParties
among cfg p x l =
    with_pair p (server_number x.node.state.me) (serverView.view cfg x.node.state l.store) x.node.up
    (client_number x.client.me) (clientView.view cfg x.client l.kept l.elements)

-- An answer as the history sees it: a read's bytes are those in the lent buffer when the event returns, with the length that it tells.
abbrev pub answer_of : Answer → List ℕ → BoardAnswer
answer_of Answer.Nothing read = nothing_ended
answer_of (Answer.Written c t) read = written_by (client_number c) t
answer_of (Answer.Spent c) read = spent_by (client_number c)
answer_of (Answer.Read c t length) read = read_by (client_number c) t (record { length = length; bytes = read })
answer_of (Answer.No why) read = refused (refusal_number why)

abbrev pub is_read : Answer → Bool
is_read Answer.Nothing = false
is_read (Answer.Written c t) = false
is_read (Answer.Spent c) = false
is_read (Answer.Read c t length) = true
is_read (Answer.No why) = false

abbrev pub is_refusal : Answer → Bool
is_refusal Answer.Nothing = false
is_refusal (Answer.Written c t) = false
is_refusal (Answer.Spent c) = false
is_refusal (Answer.Read c t length) = false
is_refusal (Answer.No why) = true

-- what the parties do, or, refused with a number, the parties as they were, with nothing sent
abbrev pub outcome : ℕ → (BoardParties → BoardActed) → BoardParties → BoardActed
outcome number act p = cond (eqb number 0) (act p) (record { parties = p; sends = []; answer = refused number })

-- question 6 of the two
abbrev pub pair_within : Config → Pair → Bool
pair_within cfg x = server_state_within cfg x.node.state && clientView.state_within cfg x.client

-- What is left of the two and of the lent buffers, where `number` is the number of the first question that is answered no, or 0, and `act` is
-- what the parties do in the protocol.
pub record ActPost (cfg : Config) (number : ℕ) (act : BoardParties → BoardActed) (x : Pair) (l : Parts) (sends read : List ℕ) (r : Acted) (l' : Parts) (sends' read' : List ℕ) : Type 0 where
  -- whatever the others are, they are what the protocol's act leaves
  pub seen : (p : BoardParties) → among cfg p r.pair l' ≡ (outcome number act (among cfg p x l)).parties
  -- the refusal, or what the protocol's act answers
  pub answer : (p : BoardParties) → answer_of r.answer read' ≡ (outcome number act (among cfg p x l)).answer
  -- how many records are sent, and these at the front of the lent buffer
  pub sent : (p : BoardParties) → r.sent ≡ length (outcome number act (among cfg p x l)).sends
  pub out : (p : BoardParties) → sends' ≡ front (records_of cfg (outcome number act (among cfg p x l)).sends) sends
  -- they are messages of the configuration
  pub sound : number ≡ 0 → (p : BoardParties) → Sound cfg (act (among cfg p x l)).sends
  -- "in a lent buffer, touched in no other answer"
  pub untouched : is_read r.answer ≡ false → read' ≡ read
  -- "The first "no" is returned; state and buffers hold their old content"
  pub held : (number ≡ 0 → ⊥) → (r.pair ≡ x) × (l' ≡ l)
  -- their numbers stay, question 6 is answered yes where it was, and the buffers keep their lengths
  pub me : (r.pair.node.state.me ≡ x.node.state.me) × (r.pair.client.me ≡ x.client.me)
  pub within : pair_within cfg x ≡ true → length l.store ≡ store_length cfg → pair_within cfg r.pair ≡ true
  pub long : (length l'.store ≡ length l.store) × (length l'.kept ≡ length l.kept) × (length l'.elements ≡ length l.elements)

-- events 1 and 2: the client begins, with the board to write or none
abbrev pub begins : Config → Pair → Option Board → BoardParties → BoardActed
begins cfg x board p = begin cfg p (client_number x.client.me) board

-- event 3: a record is handed over
abbrev pub delivers : Config → List ℕ → BoardParties → BoardActed
delivers cfg handed p = deliver cfg p (message_of cfg handed)

-- events 6 and 7
abbrev pub crashes_server : Pair → BoardParties → BoardActed
crashes_server x p = protocol.crash_server p (server_number x.node.state.me)

abbrev pub crashes_client : Pair → BoardParties → BoardActed
crashes_client x p = protocol.crash_client p (client_number x.client.me)

-- event 8
abbrev pub restarts_server : Pair → BoardParties → BoardActed
restarts_server x p = protocol.restart_server p (server_number x.node.state.me)

-- A record for the client: questions 1 to 5 and 21; 6, of the record, the lent buffers and the state; 12; 16.
unfoldable pub to_client_questions : Config → clientState.State → List ℕ → ℕ → ℕ → ℕ → ℕ → List Question
to_client_questions cfg x handed kept elements sends read =
    questions cfg
    ++ ask 6 (step_sized cfg (length handed) kept elements sends read && clientView.state_within cfg x)
    ∷ ask 12 (well_formed cfg handed)
    ∷ ask 16 (is_for x (message_of cfg handed))
    ∷ []

-- A record handed to the client: where something is sent, no buffer but that of the sends is touched.
pub record ClientPost (cfg : Config) (number : ℕ) (act : BoardParties → BoardActed) (x : Pair) (l : Parts) (sends read : List ℕ) (r : Acted) (l' : Parts) (sends' read' : List ℕ) : Type 0 where
  pub acts : ActPost cfg number act x l sends read r l' sends' read'
  pub quiet : 1 ≤ r.sent → (l' ≡ l) × (read' ≡ read)
