-- What a client's calls ask, in the documents' order.
use Rattle.std.specs.Prelude.{ℕ, Bool, true, ◌&&◌, List, [], ◌∷◌, ◌++◌, eqb, length}
use Rattle.config.specs.declared.Config.{Config}
use Rattle.config.specs.Config.{board_length, elements_length, questions, record_length, sends_length}
use Rattle.config.specs.Questions.{Question, ask}
use Rattle.config.specs.Number.{client_number}
use Rattle.record.specs.Kinds.{is_for_client}
use Rattle.record.specs.Record.{message_of, well_formed}
use Rattle.protocol.specs.Boards.{BoardMessage, awaited, board_of, fits_in}
use Rattle.protocol.specs.Client.{begin_questions, is_up}
use Rattle.client.specs.declared.State.{State}
use Rattle.client.specs.State.{Lent, bare, seen, state_within}

-- "Has each buffer its length (V for boards, .. N × E for the elements a client has received, .. 80 × N for a client's sends"
abbrev pub is_board : Config → ℕ → Bool
is_board cfg n = eqb n (board_length cfg)

abbrev pub is_elements : Config → ℕ → Bool
is_elements cfg n = eqb n (elements_length cfg)

abbrev pub is_sends : Config → ℕ → Bool
is_sends cfg n = eqb n (sends_length cfg)

-- a call: questions 1 to 5 and 21; 6, of the buffers that it is lent and of the state; then the others that concern it
unfoldable pub call_questions : Config → Bool → State → List Question → List Question
call_questions cfg sized x others = questions cfg ++ ask 6 (sized && state_within cfg x) ∷ others

-- a state alone
abbrev pub state_questions : Config → State → List Question
state_questions cfg x = call_questions cfg true x []

-- a client that is to begin: 9, 10 and 11, which ask nothing of its buffers
abbrev pub ask_begin_questions : Config → State → List Question
ask_begin_questions cfg x = call_questions cfg true x (begin_questions (bare cfg x))

-- the buffers of begin write: the board handed in, the board kept and the sends, by their lengths
abbrev pub write_sized : Config → ℕ → ℕ → ℕ → Bool
write_sized cfg board kept sends = is_board cfg board && (is_board cfg kept && is_sends cfg sends)

-- begin write: "19, is the write's length at most V, placed after 6"
abbrev pub begin_write_questions : Config → State → ℕ → List ℕ → List ℕ → List ℕ → List Question
begin_write_questions cfg x n board kept sends =
    call_questions cfg (write_sized cfg (length board) (length kept) (length sends)) x
    (ask 19 (fits_in cfg (board_of n board)) ∷ begin_questions (bare cfg x))

-- begin read lends the sends alone
abbrev pub begin_read_questions : Config → State → List ℕ → List Question
begin_read_questions cfg x sends = call_questions cfg (is_sends cfg (length sends)) x (begin_questions (bare cfg x))

-- a crash: "9. Is the party to begin or crash up?"
abbrev pub crash_questions : Config → State → List Question
crash_questions cfg x = call_questions cfg true x (ask 9 (is_up (bare cfg x).phase) ∷ [])

-- the buffers of a step: the record handed over, the board kept, the elements received, the sends and the lent board
abbrev pub step_sized : Config → ℕ → ℕ → ℕ → ℕ → ℕ → Bool
step_sized cfg message kept es sends board =
    eqb message record_length && (is_board cfg kept && (is_elements cfg es && (is_sends cfg sends && is_board cfg board)))

-- "is the record for this party, in a kind it receives?"
abbrev pub is_for : State → BoardMessage → Bool
is_for x m = eqb m.client (client_number x.me) && is_for_client m.kind

-- "12. Is the record handed over well formed?", then 16, before 14, "is the answer awaited?", with the answer to that
abbrev pub answer_questions : Config → State → List ℕ → Bool → List Question
answer_questions cfg x message awaits =
    ask 12 (well_formed cfg message) ∷ ask 16 (is_for x (message_of cfg message)) ∷ ask 14 awaits ∷ []

-- a step
abbrev pub step_questions : Config → State → List ℕ → Lent → List Question
step_questions cfg x message l =
    call_questions cfg (step_sized cfg (length message) (length l.kept) (length l.elements) (length l.sends) (length l.board)) x
    (answer_questions cfg x message (awaited cfg (seen cfg x l) (message_of cfg message)))
