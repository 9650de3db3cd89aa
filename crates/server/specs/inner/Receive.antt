-- What the first questions of a step tell.
use Rattle.std.specs.Prelude.{◌≡◌, ℕ, true, List, length, Result, Ok, Err}
use Rattle.config.specs.declared.Config.{Config}
use Rattle.config.specs.declared.Refusal.{Refusal}
use Rattle.config.specs.Config.{Valid, record_length, store_length}
use Rattle.config.specs.Questions.{first_no}
use Rattle.config.specs.Refusal.{refusal_number}
use Rattle.record.specs.declared.Header.{Header}
use Rattle.record.specs.Calls.{with_element}
use Rattle.record.specs.Record.{message_of, well_formed}
use Rattle.server.specs.declared.State.{State}
use Rattle.server.specs.Calls.{step_questions}
use Rattle.server.specs.Within.{state_within}
use Rattle.server.specs.inner.Serve.{request_number}

-- questions 1 to 5, 21, 6 and 12 of a step are answered yes
pub record Passed (cfg : Config) (s : State) (handed : List ℕ) (store answer : ℕ) : Type 0 where
  pub valid : Valid cfg
  pub within : state_within cfg s ≡ true
  pub long : store ≡ store_length cfg
  pub eighty : length handed ≡ record_length
  pub answer_eighty : answer ≡ record_length
  pub well-formed : well_formed cfg handed ≡ true

-- the header of the record's message, with 16 left as to its kind; or a refusal of the first no
abbrev pub ReceivePost : Config → State → List ℕ → ℕ → ℕ → Result Header Refusal → Type 0
ReceivePost cfg s handed store answer (Err why) = refusal_number why ≡ first_no (step_questions cfg s handed store answer)
ReceivePost cfg s handed store answer (Ok h) =
    Passed cfg s handed store answer × (with_element cfg h handed ≡ message_of cfg handed)
    × (request_number (with_element cfg h handed) ≡ first_no (step_questions cfg s handed store answer))
