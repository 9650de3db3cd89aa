-- What the first questions of a step tell.
use Rattle.std.specs.Prelude.{ℕ, Bool, true, ◌≡◌, List, length, Result, Ok, Err}
use Rattle.config.specs.declared.Config.{Config}
use Rattle.config.specs.declared.Refusal.{Refusal}
use Rattle.config.specs.Config.{Valid}
use Rattle.config.specs.Questions.{first_no}
use Rattle.config.specs.Refusal.{refusal_number}
use Rattle.record.specs.declared.Header.{Header}
use Rattle.record.specs.Calls.{with_element}
use Rattle.record.specs.Record.{message_of, well_formed}
use Rattle.client.specs.declared.State.{State}
use Rattle.client.specs.declared.questions.Sizes.{Sizes}
use Rattle.client.specs.Questions.{answer_questions, call_questions, is_for, step_sized}
use Rattle.client.specs.State.{state_within}

abbrev pub sized : Config → ℕ → Sizes → Bool
sized cfg message l = step_sized cfg message l.kept l.elements l.sends l.board

-- questions 1 to 5, 21, 6, 12 and 16 of a step are answered yes
pub record Received (cfg : Config) (x : State) (message : List ℕ) (l : Sizes) : Type 0 where
  pub valid : Valid cfg
  pub within : state_within cfg x ≡ true
  pub lengths : sized cfg (length message) l ≡ true
  pub well-formed : well_formed cfg message ≡ true
  pub for_me : is_for x (message_of cfg message) ≡ true

-- the first no, whatever is answered to 14; or the header of the record's message
abbrev pub ReceivePost : Config → State → List ℕ → Sizes → Result Header Refusal → Type 0
ReceivePost cfg x message l (Err why) =
    (awaits : Bool) → refusal_number why ≡ first_no (call_questions cfg (sized cfg (length message) l) x (answer_questions cfg x message awaits))
ReceivePost cfg x message l (Ok h) = Received cfg x message l × (with_element cfg h message ≡ message_of cfg message)
