-- What the call `encode` answers.
use Rattle.std.specs.Prelude.{ℕ, ◌&&◌, cond, ◌≡◌, List, [], ◌∷◌, ◌++◌, eqb, length}
use Rattle.config.specs.declared.Config.{Config}
use Rattle.config.specs.Refusal.{Verdict}
use Rattle.config.specs.Config.{questions, board_length}
use Rattle.config.specs.Questions.{Question, ask, within, first_no}
use Rattle.config.specs.Refusal.{verdict_number}
use Rattle.code.specs.Element.{element}

-- questions 1 to 5 and 21; 6: has the board V bytes, and the lent part E? 18: "is s within 1 to N? (asked last)"
unfoldable pub encode_questions : Config → ℕ → ℕ → ℕ → List Question
encode_questions cfg board s part =
    questions cfg
    ++ ask 6 (eqb board (board_length cfg) && eqb part cfg.e)
    ∷ ask 18 (within 1 cfg.n s)
    ∷ []

-- the answer is the first no; where there is none the part holds the element of s, and on a refusal what it held
pub record EncodePost (cfg : Config) (board : List ℕ) (s : ℕ) (before after : List ℕ) (r : Verdict) : Type 0 where
  pub number : verdict_number r ≡ first_no (encode_questions cfg (length board) s (length before))
  pub part : after ≡ cond (eqb (first_no (encode_questions cfg (length board) s (length before))) 0) (element cfg board s) before
