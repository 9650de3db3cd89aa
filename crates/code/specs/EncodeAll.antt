-- What the call `encode_all` answers: the elements of all servers at once, each in its record of the caller's buffer.
use Rattle.std.specs.Prelude.{ℕ, suc, ◌+◌, ◌*◌, ◌&&◌, cond, ◌≡◌, List, [], ◌∷◌, ◌++◌, eqb, leb, length}
use Rattle.config.specs.declared.Config.{Config}
use Rattle.config.specs.Refusal.{Verdict}
use Rattle.config.specs.Config.{questions, board_length}
use Rattle.config.specs.Questions.{Question, ask, first_no}
use Rattle.config.specs.Refusal.{verdict_number}
use Rattle.code.specs.Element.{element}
use Rattle.code.specs.Laid.{laid}

-- questions 1 to 5 and 21; 6: has the board V bytes, does an element that starts at the offset go into a record of `distance` bytes, and has the
-- buffer N such records? No server is named, so 18 is not asked.
unfoldable pub encode_all_questions : Config → ℕ → ℕ → ℕ → ℕ → List Question
encode_all_questions cfg board offset distance buffer =
    questions cfg
    ++ ask 6 (eqb board (board_length cfg) && (leb (offset + cfg.e) distance && eqb buffer (distance * cfg.n)))
    ∷ []

-- the buffer with the element of each server s in its place: E bytes from offset + (s − 1) × distance on
unfoldable pub with_elements : Config → List ℕ → ℕ → ℕ → List ℕ → List ℕ
with_elements cfg board offset distance buffer = laid (λ t. element cfg board (suc t)) cfg.e offset distance cfg.n buffer

-- the answer is the first no; where there is none the buffer holds the elements in their places and elsewhere what it held, and on a refusal
-- what it held
pub record EncodeAllPost (cfg : Config) (board : List ℕ) (offset distance : ℕ) (before after : List ℕ) (r : Verdict) : Type 0 where
  pub number : verdict_number r ≡ first_no (encode_all_questions cfg (length board) offset distance (length before))
  pub buffer : after
      ≡ cond (eqb (first_no (encode_all_questions cfg (length board) offset distance (length before))) 0)
      (with_elements cfg board offset distance before) before
