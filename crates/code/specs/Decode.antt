-- What the call `decode` answers.
use Rattle.std.specs.Prelude.{ℕ, ◌*◌, ◌&&◌, cond, ◌≡◌, List, [], ◌∷◌, ◌++◌, eqb, leb, length}
use Rattle.config.specs.declared.Config.{Config}
use Rattle.config.specs.Refusal.{Verdict}
use Rattle.config.specs.Config.{questions, board_length}
use Rattle.config.specs.Questions.{Question, ask, first_no}
use Rattle.config.specs.Refusal.{verdict_number}
use Rattle.code.specs.Decoded.{decoded, rising}

-- questions 1 to 5 and 21; 6: are there as many elements as numbers, of E bytes each, and has the buffer V bytes? 17: "do server numbers
-- rise strictly within 1 to N?" 18: "are there at least k?"
unfoldable pub decode_questions : Config → List ℕ → ℕ → ℕ → List Question
decode_questions cfg servers elements buffer =
    questions cfg
    ++ ask 6 (eqb elements (length servers * cfg.e) && eqb buffer (board_length cfg))
    ∷ ask 17 (rising cfg.n servers)
    ∷ ask 18 (leb cfg.k (length servers))
    ∷ []

-- the answer is the first no; the buffer then holds the board, and on a refusal what it held
pub record DecodePost (cfg : Config) (servers elements before after : List ℕ) (r : Verdict) : Type 0 where
  pub number : verdict_number r ≡ first_no (decode_questions cfg servers (length elements) (length before))
  pub buffer : after
      ≡ cond (eqb (first_no (decode_questions cfg servers (length elements) (length before))) 0) (decoded cfg servers elements) before
