-- A call's questions: a list of their numbers, each with the answer, in document 01's order. The first that is answered no is
-- the refusal, and nothing else is.
use Rattle.std.specs.Prelude.{ℕ, Bool, true, cond, not, ◌&&◌, List, [], ◌∷◌, eqb, leb}

pub data Question : Type 0 where
  ask : ℕ → Bool → Question

-- the number of the first question that is answered no, or 0
unfoldable pub first_no : List Question → ℕ
first_no [] = 0
first_no (ask number holds ∷ rest) = cond holds (first_no rest) number

-- low ≤ x ≤ high
abbrev pub within : ℕ → ℕ → ℕ → Bool
within low high x = leb low x && leb x high

-- questions are numbered from 1 to this: to 18 by document 01, to 28 by document 02
abbrev pub last_question : ℕ
last_question = 28

-- "Number 15 is no longer given.": the others of these are questions' numbers
abbrev pub is_question : ℕ → Bool
is_question n = within 1 last_question n && not (eqb n 15)

-- each number is a question's
unfoldable pub numbered : List Question → Bool
numbered [] = true
numbered (ask number holds ∷ rest) = is_question number && numbered rest
