-- What a client's step leaves besides buffers, as 12 bytes: how the operation ended, if it did; how many records stand at the front of the
-- sends; the length of the board that was read; the tag of a write or a read; zeros.
use Rattle.std.specs.Prelude.{ℕ, cond, ◌≡◌, List, [], ◌∷◌, ◌++◌, eqb, get_or}
use Rattle.tag.specs.declared.Tag.{Tag}
use Rattle.tag.specs.Tag.{start}
use Rattle.record.specs.Record.{four_bytes, two_bytes}
use Rattle.client.specs.declared.Ended.{Ended}
use Rattle.client.specs.declared.Ended.TheVariants.{Nothing, Written, Spent, Read}
use Rattle.states.specs.Bytes.{length_from, tag_from}

abbrev pub outcome_length : ℕ
outcome_length = 12

unfoldable pub outcome_row : ℕ → ℕ → ℕ → Tag → List ℕ
outcome_row how sent length t = how ∷ sent ∷ two_bytes length ++ four_bytes t.number ++ t.client ∷ 0 ∷ 0 ∷ 0 ∷ []

-- 0 nothing ended, 1 written, 2 spent, 3 read
unfoldable pub outcome_of : Ended → ℕ → List ℕ
outcome_of Nothing sent = outcome_row 0 sent 0 start
outcome_of (Written t) sent = outcome_row 1 sent 0 t
outcome_of Spent sent = outcome_row 2 sent 0 start
outcome_of (Read t length) sent = outcome_row 3 sent length t

-- what the bytes tell: how the operation ended, and how many records are sent
unfoldable pub ended_from : List ℕ → Ended
ended_from bs =
    cond (eqb (get_or bs 0 0) 1) (Written (tag_from bs 4))
    (cond (eqb (get_or bs 0 0) 2) Spent
    (cond (eqb (get_or bs 0 0) 3) (Read (tag_from bs 4) (length_from bs 2))
    Nothing))

abbrev pub sent_from : List ℕ → ℕ
sent_from bs = get_or bs 1 0

-- the bytes of an outcome tell it
pub record OutcomePost (ended : Ended) (sent : ℕ) (out : List ℕ) : Type 0 where
  pub bytes : out ≡ outcome_of ended sent
  pub ends : ended_from out ≡ ended
  pub sends : sent_from out ≡ sent
