-- The bytes around a lent part: document 02, L4; and those around the parts of all elements.
use Rattle.std.specs.Prelude.{ℕ, suc, ◌+◌, ◌*◌, ◌<◌, ◌≤◌, ◌⊎◌, ◌≡◌, List, length, get_or}
use Rattle.config.specs.declared.Config.{Config}
use Rattle.config.specs.Refusal.{Verdict}
use Rattle.config.specs.Questions.{first_no}
use Rattle.config.specs.Refusal.{verdict_number}
use Rattle.code.specs.Element.{element_byte}
use Rattle.code.specs.Encode.{encode_questions}
use Rattle.code.specs.EncodeAll.{encode_all_questions}

-- What `encode` leaves of a caller's buffer of which it is lent n bytes, from `start` on: "a lent part of E bytes, which may start
-- anywhere in the caller's buffer; the bytes around it stay". Where the call refuses, all bytes stay.
pub record AroundPost (cfg : Config) (board : List ℕ) (s start n : ℕ) (before after : List ℕ) (r : Verdict) : Type 0 where
  pub number : verdict_number r ≡ first_no (encode_questions cfg (length board) s n)
  pub size : length after ≡ length before
  pub element : verdict_number r ≡ 0 → (j : ℕ) → j < cfg.e → get_or after (start + j) 0 ≡ element_byte cfg board s j
  pub below : (i : ℕ) → i < start → get_or after i 0 ≡ get_or before i 0
  pub above : (i : ℕ) → start + n ≤ i → get_or after i 0 ≡ get_or before i 0
  pub refused : (verdict_number r ≡ 0 → ⊥) → after ≡ before

-- What `encode_all` leaves of the caller's buffer, record by record: the element of each server stands from the offset on, and the bytes of its
-- record before and behind it stay. Where the call refuses, all bytes stay.
pub record AllAroundPost (cfg : Config) (board : List ℕ) (offset distance : ℕ) (before after : List ℕ) (r : Verdict) : Type 0 where
  pub number : verdict_number r ≡ first_no (encode_all_questions cfg (length board) offset distance (length before))
  pub size : length after ≡ length before
  pub elements : verdict_number r ≡ 0 → (t j : ℕ) → t < cfg.n → j < cfg.e
      → get_or after (t * distance + (offset + j)) 0 ≡ element_byte cfg board (suc t) j
  pub between : (t j : ℕ) → t < cfg.n → j < distance → (j < offset) ⊎ (offset + cfg.e ≤ j)
      → get_or after (t * distance + j) 0 ≡ get_or before (t * distance + j) 0
  pub refused : (verdict_number r ≡ 0 → ⊥) → after ≡ before
