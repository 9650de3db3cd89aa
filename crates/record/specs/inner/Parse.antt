-- What the inner functions of reading and writing take, and what reading gives.
use Rattle.std.specs.Prelude.{ℕ, Bool, cond, ◌≡◌, List, [], ◌∷◌, eqb, leb, length, get_or, drop}
use Rattle.std.proofs.Math.Option.{none, some}
use Rattle.config.specs.declared.Config.{Config}
use Rattle.config.specs.Config.{Valid, record_length}
use Rattle.record.specs.Calls.{Reading}
use Rattle.record.specs.Calls.{length_read, message_read}
use Rattle.config.specs.Refusal.{verdict_number}
use Rattle.record.specs.Record.{all, all_zero, element_end, is_kind, kind_at, length_at, message_of, present_at, well_formed}

-- what both take: questions 1 to 6 and 21 are answered yes
pub record RecordPre (cfg : Config) (bs : List ℕ) : Type 0 where
  pub valid : Valid cfg
  pub eighty : length bs ≡ record_length

-- the clauses on bytes that a header does not hold
abbrev pub layout_clauses : Config → List ℕ → List Bool
layout_clauses cfg bs =
    is_kind (kind_at bs)
    ∷ leb (get_or bs 3 0) 1
    ∷ eqb (get_or bs 15 0) 0
    ∷ all_zero (drop (element_end cfg (present_at bs)) bs)
    ∷ []

unfoldable pub laid_out : Config → List ℕ → Bool
laid_out cfg bs = all (layout_clauses cfg bs)

-- question 12, and the message
pub record ParsePost (cfg : Config) (bs : List ℕ) (r : Reading) : Type 0 where
  pub number : verdict_number r ≡ cond (well_formed cfg bs) 0 12
  pub message : message_read cfg bs r ≡ cond (well_formed cfg bs) (some (message_of cfg bs)) none
  pub length : length_read r ≡ cond (well_formed cfg bs) (length_at bs) 0
