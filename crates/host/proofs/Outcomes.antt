-- The bytes of an outcome tell it. Assumes nothing.
use Prim.Native.Nat.{ℕ, ◌≤◌, ◌<◌}
use mathlib.Core.Path.{◌≡◌, refl, ap, ap₂, ◌∙◌}
use mathlib.Core.List.{List}
use lib.ListN.{length, get_or}
use Rattle.tag.specs.declared.Tag.{Tag}
use Rattle.tag.specs.Tag.{start}
use Rattle.record.specs.Record.{four_bytes, highest_number, two_bytes}
use Rattle.record.proofs.Laws.{four_number, two_number}
use Rattle.client.specs.declared.Ended.{Ended}
use Rattle.client.specs.declared.Ended.TheVariants.{Nothing, Written, Spent, Read}
use Rattle.states.specs.Bytes.{length_from, tag_from}
use Rattle.host.specs.Outcome.{OutcomePost, ended_from, outcome_length, outcome_of, outcome_row, sent_from}
use Rattle.host.specs.inner.Outcome.{RowPost}

-- a row's numbers have four bytes and two
pub row_tells : (how sent n : ℕ) (t : Tag) (out : List ℕ) → t.number ≤ highest_number → n < 65536 → out ≡ outcome_row how sent n t
    → RowPost how sent n t out
unfolding outcome_row four_bytes two_bytes
row_tells how sent n t out h k e =
    record {
      bytes = e;
      of_tag = ap (λ (bs : List ℕ). tag_from bs 4) e ∙ (λ i. record { number = four_number t.number h i; client = t.client });
      of_length = ap (λ (bs : List ℕ). length_from bs 2) e ∙ two_number n k;
    }

module _ {sent : ℕ} {out : List ℕ} where
  pub tells_nothing : RowPost 0 sent 0 start out → OutcomePost Nothing sent out
  unfolding outcome_of outcome_row ended_from four_bytes two_bytes
  tells_nothing r = record { bytes = r.bytes; ends = ap ended_from r.bytes; sends = ap sent_from r.bytes }

  pub tells_spent : RowPost 2 sent 0 start out → OutcomePost Spent sent out
  unfolding outcome_of outcome_row ended_from four_bytes two_bytes
  tells_spent r = record { bytes = r.bytes; ends = ap ended_from r.bytes; sends = ap sent_from r.bytes }

  -- how, and how many
  row_how : (how n : ℕ) (t : Tag) → RowPost how sent n t out → get_or out 0 0 ≡ how
  unfolding outcome_row
  row_how how n t r = ap (λ (bs : List ℕ). get_or bs 0 0) r.bytes

  row_sent : (how n : ℕ) (t : Tag) → RowPost how sent n t out → sent_from out ≡ sent
  unfolding outcome_row
  row_sent how n t r = ap sent_from r.bytes

  pub tells_written : {t : Tag} → RowPost 1 sent 0 t out → OutcomePost (Written t) sent out
  unfolding outcome_of ended_from
  tells_written {t} r = record { bytes = r.bytes; ends = rw (row_how 1 0 t r) (ap Written r.of_tag); sends = row_sent 1 0 t r }

  pub tells_read : {t : Tag} {n : ℕ} → RowPost 3 sent n t out → OutcomePost (Read t n) sent out
  unfolding outcome_of ended_from
  tells_read {t} {n} r =
      record {
        bytes = r.bytes;
        ends = rw (row_how 3 n t r) (ap₂ Read r.of_tag r.of_length);
        sends = row_sent 3 n t r;
      }

-- an outcome has 12 bytes
pub outcome_long : (ended : Ended) (sent : ℕ) → length (outcome_of ended sent) ≡ outcome_length
unfolding outcome_of outcome_row four_bytes two_bytes
outcome_long Nothing sent = refl
outcome_long (Written t) sent = refl
outcome_long Spent sent = refl
outcome_long (Read t n) sent = refl
