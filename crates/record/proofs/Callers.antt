-- What a caller of reading and of writing learns. Assumes nothing.
use Rattle.std.proofs.Common.{Ok, Err}
use mathlib.Core.Path.{◌≡◌, refl, sym, ◌∙◌, ap}
use mathlib.Core.Bool.{Bool, true, false, cond}
use mathlib.Core.List.{List}
use mathlib.Core.Option.{some-injective}
use Prim.Native.Nat.{ℕ}
use native.Mathlib.Omega.{arith}
use borrow.Author.Tests.{eq-eqb}
use lib.ListN.{length}
use Rattle.config.specs.declared.Config.{Config}
use Rattle.config.specs.declared.Refusal.{Refusal}
use Rattle.config.specs.Refusal.{Verdict}
use Rattle.config.specs.Config.{Valid}
use Rattle.config.specs.Questions.{first_no}
use Rattle.config.specs.Refusal.{refusal_number, verdict_number}
use Rattle.config.proofs.Valid.{valid_asked}
use Rattle.record.specs.declared.Header.{Header}
use Rattle.record.specs.Calls.{Reading}
use Rattle.record.specs.Calls.{ReadPost, WritePost, is_header, length_read, message_read, read_questions, with_element, write_questions}
use Rattle.record.specs.Record.{length_at, length_fits, message_of, of_config, record_of, well_formed}
use Rattle.record.proofs.Answers.{read-last, write-last}

module _ (cfg : Config) (bs : List ℕ) (r : Reading) (post : ReadPost cfg bs r) where
  -- a message was read: no question was answered no, and the header with the element in the bytes is the record's message
  pub was_read : (h : Header) → r ≡ Ok h → first_no (read_questions cfg bs) ≡ 0
  was_read h e = sym post.number ∙ ap verdict_number e

  pub its_message : (h : Header) → r ≡ Ok h → with_element cfg h bs ≡ message_of cfg bs
  its_message h e =
      some-injective (with_element cfg h bs) (message_of cfg bs)
      (ap (message_read cfg bs) (sym e) ∙ post.message ∙ rw (eq-eqb (first_no (read_questions cfg bs)) 0 (was_read h e)))

  pub its_read_length : (h : Header) → r ≡ Ok h → h.length ≡ length_at bs
  its_read_length h e =
      ap length_read (sym e) ∙ post.length ∙ rw (eq-eqb (first_no (read_questions cfg bs)) 0 (was_read h e))

  -- it was refused, by the first question that is answered no
  pub was_refused : (why : Refusal) → r ≡ Err why → refusal_number why ≡ first_no (read_questions cfg bs)
  was_refused why e = ap verdict_number (sym e) ∙ post.number

-- in a valid configuration a record of 80 bytes is refused exactly if it is ill formed
pub read_12 : (cfg : Config) (bs : List ℕ) → Valid cfg → length bs ≡ 80 → first_no (read_questions cfg bs) ≡ cond (well_formed cfg bs) 0 12
read_12 cfg bs v e = read-last cfg bs (valid_asked cfg v) e

twelve : (b : Bool) → cond {A = ℕ} b 0 12 ≡ 0 → b ≡ true
twelve true h = refl
twelve false h = absurd (omega arith)

pub read_well_formed : (cfg : Config) (bs : List ℕ) → Valid cfg → length bs ≡ 80 → first_no (read_questions cfg bs) ≡ 0 → well_formed cfg bs ≡ true
read_well_formed cfg bs v e h = twelve (well_formed cfg bs) (sym (read_12 cfg bs v e) ∙ h)

-- a message of the configuration is written, whatever the record held
module _ (cfg : Config) (h : Header) (bs : List ℕ) (v : Valid cfg) (e : length bs ≡ 80) (m : of_config cfg (with_element cfg h bs) ≡ true) (fits : length_fits cfg h.present h.length ≡ true) where
  pub write_asked : first_no (write_questions cfg h bs) ≡ 0
  unfolding is_header
  write_asked = write-last cfg h bs (valid_asked cfg v) e ∙ rw (m, fits)

  pub was_written : (after : List ℕ) (r : Verdict) → WritePost cfg h bs after r
      → (verdict_number r ≡ 0) × (after ≡ record_of cfg (with_element cfg h bs))
  was_written after r post =
      (post.number ∙ write_asked, post.bytes ∙ rw (eq-eqb (first_no (write_questions cfg h bs)) 0 write_asked))
