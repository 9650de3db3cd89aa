-- The answers of reading and of writing, by the question that decides. Assumes nothing.
use Rattle.std.proofs.Common.{Ok, Err}
use mathlib.Core.Path.{◌≡◌, sym, ◌∙◌, ap}
use mathlib.Core.Bool.{Bool, true, false, cond}
use mathlib.Core.List.{List}
use mathlib.Core.Option.{Option, none, some}
use Prim.Native.Nat.{ℕ}
use native.Mathlib.Omega.{arith}
use borrow.Author.Tests.{eq-eqb, ne_eqb}
use lib.Dec.{eqb}
use lib.ListN.{length}
use Rattle.config.specs.declared.Config.{Config}
use Rattle.config.specs.declared.Refusal.{Refusal}
use Rattle.config.specs.Refusal.{Verdict}
use Rattle.config.specs.Config.{questions}
use Rattle.config.specs.Questions.{first_no}
use Rattle.config.specs.Refusal.{refusal_number, verdict_number}
use Rattle.config.proofs.Questions.{first_no_pass, questions_numbered}
use Rattle.record.specs.declared.Header.{Header}
use Rattle.record.specs.Calls.{Reading}
use Rattle.record.specs.Calls.{ReadPost, WritePost, is_header, read_questions, with_element, write_questions}
use Rattle.record.specs.inner.Parse.{ParsePost}
use Rattle.record.specs.Element.{Element}
use Rattle.record.specs.Message.{Message}
use Rattle.record.specs.Record.{length_at, message_of, record_of, well_formed}
use Rattle.record.proofs.Clauses.{Says, not_so, says_message}

module _ (cfg : Config) (bs : List ℕ) where
  pub refused : well_formed cfg bs ≡ false → ParsePost cfg bs (Err Refusal.IllFormed)
  refused h = record { number = rw h; message = rw h; length = rw h }

  pub accepted : (h : Header) → Says cfg bs h → well_formed cfg bs ≡ true → ParsePost cfg bs (Ok h)
  accepted h s w = record {
    number = rw w;
    message = rw w (ap {B = Option (Message Element)} some (says_message cfg bs h s));
    length = rw w s.length;
  }

module _ (cfg : Config) (bs : List ℕ) where
  -- reading: by the number of the first question that is answered no
  pub not_read : (n : ℕ) (why : Refusal) → first_no (read_questions cfg bs) ≡ n → (n ≡ 0 → ⊥) → refusal_number why ≡ n → ReadPost cfg bs (Err why)
  not_read n why e refuses h =
      record {
        number = h ∙ sym e;
        message = rw (ne_eqb (first_no (read_questions cfg bs)) 0 (λ z. refuses (sym e ∙ z)));
        length = rw (ne_eqb (first_no (read_questions cfg bs)) 0 (λ z. refuses (sym e ∙ z)));
      }

  -- by question 12
  module _ (e : first_no (read_questions cfg bs) ≡ cond (well_formed cfg bs) 0 12) where
    read_by : (w : Bool) → first_no (read_questions cfg bs) ≡ cond w 0 12 → w ≡ eqb (first_no (read_questions cfg bs)) 0
    read_by true h = sym (eq-eqb (first_no (read_questions cfg bs)) 0 h)
    read_by false h = sym (ne_eqb (first_no (read_questions cfg bs)) 0 (λ z. omega arith))

    pub parsed-read : (r : Reading) → ParsePost cfg bs r → ReadPost cfg bs r
    parsed-read r p =
        let by = read_by (well_formed cfg bs) e in
        record {
          number = p.number ∙ sym e;
          message = p.message ∙ ap (λ (b : Bool). cond b (some (message_of cfg bs)) none) by;
          length = p.length ∙ ap (λ (b : Bool). cond b (length_at bs) 0) by;
        }

  module _ (passed : first_no (questions cfg) ≡ 0) where
    pub read-shape : (length bs ≡ 80 → ⊥) → first_no (read_questions cfg bs) ≡ 6
    unfolding read_questions first_no
    read-shape h = first_no_pass (questions cfg) _ (questions_numbered cfg) passed ∙ rw (ne_eqb (length bs) 80 h)

    pub read-last : length bs ≡ 80 → first_no (read_questions cfg bs) ≡ cond (well_formed cfg bs) 0 12
    unfolding read_questions first_no
    read-last h = first_no_pass (questions cfg) _ (questions_numbered cfg) passed ∙ rw (eq-eqb (length bs) 80 h)

module _ (cfg : Config) (h : Header) (bs : List ℕ) where
  -- writing: by the number of the first question that is answered no
  pub not_written : (n : ℕ) (r : Verdict) → first_no (write_questions cfg h bs) ≡ n → (n ≡ 0 → ⊥) → verdict_number r ≡ n → WritePost cfg h bs bs r
  not_written n r e refuses v =
      record {
        number = v ∙ sym e;
        bytes = rw (ne_eqb (first_no (write_questions cfg h bs)) 0 (λ z. refuses (sym e ∙ z)));
      }

  pub written : (after : List ℕ) → first_no (write_questions cfg h bs) ≡ 0 → after ≡ record_of cfg (with_element cfg h bs)
      → WritePost cfg h bs after (Ok tt)
  written after e w = record { number = sym e; bytes = w ∙ rw (eq-eqb (first_no (write_questions cfg h bs)) 0 e) }

  module _ (passed : first_no (questions cfg) ≡ 0) where
    pub write_shape : (length bs ≡ 80 → ⊥) → first_no (write_questions cfg h bs) ≡ 6
    unfolding write_questions first_no
    write_shape e = first_no_pass (questions cfg) _ (questions_numbered cfg) passed ∙ rw (ne_eqb (length bs) 80 e)

    -- 12, by what the rules say of the header
    module _ (e : length bs ≡ 80) where
      pub write-last : first_no (write_questions cfg h bs) ≡ cond (is_header cfg h bs) 0 12
      unfolding write_questions first_no
      write-last = first_no_pass (questions cfg) _ (questions_numbered cfg) passed ∙ rw (eq-eqb (length bs) 80 e)

      -- it breaks a rule that a header without fault keeps
      pub write-breaks : (rule : Bool) → (is_header cfg h bs ≡ true → rule ≡ true) → rule ≡ false → first_no (write_questions cfg h bs) ≡ 12
      write-breaks rule kept broken = write-last ∙ ap (λ (b : Bool). cond b 0 12) (not_so (is_header cfg h bs) rule kept broken)
