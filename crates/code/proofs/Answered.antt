-- The two answers of a call with a lent buffer: refused, with the buffer as it was, and accepted, with the result in it.
use Rattle.std.proofs.Common.{Ok}
use Prim.Native.Nat.{ℕ}
use mathlib.Core.Path.{◌≡◌, sym, ap, ◌∙◌}
use mathlib.Core.Bool.{cond}
use mathlib.Core.List.{List}
use borrow.Author.Tests.{eq-eqb, ne_eqb}
use lib.Dec.{eqb}
use Rattle.config.specs.Refusal.{Verdict}
use Rattle.std.specs.Result.{IsErrAnd}
use Rattle.config.specs.declared.Refusal.{Refusal}
use Rattle.config.specs.Refusal.{refusal_number, verdict_number}
use Rattle.config.proofs.Exits.{exits}
use Rattle.config.proofs.Refusals.{refusal_some}

-- r is the answer, and the buffer holds `result` where it is 0 and what it held elsewhere
abbrev pub Answered : ℕ → List ℕ → List ℕ → List ℕ → Verdict → Type 0
Answered answer result before after r = (verdict_number r ≡ answer) × (after ≡ cond (eqb answer 0) result before)

module _ (answer : ℕ) (result before : List ℕ) where
  pub refused : (why : Refusal) (r : Verdict) → refusal_number why ≡ answer → IsErrAnd r (λ e. e ≡ why) → Answered answer result before before r
  refused why r e h =
      (exits r why h ∙ e, sym (ap (λ b. cond b result before) (ne_eqb answer 0 (refusal_some why e).1)))

  pub accepted : (after : List ℕ) → answer ≡ 0 → after ≡ result → Answered answer result before after (Ok tt)
  accepted after e h = (sym e, h ∙ sym (ap (λ b. cond b result before) (eq-eqb answer 0 e)))
