-- The answers of a constructor, by the first no of its questions: refused, or made. Assumes nothing.
use mathlib.Core.Path.{◌≡◌, sym, ◌∙◌}
use mathlib.Core.List.{List}
use Prim.Native.Nat.{ℕ}
use native.Mathlib.Omega.{arith}
use borrow.Author.Tests.{eq-eqb, ne_eqb}
use Rattle.config.specs.declared.Refusal.{Refusal}
use Rattle.config.specs.Number.{NewPost}
use Rattle.config.specs.Questions.{Question, first_no}
use Rattle.config.specs.Refusal.{refusal_number}
use Rattle.config.proofs.Refusals.{refusal_low}

module _ (qs : List Question) (x : ℕ) where
  pub not_made : (why : Refusal) → refusal_number why ≡ first_no qs → NewPost qs x (refusal_number why) 0
  not_made why e =
      record { number = e; made = rw (ne_eqb (first_no qs) 0 (λ z. omega (arith, refusal_low why, e ∙ z))) }

  pub made : 0 ≡ first_no qs → NewPost qs x 0 x
  made none = record { number = none; made = rw (eq-eqb (first_no qs) 0 (sym none)) }
