-- Question 6 of the maker's calls: 7 bytes for each record, the buffers and the rig. Assumes nothing.
use Prim.Native.Nat.{ℕ, ◌*◌, ◌/◌, ◌%◌}
use mathlib.Core.Path.{◌≡◌, refl, sym, ◌∙◌}
use mathlib.Core.Bool.{Bool, true, false}
use mathlib.Core.List.{[], ◌∷◌, ◌++◌}
use native.Mathlib.Omega.{arith}
use native.Mathlib.Decide.{ℕ_discrete}
use borrow.Author.Tests.{eq-eqb, ne_eqb}
use lib.Dec.{eqb}
use Rattle.laws.specs.Below.{all_below}
use Rattle.std.specs.Result.{is_ok}
use Rattle.std.proofs.Common.{Result, Ok, Err}
use Rattle.config.specs.Refusal.{Verdict, refusal_number, verdict_number}
use Rattle.config.proofs.Refusals.{refusal_low}
use Rattle.config.specs.Config.{rank, ranks_within, rig_questions}
use Rattle.config.specs.Questions.{ask, first_no}
use Rattle.lines.specs.Program.{program, program_messages}

-- 7 bytes for each
pub whole_is : (long count : ℕ) → long % 7 ≡ 0 → eqb (long / 7) count ≡ eqb long (count * 7)
whole_is long count h = elim (ℕ_discrete (long / 7) count) as (λ _. eqb (long / 7) count ≡ eqb long (count * 7)) [
  | yes e ↦ eq-eqb (long / 7) count e ∙ sym (eq-eqb long (count * 7) (omega (arith, h, e)))
  | no n ↦ ne_eqb (long / 7) count n ∙ sym (ne_eqb long (count * 7) (λ e. n (omega (arith, h, e))))
]

pub not_whole : (long count : ℕ) → (long % 7 ≡ 0 → ⊥) → false ≡ eqb long (count * 7)
not_whole long count h = sym (ne_eqb long (count * 7) (λ e. h (omega (arith, e))))

-- the program's configuration passes 1 to 5 and 21
pub asked_is : (b : Bool) → eqb (first_no (rig_questions program program_messages ++ ask 6 b ∷ [])) 0 ≡ b
unfolding all_below first_no rank ranks_within rig_questions
asked_is true = refl
asked_is false = refl

pub asked_yes : (b : Bool) {n : ℕ} → n ≡ first_no (rig_questions program program_messages ++ ask 6 b ∷ []) → n ≡ 0 → b ≡ true
asked_yes b {n} e z = sym (asked_is b) ∙ eq-eqb _ 0 (sym e ∙ z)

pub asked-no : (b : Bool) {n : ℕ} → n ≡ first_no (rig_questions program program_messages ++ ask 6 b ∷ []) → (n ≡ 0 → ⊥) → b ≡ false
asked-no b {n} e ne = sym (asked_is b) ∙ ne_eqb _ 0 (λ z. ne (e ∙ z))

-- nothing was refused exactly where the number is 0
pub ok_is : (r : Verdict) → is_ok r ≡ eqb (verdict_number r) 0
ok_is (Ok x) = refl
ok_is (Err why) = sym (ne_eqb (refusal_number why) 0 (λ z. omega (arith, refusal_low why, z)))
