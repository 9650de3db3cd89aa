-- A refusal has a question's number, and one that was made of the first no has that number. Assumes nothing.
use mathlib.Core.Path.{◌≡◌, refl, sym, ◌∙◌, subst}
use mathlib.Core.Bool.{Bool, true, false, cond}
use mathlib.Core.List.{List}
use Prim.Native.Nat.{ℕ, min, ◌≤◌}
use Rattle.std.proofs.Common.{Result, Ok, Err}
use native.Mathlib.Omega.{arith}
use borrow.Author.Tests.{ne_eqb}
use lib.Dec.{eqb}
use Rattle.config.specs.declared.Refusal.{Refusal}
use Rattle.config.specs.declared.Refusal.TheVariants.{Servers, Threshold, Depth, Width, Clients, Shape, Event, Missing, UpOrDown, Busy, Exhausted, IllFormed, Full, NotAwaited, Misdirected, NotRising, Elements, Length, Seed, Rank, Boards, Contradiction, Saved, Sources, Right, Errors, Uncorrectable}
use Rattle.config.specs.Questions.{Question, first_no, is_question, last_question, numbered}
use Rattle.config.specs.Refusal.{clamped, passing15, refusal_number, verdict_number}
use Rattle.config.proofs.Questions.{Given, first_no_given, question_not_15, question_within, within_low}

refusal_question : (why : Refusal) → is_question (refusal_number why) ≡ true
refusal_question Servers = refl
refusal_question Threshold = refl
refusal_question Depth = refl
refusal_question Width = refl
refusal_question Clients = refl
refusal_question Shape = refl
refusal_question Event = refl
refusal_question Missing = refl
refusal_question UpOrDown = refl
refusal_question Busy = refl
refusal_question Exhausted = refl
refusal_question IllFormed = refl
refusal_question Full = refl
refusal_question NotAwaited = refl
refusal_question Misdirected = refl
refusal_question NotRising = refl
refusal_question Elements = refl
refusal_question Length = refl
refusal_question Seed = refl
refusal_question Rank = refl
refusal_question Boards = refl
refusal_question Contradiction = refl
refusal_question Saved = refl
refusal_question Sources = refl
refusal_question Right = refl
refusal_question Errors = refl
refusal_question Uncorrectable = refl

pub refusal_low : (why : Refusal) → 1 ≤ refusal_number why
refusal_low why = within_low 1 last_question (refusal_number why) (question_within (refusal_number why) (refusal_question why))

-- a refusal's number is not 0, nor is one that equals it
pub refusal_some : (why : Refusal) {n : ℕ} → refusal_number why ≡ n → (refusal_number why ≡ 0 → ⊥) × (n ≡ 0 → ⊥)
refusal_some why e = (λ z. omega (arith, refusal_low why, z), λ z. omega (arith, refusal_low why, e ∙ z))

-- "Number 15 is no longer given.": no refusal has it, and so no verdict
pub refusal_not_15 : (why : Refusal) → refusal_number why ≡ 15 → ⊥
refusal_not_15 why = question_not_15 (refusal_number why) (refusal_question why)

pub verdict_not_15 : {T : Type 0} (v : Result T Refusal) → verdict_number v ≡ 15 → ⊥
verdict_not_15 (Ok given) e = omega arith
verdict_not_15 (Err why) e = refusal_not_15 why e

-- any other number than 15 stays
pub passing_other : (x : ℕ) → (x ≡ 15 → ⊥) → passing15 x ≡ x
passing_other x other = rw (ne_eqb x 15 other)

-- what 15 is taken for is no 0 either
pub passing_low : (x : ℕ) → (x ≡ 0 → ⊥) → 1 ≤ passing15 x
passing_low x some = go (eqb x 15)
  where
    go : (b : Bool) → 1 ≤ cond b 16 x
    go true = omega arith
    go false = omega arith

-- what `Refusal::of` and `Verdict::of` make of a number that is given
pub refusal_given : {asked number : ℕ} → Given asked → (asked ≡ 0 → ⊥) → number ≡ clamped asked → number ≡ asked
refusal_given {asked} given some h = omega (arith, given.0, passing_other asked given.1)

pub verdict_given : {asked number : ℕ} → Given asked → number ≡ min (passing15 asked) last_question → number ≡ asked
verdict_given {asked} given h = omega (arith, given.0, passing_other asked given.1)

-- and of the first no
module _ (qs : List Question) (known : numbered qs ≡ true) {asked number : ℕ} (e : asked ≡ first_no qs) where
  pub refusal_is : (asked ≡ 0 → ⊥) → number ≡ clamped asked → number ≡ first_no qs
  refusal_is some h = refusal_given (subst Given (sym e) (first_no_given qs known)) some h ∙ e

  pub verdict_is : number ≡ min (passing15 asked) last_question → number ≡ first_no qs
  verdict_is h = verdict_given (subst Given (sym e) (first_no_given qs known)) h ∙ e
