-- The exits of a `?`: the answer is the refusal of the call that was asked first. Assumes nothing.
use mathlib.Core.Path.{◌≡◌, sym, ap, ◌∙◌}
use mathlib.Core.List.{List, ◌++◌}
use native.Mathlib.Omega.{arith}
use Rattle.std.specs.Result.{IsErrAnd}
use Rattle.std.proofs.Common.{Result, Ok, Err}
use Rattle.config.specs.declared.Refusal.{Refusal}
use Rattle.config.specs.Questions.{Question, first_no}
use Rattle.config.specs.Refusal.{refusal_number, verdict_number}
use Rattle.config.proofs.Questions.{first_no_stop}
use Rattle.config.proofs.Refusals.{refusal_low}

-- it has that refusal's number
pub exits : {T : Type 0} (r : Result T Refusal) (why : Refusal) → IsErrAnd r (λ e. e ≡ why) → verdict_number r ≡ refusal_number why
exits (Ok x) why h = absurd h
exits (Err e) why h = ap refusal_number h

-- the first questions were asked, and one of them was answered no
pub stopped : {T : Type 0} (r : Result T Refusal) (why : Refusal) (first rest : List Question) → IsErrAnd r (λ e. e ≡ why)
    → refusal_number why ≡ first_no first → verdict_number r ≡ first_no (first ++ rest)
stopped r why first rest h e =
    exits r why h ∙ e ∙ sym (first_no_stop first rest (λ z. omega (arith, refusal_low why, e ∙ z)))
