-- `config::Refusal::of` meets its contract: the table's rule is one test over the table, which antt computes. Assumes nothing.
use mathlib.Core.Path.{◌≡◌}
use mathlib.Core.Bool.{Bool}
use mathlib.Core.List.{List}
use Prim.Native.Nat.{ℕ, ◌<◌}
use native.Mathlib.Omega.{arith}
use lib.Dec.{T, eqb, eqb→eq}
use lib.ListN.{length, get_or}
use Rattle.laws.proofs.Table.{passes, entry}
use Rattle.config.specs.declared.Refusal.{Refusal}
use Rattle.config.specs.Refusal.{clamped, refusal_number}
use Rattle.config.proofs.Refusals.{passing_other}
use Rattle.config.proofs.Refusal.of.Goals as goal

-- the refusal of a number
abbrev is_of : ℕ → Refusal → Bool
is_of n why = eqb (refusal_number why) (clamped n)

refusal-at : (t : List Refusal) → T (passes is_of 0 t) → (n : ℕ) → n < length t → refusal_number (get_or t n Refusal.Servers) ≡ clamped n
refusal-at t p n h = eqb→eq (refusal_number (get_or t n Refusal.Servers)) (clamped n) (entry Refusal.Servers is_of t p n h)

pub returns-then-no-gt-LAST_QUESTION : goal.returns-then-no-gt-LAST_QUESTION
returns-then-no-gt-LAST_QUESTION c =
    let n = c.args.no in
    omega (arith, passing_other n (λ e. omega (arith, c.if-no-gt-LAST_QUESTION.true)))

pub returns : goal.returns
returns c = let test : Unit {0} = tt in let h : c.args.no < 29 = omega arith in search refusal-at
