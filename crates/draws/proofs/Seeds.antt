-- What the constructor's answer shows of a seed. Assumes nothing.
use Prim.Native.Nat.{ℕ}
use mathlib.Core.Path.{◌≡◌, sym, ap, ◌∙◌}
use mathlib.Core.Bool.{false}
use native.Mathlib.Omega.{arith}
use native.Mathlib.Decide.{ℕ_discrete}
use borrow.Author.Tests.{eq-eqb, ne_eqb}
use lib.Dec.{eqb}
use Rattle.config.specs.declared.Refusal.{Refusal}
use Rattle.std.proofs.Common.{Result, Ok, Err}
use Rattle.config.specs.Refusal.{verdict_number}
use Rattle.config.specs.Questions.{first_no}
use Rattle.config.proofs.Refusals.{refusal_low}
use Rattle.draws.specs.declared.Generator.{Generator}
use Rattle.draws.specs.Draws.{NewGenerator, NewGeneratorPost, generator_made}

module _ {seed : ℕ} {r : NewGenerator} (post : NewGeneratorPost seed r) where
  pub no_seed : {why : Refusal} → r ≡ Err why → seed ≡ 0
  unfolding first_no
  no_seed {why} e = elim (ℕ_discrete seed 0) as (λ _. seed ≡ 0) [
    | yes z ↦ z
    | no ne ↦
        let none : verdict_number r ≡ 0 = post.number ∙ rw (ne_eqb seed 0 ne) in
        absurd (omega (arith, sym (ap verdict_number e) ∙ none, refusal_low why))
  ]

  module _ {g : Generator} (e : r ≡ Ok g) where
    pub some_seed : eqb seed 0 ≡ false
    unfolding first_no
    some_seed = elim (ℕ_discrete seed 0) as (λ _. eqb seed 0 ≡ false) [
      | yes z ↦
          let refused : verdict_number r ≡ 20 = post.number ∙ rw (eq-eqb seed 0 z) in
          absurd (omega (arith, sym (ap verdict_number e) ∙ refused))
      | no ne ↦ ne_eqb seed 0 ne
    ]

    pub its_seed : g.0 ≡ seed
    unfolding first_no
    its_seed = sym (ap generator_made e) ∙ post.made ∙ rw some_seed
