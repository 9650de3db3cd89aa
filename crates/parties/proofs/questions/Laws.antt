-- Question 6 of a party in its place: its number is that of the place or another. Assumes nothing.
use Prim.Native.Nat.{ℕ, ◌+◌, ◌-◌, ◌≤◌}
use mathlib.Core.Path.{◌≡◌, refl, sym, ap, ◌∙◌}
use mathlib.Core.Bool.{Bool, true, false}
use mathlib.Core.Option.{some}
use mathlib.Core.List.{[], ◌∷◌}
use native.Mathlib.Omega.{arith}
use native.Mathlib.Decide.{ℕ_discrete}
use borrow.Author.Tests.{eq-eqb, ne_eqb}
use lib.Dec.{eqb}
use Rattle.config.specs.declared.Config.{Config}
use Rattle.config.specs.Config.{Valid, questions, store_length}
use Rattle.config.specs.Number.{client_number, server_number}
use Rattle.std.specs.Result.{is_ok}
use Rattle.std.proofs.Common.{Ok, Err}
use Rattle.config.specs.Refusal.{Verdict, refusal_number, verdict_number}
use Rattle.config.proofs.Refusals.{refusal_some}
use Rattle.config.specs.Questions.{ask, first_no}
use Rattle.config.proofs.Questions.{first_no_no, first_no_pass, later, questions_numbered}
use Rattle.config.proofs.Valid.{valid_asked}
use Rattle.server.specs.Calls as server
use Rattle.client.specs.declared.State as client
use Rattle.client.specs.Questions as client_questions
use Rattle.parties.specs.declared.Node.{Node}
use Rattle.parties.specs.Within.{client_in_place, place_questions, server_in_place}

-- counting from 0, and from 1
pub of_place : (n i : ℕ) → 1 ≤ n → eqb (n - 1) i ≡ eqb n (i + 1)
of_place n i h = elim (ℕ_discrete n (i + 1)) as (λ _. eqb (n - 1) i ≡ eqb n (i + 1)) [
  | yes e ↦ eq-eqb (n - 1) i (omega (arith, e)) ∙ sym (eq-eqb n (i + 1) e)
  | no ne ↦ ne_eqb (n - 1) i (λ z. ne (omega (arith, z, h))) ∙ sym (ne_eqb n (i + 1) ne)
]

-- 1 to 5 and 21 are answered yes, and 6 is not
pub place_no : (cfg : Config) {asked : ℕ} → asked ≡ first_no (questions cfg) → asked ≡ 0 → (holds : Bool) → holds ≡ false
    → 6 ≡ first_no (place_questions cfg holds)
place_no cfg e none_yet holds h = later cfg e none_yet (ask 6 holds ∷ []) (sym (first_no_no 6 holds [] h))

-- the number is 0 exactly if 6 is answered yes
module _ (cfg : Config) (v : Valid cfg) (holds : Bool) (got : ℕ) (e : got ≡ first_no (place_questions cfg holds)) where
  pub place_told : eqb got 0 ≡ holds
  unfolding first_no
  place_told =
      ap (λ n. eqb n 0) (e ∙ first_no_pass (questions cfg) (ask 6 holds ∷ []) (questions_numbered cfg) (valid_asked cfg v)) ∙ told holds
    where
      told : (b : Bool) → eqb (first_no (ask 6 b ∷ [])) 0 ≡ b
      told true = refl
      told false = refl

  pub place_passed : got ≡ 0 → holds ≡ true
  place_passed z = sym place_told ∙ eq-eqb got 0 z

  pub place_stopped : (got ≡ 0 → ⊥) → holds ≡ false
  place_stopped n = sym place_told ∙ ne_eqb got 0 n

-- whether it is answered yes
pub place_ok : (cfg : Config) → Valid cfg → (holds : Bool) (r : Verdict) → verdict_number r ≡ first_no (place_questions cfg holds) → is_ok r ≡ holds
place_ok cfg v holds (Ok x) e = place_told cfg v holds 0 e
place_ok cfg v holds (Err why) e =
    sym (ne_eqb (refusal_number why) 0 (refusal_some why e).0) ∙ place_told cfg v holds (refusal_number why) e

module _ (cfg : Config) (i : ℕ) where
  pub other_server : (x : Node) → eqb (server_number x.state.me) (i + 1) ≡ false → server_in_place cfg i (some x) ≡ false
  unfolding server_in_place
  other_server x h = rw h

  pub own_server : (x : Node) (long : ℕ) → long ≡ store_length cfg → eqb (server_number x.state.me) (i + 1) ≡ true
      → first_no (server.state_questions cfg x.state long) ≡ first_no (place_questions cfg (server_in_place cfg i (some x)))
  unfolding server_in_place server.state_questions
  own_server x long l h = rw (h, eq-eqb long (store_length cfg) l)

  pub other_client : (x : client.State) → eqb (client_number x.me) (i + 1) ≡ false → client_in_place cfg i (some x) ≡ false
  unfolding client_in_place
  other_client x h = rw h

  pub own_client : (x : client.State) → eqb (client_number x.me) (i + 1) ≡ true
      → first_no (client_questions.state_questions cfg x) ≡ first_no (place_questions cfg (client_in_place cfg i (some x)))
  unfolding client_in_place client_questions.call_questions
  own_client x h = rw h
