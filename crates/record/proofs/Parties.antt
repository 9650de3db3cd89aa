-- What the constructors of clients' and servers' numbers tell, in a valid configuration: one is made exactly of a number within its
-- limits, and wraps that number. Assumes nothing.
use Rattle.std.proofs.Common.{Ok, Err}
use mathlib.Core.Path.{◌≡◌, refl, sym, ◌∙◌, ap}
use mathlib.Core.Bool.{Bool, true, false, cond}
use mathlib.Core.List.{List, [], ◌∷◌, ◌++◌}
use Prim.Native.Nat.{ℕ, ◌≤◌}
use native.Mathlib.Omega.{arith}
use borrow.Author.Tests.{eq-eqb}
use lib.Dec.{eqb}
use Rattle.config.specs.declared.Config.{Config}
use Rattle.config.specs.declared.Client.{Client}
use Rattle.config.specs.declared.Server.{Server}
use Rattle.config.specs.Number.{NewClient}
use Rattle.config.specs.Number.{NewServer}
use Rattle.config.specs.declared.Refusal.{Refusal}
use Rattle.config.specs.Config.{Valid, questions}
use Rattle.config.specs.Number.{NewClientPost, NewServerPost, client_made, client_number, client_questions, server_made, server_number, server_questions}
use Rattle.config.specs.Questions.{Question, ask, first_no, numbered, within}
use Rattle.config.specs.Refusal.{refusal_number, verdict_number}
use Rattle.config.proofs.Questions.{last_all, last_yes, questions_numbered}
use Rattle.config.proofs.Refusals.{refusal_low}
use Rattle.config.proofs.Valid.{valid_asked}

-- a refusal has a question's number
pub number_low : (why : Refusal) → 1 ≤ refusal_number why
number_low = refusal_low

-- questions that are all answered yes but for the last
module _ (first : List Question) (known : numbered first ≡ true) (none : first_no first ≡ 0) (holds : Bool) where
  abbrev all : List Question
  all = first ++ ask 8 holds ∷ []

  last_false : (n : ℕ) → 1 ≤ n → n ≡ first_no all → holds ≡ false
  last_false n low e = go holds refl
    where
      go : (b : Bool) → holds ≡ b → holds ≡ false
      go false h = h
      go true h = absurd (omega (arith, last_yes first 8 holds known none h))

last_true : (first : List Question) (holds : Bool) → numbered first ≡ true → 0 ≡ first_no (first ++ ask 8 holds ∷ []) → holds ≡ true
last_true first holds known e = (last_all first 8 holds known (omega arith) (sym e)).1

module _ (cfg : Config) (x : ℕ) where
  pub no_client : Valid cfg → (r : NewClient) (why : Refusal) → NewClientPost cfg x r → r ≡ Err why → within 1 cfg.c x ≡ false
  unfolding client_questions
  no_client v r why p e =
      last_false (questions cfg) (questions_numbered cfg) (valid_asked cfg v) (within 1 cfg.c x) (refusal_number why) (number_low why)
      (ap verdict_number (sym e) ∙ p.number)

  pub no-server : Valid cfg → (r : NewServer) (why : Refusal) → NewServerPost cfg x r → r ≡ Err why → within 1 cfg.n x ≡ false
  unfolding server_questions
  no-server v r why p e =
      last_false (questions cfg) (questions_numbered cfg) (valid_asked cfg v) (within 1 cfg.n x) (refusal_number why) (number_low why)
      (ap verdict_number (sym e) ∙ p.number)

  pub some_client : (r : NewClient) (c : Client) → NewClientPost cfg x r → r ≡ Ok c
      → (within 1 cfg.c x ≡ true) × (client_number c ≡ x)
  unfolding client_questions
  some_client r c p e =
      let none : 0 ≡ first_no (client_questions cfg x) = ap verdict_number (sym e) ∙ p.number in
      let made : client_number c ≡ cond (eqb (first_no (client_questions cfg x)) 0) x 0 = ap client_made (sym e) ∙ p.made in
      (last_true (questions cfg) (within 1 cfg.c x) (questions_numbered cfg) none, rw (eq-eqb (first_no (client_questions cfg x)) 0 (sym none)) at made)

  pub some_server : (r : NewServer) (s : Server) → NewServerPost cfg x r → r ≡ Ok s
      → (within 1 cfg.n x ≡ true) × (server_number s ≡ x)
  unfolding server_questions
  some_server r s p e =
      let none : 0 ≡ first_no (server_questions cfg x) = ap verdict_number (sym e) ∙ p.number in
      let made : server_number s ≡ cond (eqb (first_no (server_questions cfg x)) 0) x 0 = ap server_made (sym e) ∙ p.made in
      (last_true (questions cfg) (within 1 cfg.n x) (questions_numbered cfg) none, rw (eq-eqb (first_no (server_questions cfg x)) 0 (sym none)) at made)
