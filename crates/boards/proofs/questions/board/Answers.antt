use Prim.Native.Nat.{ℕ}
use mathlib.Core.Bool.{Bool, true, false}
use mathlib.Core.List.{[], ◌∷◌, ◌++◌}
use mathlib.Core.Path.{◌≡◌, refl, sym, ap, ◌∙◌}
use native.Mathlib.Omega.{arith}
use borrow.Author.Tests.{not-true, not-false}
use Rattle.config.specs.declared.Config.{Config}
use Rattle.config.specs.Config.{rig_questions}
use Rattle.config.specs.Questions.{ask, first_no}
use Rattle.config.proofs.Questions.{last_all, last_yes, rig_questions_numbered}
use Rattle.config.proofs.Refusals.{refusal_some}
use Rattle.config.proofs.Valid.{rig_valid}
use Rattle.events.specs.Questions.{rig_within}
use Rattle.boards.specs.Questions.{up_alike}
use Rattle.boards.specs.View.{rig_with}
use Rattle.boards.proofs.questions.board.Goals as goal

-- questions 1 to 5 and 21 are answered yes, so that the number is that of 6, or 0
module _ (cfg : Config) (m : ℕ) (n : ℕ) (five : first_no (rig_questions cfg m) ≡ 0) where
  is-no : (holds : Bool) → n ≡ first_no (rig_questions cfg m ++ ask 6 holds ∷ []) → (n ≡ 0 → ⊥) → false ≡ holds
  is-no true e some = absurd (some (e ∙ last_yes (rig_questions cfg m) 6 true (rig_questions_numbered cfg m) five refl))
  is-no false e some = refl

  is-yes : (holds : Bool) → n ≡ first_no (rig_questions cfg m ++ ask 6 holds ∷ []) → n ≡ 0 → holds ≡ true
  is-yes holds e none = (last_all (rig_questions cfg m) 6 holds (rig_questions_numbered cfg m) (omega arith) (sym e ∙ none)).1

pub returns-in_default : goal.returns-in_default
unfolding up_alike rig_with
returns-in_default c =
    let a = c.args in
    let within = rig_within a.cfg a.m in
    let x = c.one.result in
    rw (sym (ap within c.one.ensures) ∙ sym (is-no a.cfg a.m _ c.requires (within x) c.in_default.ensures (refusal_some _ c.in_default.ensures).0))

pub servers_alike-requires : goal.servers_alike-requires
servers_alike-requires c = rig_valid c.args.cfg c.args.m refl c.requires

pub returns-then-not-servers_alike : goal.returns-then-not-servers_alike
unfolding up_alike rig_with
returns-then-not-servers_alike c =
    let a = c.args in
    let within = rig_within a.cfg a.m in
    let x = c.one.result in
    rw (
      sym (ap within c.one.ensures) ∙ is-yes a.cfg a.m 0 c.requires (within x) c.in-Ok.ensures refl,
      sym c.servers_alike.ensures ∙ not-true _ c.if-not-servers_alike.true-raw,
    )

pub clients_alike-requires : goal.clients_alike-requires
clients_alike-requires c = rig_valid c.args.cfg c.args.m refl c.requires

pub returns : goal.returns
unfolding up_alike rig_with
returns c =
    let a = c.args in
    let within = rig_within a.cfg a.m in
    let x = c.one.result in
    c.clients_alike.ensures
    ∙ rw (
      sym (ap within c.one.ensures) ∙ is-yes a.cfg a.m 0 c.requires (within x) c.in-Ok.ensures refl,
      sym c.servers_alike.ensures ∙ not-false _ c.if-not-servers_alike.false-raw,
    )
