use mathlib.Core.Path.{refl, sym, ◌∙◌}
use borrow.Author.Tests.{not-true, not-false}
use Rattle.config.specs.declared.Config.{Config}
use Rattle.config.specs.Config.{most_messages, questions_to5, ranks_within, rig_questions}
use Rattle.config.specs.Questions.{Question, ask, first_no, numbered, within}
use Rattle.config.proofs.Exits.{stopped}
use Rattle.config.proofs.Questions.{passes}
use Rattle.config.proofs.Valid.{five_clients}
use Prim.Native.Nat.{ℕ}
use mathlib.Core.List.{List, [], ◌∷◌}
use Rattle.config.proofs.Config.ask_rig.Goals as goal

-- the questions behind the first five
abbrev rest : Config → ℕ → List Question
rest cfg m = ask 5 (within 1 most_messages m) ∷ ask 21 (ranks_within cfg) ∷ []

pub returns-in_err-to_five : goal.returns-in_err-to_five
unfolding rig_questions
returns-in_err-to_five c =
    let a = c.args in
    let x = c.from_residual in
    stopped x.result _ (questions_to5 a.self) (rest a.self a.m) x.ensures.1 c.in_err-to_five.ensures

pub returns-then-not-within : goal.returns-then-not-within
unfolding rig_questions first_no numbered
returns-then-not-within c =
    let a = c.args in
    passes (questions_to5 a.self) (rest a.self a.m) _ 5 refl c.in_ok-to_five.ensures refl
    (rw (sym c.within.ensures ∙ not-true _ c.if-not-within.true-raw))

pub ranks_within-requires : goal.ranks_within-requires
ranks_within-requires c =
    five_clients c.args.self (sym c.in_ok-to_five.ensures)

pub returns-then-not-ranks_within : goal.returns-then-not-ranks_within
unfolding rig_questions first_no numbered
returns-then-not-ranks_within c =
    let a = c.args in
    passes (questions_to5 a.self) (rest a.self a.m) _ 21 refl c.in_ok-to_five.ensures refl
    (rw (sym c.within.ensures ∙ not-false _ c.if-not-within.false-raw, sym c.ranks_within.ensures ∙ not-true _ c.if-not-ranks_within.true-raw))

pub returns : goal.returns
unfolding rig_questions first_no numbered
returns c =
    let a = c.args in
    passes (questions_to5 a.self) (rest a.self a.m) _ 0 refl c.in_ok-to_five.ensures refl
    (rw (sym c.within.ensures ∙ not-false _ c.if-not-within.false-raw, sym c.ranks_within.ensures ∙ not-false _ c.if-not-ranks_within.false-raw))
