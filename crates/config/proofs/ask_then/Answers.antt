use mathlib.Core.Path.{refl, sym, ◌∙◌}
use mathlib.Core.List.{[], ◌∷◌}
use borrow.Author.Tests.{not-true, not-false}
use Rattle.config.specs.Questions.{ask, first_no, within}
use Rattle.config.specs.Config.{questions}
use Rattle.config.specs.Refusal.{refusal_number}
use Rattle.config.proofs.Exits.{stopped}
use Rattle.config.proofs.Questions.{later, first_no_no, first_no_yes}
use Rattle.config.proofs.ask_then.Goals as goal

pub returns-in_err-ask : goal.returns-in_err-ask
returns-in_err-ask c =
    let a = c.args in
    let x = c.from_residual in
    stopped x.result _ (questions a.cfg) (ask (refusal_number a.why) (within 1 a.high a.x) ∷ []) x.ensures.1 c.in_err-ask.ensures

pub returns-then-not-within : goal.returns-then-not-within
returns-then-not-within c =
    let a = c.args in
    let holds = within 1 a.high a.x in
    later a.cfg c.in_ok-ask.ensures refl (ask (refusal_number a.why) holds ∷ [])
    (sym (first_no_no (refusal_number a.why) holds [] (sym c.within.ensures ∙ not-true _ c.if-not-within.true-raw)))

pub returns : goal.returns
unfolding first_no
returns c =
    let a = c.args in
    let holds = within 1 a.high a.x in
    later a.cfg c.in_ok-ask.ensures refl (ask (refusal_number a.why) holds ∷ [])
    (sym (first_no_yes (refusal_number a.why) holds [] (sym c.within.ensures ∙ not-false _ c.if-not-within.false-raw)))
