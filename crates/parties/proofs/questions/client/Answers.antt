use Prim.Native.Nat.{◌+◌}
use mathlib.Core.Path.{refl, sym, ap, ◌∙◌}
use lib.Dec.{eqb}
use borrow.Author.Tests.{not-false, not-true}
use Rattle.config.specs.Config.{questions}
use Rattle.config.proofs.Exits.{stopped}
use Rattle.parties.proofs.questions.Laws.{other_client, own_client, place_no}
use Rattle.parties.proofs.questions.client.Goals as goal

pub returns-in_err-ask : goal.returns-in_err-ask
returns-in_err-ask c = stopped c.from_residual.result _ (questions c.args.cfg) _ c.from_residual.ensures.1 c.in_err-ask.ensures

pub returns-then-not-is_of : goal.returns-then-not-is_of
returns-then-not-is_of c =
    let a = c.args in
    place_no a.cfg c.in_ok-ask.ensures refl _ (other_client a.cfg a.place a.state (sym (ap (λ n. eqb n (a.place + 1)) c.number.ensures) ∙ sym c.is_of.ensures ∙ not-true _ c.if-not-is_of.true-raw))

pub returns : goal.returns
returns c =
    let a = c.args in
    c.ask-2.ensures ∙ own_client a.cfg a.place a.state (sym (ap (λ n. eqb n (a.place + 1)) c.number.ensures) ∙ sym c.is_of.ensures ∙ not-false _ c.if-not-is_of.false-raw)
