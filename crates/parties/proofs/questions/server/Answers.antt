use Prim.Native.Nat.{◌+◌}
use mathlib.Core.Path.{refl, sym, ap, ◌∙◌}
use lib.Dec.{eqb}
use native.Mathlib.Omega.{arith}
use borrow.Author.Tests.{not-false, not-true}
use Rattle.config.specs.Config.{questions}
use Rattle.config.proofs.Exits.{stopped}
use Rattle.config.proofs.Sizes.{store_small}
use Rattle.config.proofs.Valid.{asked_valid}
use Rattle.parties.proofs.questions.Laws.{other_server, own_server, place_no}
use Rattle.parties.proofs.questions.server.Goals as goal

pub returns-in_err-ask : goal.returns-in_err-ask
returns-in_err-ask c = stopped c.from_residual.result _ (questions c.args.cfg) _ c.from_residual.ensures.1 c.in_err-ask.ensures

pub returns-then-not-is_of : goal.returns-then-not-is_of
returns-then-not-is_of c =
    let a = c.args in
    place_no a.cfg c.in_ok-ask.ensures refl _ (other_server a.cfg a.place a.node (sym (ap (λ n. eqb n (a.place + 1)) c.number.ensures) ∙ sym c.is_of.ensures ∙ not-true _ c.if-not-is_of.true-raw))

pub overflow_add-cfg : goal.overflow_add-cfg
overflow_add-cfg c = omega (arith, (asked_valid c.args.cfg c.in_ok-ask.ensures refl).d_high)

pub overflow_mul-cfg : goal.overflow_mul-cfg
overflow_mul-cfg c = omega (arith, store_small c.args.cfg (asked_valid c.args.cfg c.in_ok-ask.ensures refl))

pub returns : goal.returns
returns c =
    let a = c.args in
    c.ask-2.ensures ∙ own_server a.cfg a.place a.node _ refl (sym (ap (λ n. eqb n (a.place + 1)) c.number.ensures) ∙ sym c.is_of.ensures ∙ not-false _ c.if-not-is_of.false-raw)
