use mathlib.Core.Path.{refl, sym, ◌∙◌}
use borrow.Author.Tests.{not-false, not-true}
use Rattle.config.specs.Config.{rig_questions}
use Rattle.config.proofs.Exits.{stopped}
use Rattle.config.proofs.Valid.{rig_most, rig_valid}
use Rattle.events.specs.Questions.{lent_sized}
use Rattle.events.proofs.Asked.{six_no, six_yes}
use Rattle.events.proofs.ask.Goals as goal

pub returns-in_err-ask_rig : goal.returns-in_err-ask_rig
returns-in_err-ask_rig c =
    let a = c.args in
    stopped c.from_residual.result _ (rig_questions a.cfg a.m) _ c.from_residual.ensures.1 c.in_err-ask_rig.ensures

pub sized-requires : goal.sized-requires
sized-requires c =
    let a = c.args in
    let asked = c.in_ok-ask_rig.ensures in
    (rig_valid a.cfg a.m asked refl, (rig_most a.cfg a.m asked refl).1)

pub returns-then-not-sized : goal.returns-then-not-sized
returns-then-not-sized c =
    let a = c.args in
    six_no a.cfg a.m c.in_ok-ask_rig.ensures refl (lent_sized a.cfg a.m a.board a.sizes)
    (sym c.sized.ensures ∙ not-true _ c.if-not-sized.true-raw)

pub returns : goal.returns
returns c =
    let a = c.args in
    six_yes a.cfg a.m c.in_ok-ask_rig.ensures refl (lent_sized a.cfg a.m a.board a.sizes)
    (sym c.sized.ensures ∙ not-false _ c.if-not-sized.false-raw)
