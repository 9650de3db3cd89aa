use mathlib.Core.Path.{refl, sym, ◌∙◌}
use native.Mathlib.Omega.{arith}
use borrow.Author.Tests.{le-leb, lt-leb, not-false, not-true}
use Rattle.config.specs.Config.{rig_questions}
use Rattle.config.proofs.Exits.{stopped}
use Rattle.config.proofs.Valid.{rig_valid}
use Rattle.events.specs.Calls.{alone_within}
use Rattle.events.proofs.Asked.{six_no, six_yes}
use Rattle.events.proofs.questions.alone.Goals as goal

pub returns-in_err-ask_rig : goal.returns-in_err-ask_rig
returns-in_err-ask_rig c = let a = c.args in stopped c.from_residual.result _ (rig_questions a.cfg a.m) _ c.from_residual.ensures.1 c.in_err-ask_rig.ensures

pub returns-then-m-part : goal.returns-then-m-part
returns-then-m-part c =
    let a = c.args in
    six_no a.cfg a.m c.in_ok-ask_rig.ensures refl (alone_within a.cfg a.m a.part a.call) (rw (lt-leb a.part.count a.m c.if-m-part.true))

pub returns-then-not-has : goal.returns-then-not-has
returns-then-not-has c =
    let a = c.args in
    six_no a.cfg a.m c.in_ok-ask_rig.ensures refl (alone_within a.cfg a.m a.part a.call)
    (rw (le-leb a.part.count a.m (omega (arith, c.if-m-part.false)), sym c.has.ensures ∙ not-true _ c.if-not-has.true-raw))

pub part-requires : goal.part-requires
part-requires c = let a = c.args in rig_valid a.cfg a.m c.in_ok-ask_rig.ensures refl

pub returns-then-not-part : goal.returns-then-not-part
returns-then-not-part c =
    let a = c.args in
    six_no a.cfg a.m c.in_ok-ask_rig.ensures refl (alone_within a.cfg a.m a.part a.call)
    (rw (le-leb a.part.count a.m (omega (arith, c.if-m-part.false)), sym c.has.ensures ∙ not-false _ c.if-not-has.false-raw, sym c.part.ensures ∙ not-true _ c.if-not-part.true-raw))

pub returns : goal.returns
returns c =
    let a = c.args in
    six_yes a.cfg a.m c.in_ok-ask_rig.ensures refl (alone_within a.cfg a.m a.part a.call)
    (rw (le-leb a.part.count a.m (omega (arith, c.if-m-part.false)), sym c.has.ensures ∙ not-false _ c.if-not-has.false-raw, sym c.part.ensures ∙ not-false _ c.if-not-part.false-raw))
