-- `rig::ask` meets its contract. Assumes nothing.
use mathlib.Core.Path.{refl, sym, ap, ap₂, ◌∙◌}
use mathlib.Core.Bool.{◌&&◌}
use native.Mathlib.Omega.{arith}
use borrow.Author.Tests.{le-leb, lt-leb, not-false, not-true}
use Rattle.config.specs.Config.{rig_questions}
use Rattle.config.proofs.Exits.{stopped}
use Rattle.config.proofs.Valid.{rig_valid}
use Rattle.events.specs.Questions.{parties_within, rig_within}
use Rattle.events.proofs.Asked.{six_no, six_yes}
use Rattle.rig.proofs.ask.Goals as goal

pub returns-in_err-ask_rig : goal.returns-in_err-ask_rig
returns-in_err-ask_rig c =
    let a = c.args in
    stopped c.from_residual.result _ (rig_questions a.cfg a.m) _ c.from_residual.ensures.1 c.in_err-ask_rig.ensures

pub returns-then-m-rig : goal.returns-then-m-rig
unfolding rig_within
returns-then-m-rig c =
    let a = c.args in
    six_no a.cfg a.m c.in_ok-ask_rig.ensures refl (rig_within a.cfg a.m a.rig)
    (ap (λ b. b && parties_within a.cfg a.rig) (lt-leb a.rig.count a.m c.if-m-rig.true))

pub all-requires : goal.all-requires
all-requires c = let a = c.args in rig_valid a.cfg a.m c.in_ok-ask_rig.ensures refl

pub returns-then-not-all : goal.returns-then-not-all
unfolding rig_within
returns-then-not-all c =
    let a = c.args in
    six_no a.cfg a.m c.in_ok-ask_rig.ensures refl (rig_within a.cfg a.m a.rig)
    (ap₂ ◌&&◌ (le-leb a.rig.count a.m (omega (arith, c.if-m-rig.false))) (sym c.all.ensures ∙ not-true _ c.if-not-all.true-raw))

pub returns : goal.returns
unfolding rig_within
returns c =
    let a = c.args in
    six_yes a.cfg a.m c.in_ok-ask_rig.ensures refl (rig_within a.cfg a.m a.rig)
    (ap₂ ◌&&◌ (le-leb a.rig.count a.m (omega (arith, c.if-m-rig.false))) (sym c.all.ensures ∙ not-false _ c.if-not-all.false-raw))
