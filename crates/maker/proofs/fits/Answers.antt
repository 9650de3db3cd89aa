-- `maker::fits` meets its contract. Assumes nothing.
use mathlib.Core.Path.{refl, sym, ap, ap₂, ◌∙◌}
use mathlib.Core.Bool.{◌&&◌}
use lib.Dec.{eqb}
use borrow.Author.Tests.{not-false, not-true}
use Rattle.config.specs.Config.{board_length}
use Rattle.config.proofs.Refusals.{refusal_some}
use Rattle.events.specs.Questions.{lent_sized, rig_within}
use Rattle.lines.specs.Program.{program, program_messages}
use Rattle.maker.proofs.Six.{asked_is, asked-no, asked_yes, ok_is}
use Rattle.maker.proofs.fits.Goals as goal

pub returns-then-not-whole : goal.returns-then-not-whole
returns-then-not-whole c =
    let a = c.args in
    sym (ap (λ b. b && lent_sized program program_messages (board_length program) a.sizes && rig_within program program_messages a.rig)
    (sym c.whole.ensures ∙ not-true _ c.if-not-whole.true-raw))

pub returns-in_default : goal.returns-in_default
returns-in_default c =
    let a = c.args in
    sym (ap₂ (λ x y. x && y && rig_within program program_messages a.rig) (sym c.whole.ensures ∙ not-false _ c.if-not-whole.false-raw)
    (asked-no (lent_sized program program_messages (board_length program) a.sizes) c.in_default.ensures (refusal_some _ c.in_default.ensures).0))

pub returns : goal.returns
returns c =
    let a = c.args in
    let kept = rig_within program program_messages a.rig in
    c.is_ok.ensures.value ∙ ok_is c.ask-2.result ∙ ap (λ n. eqb n 0) c.ask-2.ensures
    ∙ asked_is kept
    ∙ sym (ap₂ (λ x y. x && y && kept) (sym c.whole.ensures ∙ not-false _ c.if-not-whole.false-raw)
    (asked_yes (lent_sized program program_messages (board_length program) a.sizes) c.in-Ok.ensures refl))
