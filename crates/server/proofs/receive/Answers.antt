use Rattle.std.proofs.Common.{sym, ◌∙◌}
use Rattle.std.proofs.lemmas.Result.{err_from_is_err_and}
use Rattle.config.proofs.Refusals.{refusal_some}
use Rattle.server.proofs.Asked.{Holds, state_holds, step_answer, step_handed, step_stops}
use Rattle.server.proofs.Handed.{step_elsewhere, step_here, step_ill}
use Rattle.server.proofs.receive.Goals as goal
use Rattle.server.proofs.receive.Goals.{In_ok-ask}

-- questions 1 to 6 and 21 of the state are answered yes
held : (c : In_ok-ask) → Holds c.args.cfg c.args.state c.args.store
held c = state_holds _ _ _ (sym c.in_ok-ask.ensures)

pub returns-in_err-ask : goal.returns-in_err-ask
returns-in_err-ask c =
    let p = err_from_is_err_and c.from_residual.result c.from_residual.ensures.1 in
    rw (p.1, p.2) (step_stops _ _ _ _ _ _ c.in_err-ask.ensures (refusal_some _ c.in_err-ask.ensures).0)

pub returns-then-handed-ne-RECORD : goal.returns-then-handed-ne-RECORD
returns-then-handed-ne-RECORD c = step_handed _ _ _ _ _ (held (goal.at.returns-then-handed-ne-RECORD c).In_ok-ask) c.if-handed-ne-RECORD.true

pub returns-then-answer-ne-RECORD : goal.returns-then-answer-ne-RECORD
returns-then-answer-ne-RECORD c = step_answer _ _ _ _ _ (held (goal.at.returns-then-answer-ne-RECORD c).In_ok-ask) c.if-handed-ne-RECORD.false c.if-answer-ne-RECORD.true

pub returns-in_default : goal.returns-in_default
returns-in_default c =
    step_ill _ _ _ _ _ (held (goal.at.returns-in_default c).In_ok-ask) c.if-handed-ne-RECORD.false c.if-answer-ne-RECORD.false _ c.read.ensures _ c.in_default.is

pub returns-then-number : goal.returns-then-number
returns-then-number c =
    step_here _ _ _ _ _ (held (goal.at.returns-then-number c).In_ok-ask) c.if-handed-ne-RECORD.false c.if-answer-ne-RECORD.false _ c.read.ensures _ c.in-Ok.is
    (sym c.number.ensures ∙ c.if-number.true ∙ c.number-2.ensures)

pub returns-else-number : goal.returns-else-number
returns-else-number c =
    step_elsewhere _ _ _ _ _ (held (goal.at.returns-else-number c).In_ok-ask) c.if-handed-ne-RECORD.false c.if-answer-ne-RECORD.false _ c.read.ensures _ c.in-Ok.is
    (λ z. c.if-number.false (c.number.ensures ∙ z ∙ sym c.number-2.ensures))
