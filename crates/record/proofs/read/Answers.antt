use mathlib.Core.Path.{refl, sym, ◌∙◌}
use borrow.Author.Rules.{rules}
use Rattle.std.proofs.lemmas.Result.{err_from_is_err_and}
use Rattle.config.specs.Config.{questions}
use Rattle.config.proofs.Questions.{first_no_stop}
use Rattle.config.proofs.Refusals.{refusal_some}
use Rattle.config.proofs.Valid.{valid}
use Rattle.record.specs.Calls.{read_questions}
use Rattle.record.proofs.Answers.{not_read, parsed-read, read-last, read-shape}
use Rattle.record.proofs.read.Goals as goal

pub returns-in_err-ask : goal.returns-in_err-ask
unfolding read_questions
returns-in_err-ask c =
    let a = c.args in
    let p = err_from_is_err_and c.from_residual.result c.from_residual.ensures.1 in
    let some = refusal_some _ c.in_err-ask.ensures in
    rw (p.1, p.2) (not_read a.cfg _ _ _ (first_no_stop (questions a.cfg) _ some.1 ∙ sym c.in_err-ask.ensures) some.0 refl)

pub parse-requires : goal.parse-requires
parse-requires c =
    record { valid = valid c.args.cfg (sym c.in_ok-ask.ensures); eighty = c.if-buf-eq-RECORD.true }

pub returns-then-buf-eq-RECORD : goal.returns-then-buf-eq-RECORD
returns-then-buf-eq-RECORD c =
    let a = c.args in
    let e = read-last a.cfg _ (sym c.in_ok-ask.ensures) c.if-buf-eq-RECORD.true in
    parsed-read a.cfg _ e _ c.parse.ensures

pub returns : goal.returns
returns c =
    let a = c.args in
    not_read a.cfg _ 6 _ (read-shape a.cfg _ (sym c.in_ok-ask.ensures) c.if-buf-eq-RECORD.false) (λ z. search rules) refl
