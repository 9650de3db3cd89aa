use mathlib.Core.Path.{refl, sym, ◌∙◌, ap}
use mathlib.Core.Bool.{Bool, cond}
use Prim.Native.Nat.{◌≤◌}
use native.Mathlib.Omega.{arith}
use borrow.Author.Rules.{rules}
use borrow.Author.Tests.{not-true, not-false}
use Rattle.config.specs.Config.{questions}
use Rattle.config.proofs.Exits.{exits}
use Rattle.config.proofs.Refusals.{refusal_some}
use Rattle.config.proofs.Questions.{first_no_stop}
use Rattle.config.proofs.Valid.{valid}
use Rattle.record.specs.Calls.{write_questions}
use Rattle.record.specs.Record.{highest_number}
use Rattle.record.proofs.Answers.{not_written, write-breaks, write-last, write_shape, written}
use Rattle.record.proofs.Written.{header_fits, header_limits, header_sound, is-header}
use Rattle.record.proofs.write.Goals as goal

pub returns-in_err-ask : goal.returns-in_err-ask
unfolding write_questions
returns-in_err-ask c =
    let a = c.args in
    let some = refusal_some _ c.in_err-ask.ensures in
    not_written a.cfg a.h _ _ _ (first_no_stop (questions a.cfg) _ some.1 ∙ sym c.in_err-ask.ensures) some.0
    (exits c.from_residual.result _ c.from_residual.ensures.1)

pub returns-then-buf-ne-RECORD : goal.returns-then-buf-ne-RECORD
returns-then-buf-ne-RECORD c =
    let a = c.args in
    not_written a.cfg a.h _ 6 _ (write_shape a.cfg a.h _ (sym c.in_ok-ask.ensures) c.if-buf-ne-RECORD.true) (λ z. search rules) refl

pub returns-then-not-limits : goal.returns-then-not-limits
returns-then-not-limits c =
    let a = c.args in
    not_written a.cfg a.h _ 12 _
    (write-breaks a.cfg a.h _ (sym c.in_ok-ask.ensures) c.if-buf-ne-RECORD.false _ (header_limits a.cfg a.h _)
    (sym c.limits.ensures ∙ not-true _ c.if-not-limits.true-raw))
    (λ z. search rules) refl

pub returns-then-not-sound : goal.returns-then-not-sound
returns-then-not-sound c =
    let a = c.args in
    not_written a.cfg a.h _ 12 _
    (write-breaks a.cfg a.h _ (sym c.in_ok-ask.ensures) c.if-buf-ne-RECORD.false _ (header_sound a.cfg a.h _)
    (sym c.sound.ensures ∙ not-true _ c.if-not-sound.true-raw))
    (λ z. search rules) refl

pub length_fits-requires : goal.length_fits-requires
length_fits-requires c = valid c.args.cfg (sym c.in_ok-ask.ensures)

pub returns-then-not-length_fits : goal.returns-then-not-length_fits
returns-then-not-length_fits c =
    let a = c.args in
    not_written a.cfg a.h _ 12 _
    (write-breaks a.cfg a.h _ (sym c.in_ok-ask.ensures) c.if-buf-ne-RECORD.false _ (header_fits a.cfg a.h _)
    (sym c.length_fits.ensures ∙ not-true _ c.if-not-length_fits.true-raw))
    (λ z. search rules) refl

pub put-requires : goal.put-requires
put-requires c = (
  record { valid = valid c.args.cfg (sym c.in_ok-ask.ensures); eighty = c.if-buf-ne-RECORD.false },
  sym c.length_fits.ensures ∙ not-false _ c.if-not-length_fits.false-raw,
)

pub returns : goal.returns
returns c =
    let s = c in
    let a = s.args in
    let v = sym c.in_ok-ask.ensures in
    let l = sym c.limits.ensures ∙ not-false _ c.if-not-limits.false-raw in
    let o : a.h.operation ≤ highest_number = omega arith in
    let n : a.h.tag.number ≤ highest_number = omega arith in
    let r = sym c.sound.ensures ∙ not-false _ c.if-not-sound.false-raw in
    let f = sym c.length_fits.ensures ∙ not-false _ c.if-not-length_fits.false-raw in
    let m = is-header a.cfg a.h _ c.if-buf-ne-RECORD.false (valid a.cfg v).e_high o n l r f in
    written a.cfg a.h _ _ (write-last a.cfg a.h _ v c.if-buf-ne-RECORD.false ∙ ap (λ (b : Bool). cond b 0 12) m)
    c.put.ensures
