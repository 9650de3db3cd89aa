use Rattle.std.proofs.Common.{true, false, sym, ◌∙◌}
use borrow.Author.Tests.{not-true, not-false}
use Rattle.config.specs.Config.{questions}
use Rattle.config.specs.Questions.{first_no}
use Rattle.config.proofs.Exits.{stopped}
use Rattle.config.proofs.Valid.{valid}
use Rattle.server.specs.Calls.{state_questions}
use Rattle.server.proofs.Asked.{by_state, no_length}
use Rattle.server.proofs.Limits.{by_lengths, no_numbers, numbers_eight}
use Rattle.server.proofs.ask.Goals as goal

pub returns-in_err-ask : goal.returns-in_err-ask
unfolding state_questions
returns-in_err-ask c = let a = c.args in stopped c.from_residual.result _ (questions a.cfg) _ c.from_residual.ensures.1 c.in_err-ask.ensures

pub store_length-requires : goal.store_length-requires
store_length-requires c = valid c.args.cfg (sym c.in_ok-ask.ensures)

pub returns-then-long-store_length : goal.returns-then-long-store_length
returns-then-long-store_length c =
    let a = c.args in
    no_length a.cfg a.state a.long (sym c.in_ok-ask.ensures) (λ z. c.if-long-store_length.true (z ∙ sym c.store_length.ensures))

pub numbers-requires : goal.numbers-requires
numbers-requires c = valid c.args.cfg (sym c.in_ok-ask.ensures)

pub returns-then-not-numbers : goal.returns-then-not-numbers
unfolding first_no
returns-then-not-numbers c =
    let a = c.args in
    by_state a.cfg a.state a.long (sym c.in_ok-ask.ensures) false (c.if-long-store_length.false ∙ c.store_length.ensures)
    (no_numbers a.cfg a.state (sym c.numbers.ensures ∙ not-true _ c.if-not-numbers.true-raw))

pub lengths-requires : goal.lengths-requires
lengths-requires c =
    let a = c.args in
    let v = valid a.cfg (sym c.in_ok-ask.ensures) in
    (v, numbers_eight a.cfg a.state (sym c.numbers.ensures ∙ not-false _ c.if-not-numbers.false-raw) v)

pub returns-then-not-lengths : goal.returns-then-not-lengths
unfolding first_no
returns-then-not-lengths c =
    let a = c.args in
    by_state a.cfg a.state a.long (sym c.in_ok-ask.ensures) false (c.if-long-store_length.false ∙ c.store_length.ensures)
    (by_lengths a.cfg a.state (sym c.numbers.ensures ∙ not-false _ c.if-not-numbers.false-raw) ∙ sym c.lengths.ensures ∙ not-true _ c.if-not-lengths.true-raw)

pub returns : goal.returns
unfolding first_no
returns c =
    let a = c.args in
    by_state a.cfg a.state a.long (sym c.in_ok-ask.ensures) true (c.if-long-store_length.false ∙ c.store_length.ensures)
    (by_lengths a.cfg a.state (sym c.numbers.ensures ∙ not-false _ c.if-not-numbers.false-raw) ∙ sym c.lengths.ensures ∙ not-false _ c.if-not-lengths.false-raw)
