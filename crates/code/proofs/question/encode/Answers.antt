-- `code::question::encode` meets its contract: each answer is the first no.
use mathlib.Core.Path.{sym, ◌∙◌}
use native.Mathlib.Nat.{lt_of_le_of_lt}
use native.Mathlib.Omega.{arith}
use borrow.Author.Tests.{not-true, not-false}
use lib.Dec.{lit<}
use Rattle.config.proofs.Exits.{exits}
use Rattle.config.proofs.Refusals.{refusal_some}
use Rattle.config.proofs.Valid.{valid}
use Rattle.code.proofs.Asked.{rows_small}
use Rattle.code.proofs.Encodable.{refused, wrong_board, wrong_part, no-server, some_server}
use Rattle.code.proofs.question.encode.Goals as goal

pub returns-in_err-ask : goal.returns-in_err-ask
returns-in_err-ask c =
    let x = c.args in
    exits c.from_residual.result _ c.from_residual.ensures.1
    ∙ refused x.cfg x.board x.s x.part _ c.in_err-ask.ensures (refusal_some _ c.in_err-ask.ensures).0

pub overflow_mul-cfg : goal.overflow_mul-cfg
overflow_mul-cfg c =
    let v = valid c.args.cfg (sym c.in_ok-ask.ensures) in
    record { fits = lt_of_le_of_lt (rows_small (omega (arith, v.k_high, v.n_high)) (omega (arith, v.e_high))) (lit< tt) }

pub returns-then-board-cfg : goal.returns-then-board-cfg
returns-then-board-cfg c =
    let x = c.args in
    wrong_board x.cfg x.board x.s x.part (sym c.in_ok-ask.ensures) c.if-board-cfg.true

pub returns-then-part-cfg : goal.returns-then-part-cfg
returns-then-part-cfg c =
    let x = c.args in
    wrong_part x.cfg x.board x.s x.part (sym c.in_ok-ask.ensures) c.if-part-cfg.true

pub returns-then-not-server_exists : goal.returns-then-not-server_exists
returns-then-not-server_exists c =
    let d = c in
    let x = d.args in
    no-server x.cfg x.board x.s x.part (sym d.in_ok-ask.ensures) d.if-board-cfg.false d.if-part-cfg.false
    (sym c.server_exists.ensures ∙ not-true _ c.if-not-server_exists.true-raw)

pub returns : goal.returns
returns c =
    let d = c in
    let x = d.args in
    some_server x.cfg x.board x.s x.part (sym d.in_ok-ask.ensures) d.if-board-cfg.false d.if-part-cfg.false
    (sym c.server_exists.ensures ∙ not-false _ c.if-not-server_exists.false-raw)
