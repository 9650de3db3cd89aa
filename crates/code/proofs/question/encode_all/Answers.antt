-- `code::question::encode_all` meets its contract: each answer is the first no.
use mathlib.Core.Path.{sym, ◌∙◌}
use native.Mathlib.Omega.{arith}
use borrow.Author.Tests.{not-true, not-false}
use Rattle.config.proofs.Exits.{exits}
use Rattle.config.proofs.Refusals.{refusal_some}
use Rattle.config.proofs.Valid.{valid}
use Rattle.code.proofs.Asked.{board_small}
use Rattle.code.proofs.EncodableAll.{refused, wrong_board, wrong_offset, wrong_buffer, accepted}
use Rattle.code.proofs.question.encode_all.Goals as goal

pub returns-in_err-ask : goal.returns-in_err-ask
returns-in_err-ask c =
    let x = c.args in
    exits c.from_residual.result _ c.from_residual.ensures.1
    ∙ refused x.cfg x.board x.offset x.distance x.buffer _ c.in_err-ask.ensures (refusal_some _ c.in_err-ask.ensures).0

pub overflow_mul-cfg : goal.overflow_mul-cfg
overflow_mul-cfg c =
    let b = c in
    let cfg = b.args.cfg in
    omega (arith, board_small cfg (valid cfg (sym b.in_ok-ask.ensures)))

pub returns-then-cfg-board : goal.returns-then-cfg-board
returns-then-cfg-board c =
    let b = c in
    let x = b.args in
    wrong_board x.cfg x.board x.offset x.distance x.buffer (sym b.in_ok-ask.ensures) (λ e. c.if-cfg-board.true (sym e))

pub returns-then-distance-cfg : goal.returns-then-distance-cfg
returns-then-distance-cfg c =
    let b = c in
    let x = b.args in
    wrong_offset x.cfg x.board x.offset x.distance x.buffer (sym b.in_ok-ask.ensures)
    (omega (arith, c.if-distance-cfg.true))

pub returns-then-distance-cfg-2 : goal.returns-then-distance-cfg-2
returns-then-distance-cfg-2 c =
    let b = c in
    let x = b.args in
    wrong_offset x.cfg x.board x.offset x.distance x.buffer (sym b.in_ok-ask.ensures)
    (omega (arith, c.if-distance-cfg.false, c.if-distance-cfg-2.true))

pub joined-requires : goal.joined-requires
joined-requires c =
    let b = c in
    let v = valid b.args.cfg (sym b.in_ok-ask.ensures) in
    (v.n_low, omega (arith, v.n_high))

pub returns-then-not-joined : goal.returns-then-not-joined
returns-then-not-joined c =
    let b = c in
    let x = b.args in
    wrong_buffer x.cfg x.board x.offset x.distance x.buffer (sym b.in_ok-ask.ensures)
    (sym c.joined.ensures ∙ not-true c.joined.result c.if-not-joined.true-raw)

pub returns : goal.returns
returns c =
    let d = c in
    let b = d in
    let x = b.args in
    accepted x.cfg x.board x.offset x.distance x.buffer (sym b.in_ok-ask.ensures)
    (sym d.if-cfg-board.false)
    (omega (arith, d.if-distance-cfg.false, d.if-distance-cfg-2.false))
    (sym c.joined.ensures ∙ not-false c.joined.result c.if-not-joined.false-raw)
