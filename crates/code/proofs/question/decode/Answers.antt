-- `code::question::decode` meets its contract: each answer is the first no.
use mathlib.Core.Path.{sym, ◌∙◌}
use native.Mathlib.Omega.{arith}
use borrow.Author.Tests.{not-true, not-false}
use Rattle.config.proofs.Exits.{exits}
use Rattle.config.proofs.Refusals.{refusal_some}
use Rattle.config.proofs.Valid.{valid}
use Rattle.code.proofs.Asked.{board_small}
use Rattle.code.proofs.Decodable.{refused, wrong_elements, wrong_buffer, falling, too_few, accepted}
use Rattle.code.proofs.question.decode.Goals as goal

pub returns-in_err-ask : goal.returns-in_err-ask
returns-in_err-ask c =
    let x = c.args in
    exits c.from_residual.result _ c.from_residual.ensures.1
    ∙ refused x.cfg x.servers.now x.elements x.buffer _ c.in_err-ask.ensures (refusal_some _ c.in_err-ask.ensures).0

pub joined-requires : goal.joined-requires
joined-requires c =
    let v = valid c.args.cfg (sym c.in_ok-ask.ensures) in
    (v.e_low, v.e_high)

pub returns-then-not-joined : goal.returns-then-not-joined
returns-then-not-joined c =
    let x = c.args in
    wrong_elements x.cfg x.servers.now x.elements x.buffer (sym c.in_ok-ask.ensures) (sym c.joined.ensures ∙ not-true c.joined.result c.if-not-joined.true-raw)

pub overflow_mul-cfg : goal.overflow_mul-cfg
overflow_mul-cfg c = let x = c.args in omega (arith, board_small x.cfg (valid x.cfg (sym c.in_ok-ask.ensures)))

pub returns-then-buffer-cfg : goal.returns-then-buffer-cfg
returns-then-buffer-cfg c =
    let x = c.args in
    wrong_buffer x.cfg x.servers.now x.elements x.buffer (sym c.in_ok-ask.ensures) c.if-buffer-cfg.true

pub returns-then-not-rising : goal.returns-then-not-rising
returns-then-not-rising c =
    let x = c.args in
    falling x.cfg x.servers.now x.elements x.buffer (sym c.in_ok-ask.ensures) (sym c.joined.ensures ∙ not-false c.joined.result c.if-not-joined.false-raw) c.if-buffer-cfg.false
    (sym c.rising.ensures ∙ not-true c.rising.result c.if-not-rising.true-raw)

pub returns-then-servers-cfg : goal.returns-then-servers-cfg
returns-then-servers-cfg c =
    let x = c.args in
    too_few x.cfg x.servers.now x.elements x.buffer (sym c.in_ok-ask.ensures) (sym c.joined.ensures ∙ not-false c.joined.result c.if-not-joined.false-raw) c.if-buffer-cfg.false
    (sym c.rising.ensures ∙ not-false c.rising.result c.if-not-rising.false-raw) c.if-servers-cfg.true

pub returns : goal.returns
returns c =
    let x = c.args in
    accepted x.cfg x.servers.now x.elements x.buffer (sym c.in_ok-ask.ensures) (sym c.joined.ensures ∙ not-false c.joined.result c.if-not-joined.false-raw) c.if-buffer-cfg.false
    (sym c.rising.ensures ∙ not-false c.rising.result c.if-not-rising.false-raw) c.if-servers-cfg.false
