use mathlib.Core.Path.{refl, sym, ◌∙◌}
use borrow.Author.Tests.{not-true, not-false}
use Rattle.config.proofs.Exits.{exits}
use Rattle.config.proofs.Refusals.{refusal_some}
use Rattle.events.proofs.begin.Laws.{asked_full, asked_idle, asked_missing, asked_room}
use Rattle.events.proofs.begin.asked.Goals as goal

pub returns-then-not-client_exists : goal.returns-then-not-client_exists
returns-then-not-client_exists c =
    let a = c.args in
    asked_missing a.cfg a.m a.part a.party (sym c.client_exists.ensures ∙ not-true _ c.if-not-client_exists.true-raw)

pub returns-then-part-cfg : goal.returns-then-part-cfg
returns-then-part-cfg c =
    let a = c.args in
    asked_room a.cfg a.m a.part a.party (sym c.client_exists.ensures ∙ not-false _ c.if-not-client_exists.false-raw) c.if-part-cfg.true

pub returns-in_err-ask_begin : goal.returns-in_err-ask_begin
returns-in_err-ask_begin c =
    let a = c.args in
    exits c.from_residual.result _ c.from_residual.ensures.1
    ∙ asked_idle a.cfg a.m a.part a.party (sym c.client_exists.ensures ∙ not-false _ c.if-not-client_exists.false-raw) c.if-part-cfg.false
    _ c.in_err-ask_begin.ensures (refusal_some _ c.in_err-ask_begin.ensures).0

pub returns : goal.returns
returns c =
    let a = c.args in
    asked_full a.cfg a.m a.part a.party (sym c.client_exists.ensures ∙ not-false _ c.if-not-client_exists.false-raw) c.if-part-cfg.false
    0 c.in_ok-ask_begin.ensures refl
