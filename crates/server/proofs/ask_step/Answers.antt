use Rattle.std.proofs.Common.{sym, ◌∙◌}
use borrow.Author.Tests.{not-true, not-false}
use Rattle.config.proofs.Exits.{exits}
use Rattle.server.proofs.Handed.{kind_asked}
use Rattle.server.proofs.ask_step.Goals as goal

pub returns-in_err-h : goal.returns-in_err-h
returns-in_err-h c = exits c.from_residual.result _ c.from_residual.ensures.1 ∙ c.in_err-h.ensures

pub returns-then-not-is_for_server : goal.returns-then-not-is_for_server
returns-then-not-is_for_server c = kind_asked _ _ _ _ _ _ c.in_ok-h.ensures _ (sym c.is_for_server.ensures ∙ not-true _ c.if-not-is_for_server.true-raw)

pub returns : goal.returns
returns c = kind_asked _ _ _ _ _ _ c.in_ok-h.ensures _ (sym c.is_for_server.ensures ∙ not-false _ c.if-not-is_for_server.false-raw)
