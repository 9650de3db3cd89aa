use mathlib.Core.Path.{sym, ◌∙◌}
use borrow.Author.Tests.{not-true, not-false}
use Rattle.config.proofs.Exits.{exits}
use Rattle.config.proofs.Valid.{valid}
use Rattle.client.proofs.Asked.{state_asked, state_stopped}
use Rattle.client.proofs.ask.Goals as goal

pub returns-in_err-ask : goal.returns-in_err-ask
returns-in_err-ask c = exits c.from_residual.result _ c.from_residual.ensures.1 ∙ state_stopped _ _ _ c.in_err-ask.ensures

pub within-requires : goal.within-requires
within-requires c = valid _ (sym c.in_ok-ask.ensures)

pub returns-then-not-within : goal.returns-then-not-within
returns-then-not-within c = sym (state_asked _ _ c.in_ok-ask.ensures ∙ rw (sym c.within.ensures ∙ not-true _ c.if-not-within.true-raw))

pub returns : goal.returns
returns c = sym (state_asked _ _ c.in_ok-ask.ensures ∙ rw (sym c.within.ensures ∙ not-false _ c.if-not-within.false-raw))
