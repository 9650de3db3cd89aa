use mathlib.Core.Path.{◌∙◌}
use native.Mathlib.Omega.{arith}
use borrow.Author.Tests.{eq-eqb, ne_eqb}
use Rattle.config.proofs.Exits.{exits}
use Rattle.client.proofs.Asked.{others, passed, short, stopped}
use Rattle.client.proofs.questions.begin_read.Goals as goal

pub returns-in_err-ask : goal.returns-in_err-ask
returns-in_err-ask c = exits c.from_residual.result _ c.from_residual.ensures.1 ∙ stopped _ _ _ c.in_err-ask.ensures _ _

pub overflow_mul-cfg : goal.overflow_mul-cfg
overflow_mul-cfg c = omega (arith, (passed _ _ c.in_ok-ask.ensures).0)

pub returns-then-sends-cfg : goal.returns-then-sends-cfg
returns-then-sends-cfg c = short _ _ c.in_ok-ask.ensures (ne_eqb _ _ c.if-sends-cfg.true) _

pub returns : goal.returns
returns c = others _ _ c.in_ok-ask.ensures (eq-eqb _ _ c.if-sends-cfg.false) _ (c.idle.ensures _)
