use mathlib.Core.Path.{refl, ◌∙◌}
use mathlib.Core.Bool.{true}
use Rattle.config.proofs.Exits.{exits}
use Rattle.client.proofs.Asked.{others, stopped}
use Rattle.client.proofs.ask_begin.Goals as goal

pub returns-in_err-ask : goal.returns-in_err-ask
returns-in_err-ask c = exits c.from_residual.result _ c.from_residual.ensures.1 ∙ stopped _ _ _ c.in_err-ask.ensures true _

pub returns : goal.returns
returns c = others _ _ c.in_ok-ask.ensures refl _ (c.idle.ensures _)
