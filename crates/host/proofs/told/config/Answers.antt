use Rattle.config.specs.Config.{questions}
use Rattle.host.specs.Config.{config_questions}
use Rattle.host.proofs.told.Laws.{given, refused, unread}
use Rattle.host.proofs.told.config.Goals as goal

pub returns-in_err-told : goal.returns-in_err-told
unfolding config_questions
returns-in_err-told c = unread _ questions _ _ _ c.from_residual.ensures.1 c.in_err-told.ensures

pub returns-in_err-ask : goal.returns-in_err-ask
unfolding config_questions
returns-in_err-ask c = refused _ questions _ c.in_ok-told.ensures _ _ c.from_residual-in_err-ask.ensures.1 c.in_err-ask.ensures

pub returns : goal.returns
unfolding config_questions
returns c = given _ questions _ c.in_ok-told.ensures _ c.in_ok-ask.ensures c.in_ok-told.ensures.gives
