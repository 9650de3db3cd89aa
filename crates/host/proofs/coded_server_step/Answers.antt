use mathlib.Core.Path.{sym}
use Rattle.host.proofs.Kept.{server_long, step_not_taken, step_not_told, step_taken}
use Rattle.host.proofs.coded_server_step.Goals as goal

pub returns-in-Err : goal.returns-in-Err
returns-in-Err c = step_not_told _ _ _ _ _ c.in-Err.ensures c.number.ensures

pub returns-in-Err-verdict : goal.returns-in-Err-verdict
returns-in-Err-verdict c = step_not_taken _ _ _ _ _ c.in-Ok.ensures c.step-after.ensures c.in-Err-verdict.is c.number-in-Err-verdict.ensures

pub server-requires-2 : goal.server-requires-2
server-requires-2 c = server_long _ _ (sym c.in-Ok.ensures.number)

pub returns : goal.returns
returns c = step_taken _ _ _ _ _ c.in-Ok.ensures c.step-after.ensures c.in_default.is _ c.server-2.ensures
