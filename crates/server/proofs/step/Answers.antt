use Rattle.std.proofs.Common.{arith}
use Rattle.server.proofs.Handed.{step_request}
use Rattle.server.proofs.Stepping.{step_refused, step_served}
use Rattle.server.proofs.step.Goals as goal

pub request-requires : goal.request-requires
request-requires c = step_request _ _ _ _ _ _ c.in-Ok.ensures (λ i. omega (arith, c.shared_slice_known-1.given i))

pub returns-in-Err : goal.returns-in-Err
returns-in-Err c = step_refused _ _ _ _ _ c.in-Err.ensures c.refused.ensures

pub returns-in-Ok : goal.returns-in-Ok
returns-in-Ok c = step_served _ _ _ _ _ _ c.in-Ok.ensures c.request.ensures
