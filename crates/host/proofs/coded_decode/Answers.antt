use Rattle.host.proofs.Codes.{decoded, not_decoded}
use Rattle.host.proofs.coded_decode.Goals as goal

pub returns-in-Err : goal.returns-in-Err
returns-in-Err c = not_decoded _ c.number.ensures c.in-Err.ensures _ _ _

pub returns : goal.returns
returns c = decoded _ c.in-Ok.ensures _ _ _ _ _ _ c.verdict_number.ensures c.decode.ensures
