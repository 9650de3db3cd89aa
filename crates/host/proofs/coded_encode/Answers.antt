use Rattle.host.proofs.Codes.{encoded, not_encoded}
use Rattle.host.proofs.coded_encode.Goals as goal

pub returns-in-Err : goal.returns-in-Err
returns-in-Err c = not_encoded _ c.number.ensures c.in-Err.ensures _ _ _

pub returns : goal.returns
returns c = encoded _ c.in-Ok.ensures _ _ _ _ _ _ c.verdict_number.ensures c.encode.ensures
