use Rattle.host.proofs.Codes.{encoded_all, not_encoded_all}
use Rattle.host.proofs.coded_encode_all.Goals as goal

pub returns-in-Err : goal.returns-in-Err
returns-in-Err c = not_encoded_all _ c.number.ensures c.in-Err.ensures _ _ _ _

pub returns : goal.returns
returns c = encoded_all _ c.in-Ok.ensures _ _ _ _ _ _ _ c.verdict_number.ensures c.encode_all.ensures
