use Rattle.host.proofs.Codes.{its_lengths, no_lengths}
use Rattle.host.proofs.coded_lengths.Goals as goal

pub returns-in-Err : goal.returns-in-Err
returns-in-Err c = no_lengths _ c.number.ensures c.in-Err.ensures _ _ _ _

pub returns : goal.returns
returns c = its_lengths _ c.in-Ok.ensures _ c.lengths-lengths.ensures _ _ _ _
