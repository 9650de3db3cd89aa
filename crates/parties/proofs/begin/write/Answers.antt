use Rattle.parties.proofs.Beginning.{begin_act, fits_idle, kept_long}
use Rattle.parties.proofs.begin.write.Goals as goal

pub returns : goal.returns
returns c store es read =
    let a = c.args in
    let y = c.begin_write-y in
    begin_act a.cfg _ a.pair _ (λ z. (fits_idle a.cfg _ a.pair.client a.length z).1) _ store _ _ es _ _ read y.result (y.ensures es)
    (kept_long a.cfg a.pair.client a.length _ _ _ es _ _ y.result (y.ensures es)) _ c.moved.ensures
