use Rattle.record.proofs.Parties.{some_client}
use Rattle.parties.proofs.Making.{client_fresh, client_refused}
use Rattle.parties.proofs.fresh.client.Goals as goal

pub returns-in-Err : goal.returns-in-Err
returns-in-Err c =
    let a = c.args in
    client_refused a.cfg a.c _ _ c.new.ensures c.in-Err.is _ c.least_client.ensures

pub returns-in-Ok : goal.returns-in-Ok
returns-in-Ok c =
    let a = c.args in
    client_fresh a.cfg a.c _ c.new.ensures _ c.in-Ok.is (some_client a.cfg a.c _ _ c.new.ensures c.in-Ok.is).1 _ c.fresh.ensures
