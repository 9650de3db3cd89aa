use Rattle.record.proofs.Parties.{no_client, some_client}
use Rattle.host.proofs.Fresh.{client_eight, client_fresh, client_not_made, client_six}
use Rattle.host.proofs.Made.{valid_told}
use Rattle.host.proofs.coded_client_fresh.Goals as goal

pub returns-in-Err : goal.returns-in-Err
returns-in-Err c = client_not_made _ _ _ c.in-Err.ensures c.number.ensures

pub returns-then-state-ne-LENGTH : goal.returns-then-state-ne-LENGTH
returns-then-state-ne-LENGTH c = rw c.number-then-state-ne-LENGTH.ensures (client_six _ _ _ c.in-Ok.ensures c.if-state-ne-LENGTH.true)

pub returns-in_default : goal.returns-in_default
returns-in_default c = rw c.number-in_default.ensures
    (client_eight _ _ _ c.in-Ok.ensures c.if-state-ne-LENGTH.false (no_client _ _ (valid_told _ c.in-Ok.ensures) _ _ c.new.ensures c.in_default.is))

pub returns : goal.returns
returns c = let some = some_client _ _ _ _ c.new.ensures c.in-Ok-new.is in
    client_fresh _ _ _ c.in-Ok.ensures c.if-state-ne-LENGTH.false _ some.0 some.1 _ c.fresh-made.ensures _ c.client.ensures
