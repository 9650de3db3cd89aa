use Rattle.parties.proofs.Crashing.{client_crashed}
use Rattle.parties.proofs.crash.client.Goals as goal

pub returns : goal.returns
returns c l sends read =
    let a = c.args in
    client_crashed a.cfg a.pair l sends read c.crash-y.result c.crash-y.ensures _ c.moved.ensures
