use mathlib.Core.Path.{refl}
use Rattle.client.proofs.Asked.{call_passed}
use Rattle.parties.proofs.Beginning.{begin_act}
use Rattle.parties.proofs.begin.read.Goals as goal

pub returns : goal.returns
returns c store kept es read =
    let a = c.args in
    let y = c.begin_read-y in
    begin_act a.cfg _ a.pair _ (λ z. (call_passed a.cfg a.pair.client _ _ z).3) _ store kept kept es _ _ read y.result (y.ensures kept es) refl _ c.moved.ensures
