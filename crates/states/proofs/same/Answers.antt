use Rattle.states.proofs.Bytes.{same_pointwise}
use Rattle.states.proofs.same.Goals as goal

pub returns : goal.returns
returns c = cc (same_pointwise c.args.a.now c.args.b.now)
