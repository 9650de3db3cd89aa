use Rattle.std.proofs.Common.{refl}
use Rattle.server.specs.inner.Keep.{appended}
use Rattle.server.proofs.Owned.{eight_places}
use Rattle.server.proofs.serve.append.Goals as goal

pub returns : goal.returns
unfolding appended
returns c = record { state = refl; store = c.put.ensures; eight = eight_places c.args.s _ c.well_formed.1.0 }
