use Rattle.std.proofs.Common.{refl}
use Rattle.server.specs.Calls.{fresh_state}
use Rattle.server.proofs.first.Goals as goal

pub returns : goal.returns
unfolding fresh_state
returns c = refl
