use mathlib.Core.Path.{refl}
use Rattle.client.specs.Servers.{member}
use Rattle.client.proofs.servers.has.Goals as goal

pub returns : goal.returns
unfolding member
returns c = refl
