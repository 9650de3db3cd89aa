use mathlib.Core.Path.{refl}
use Rattle.record.specs.Record.{two_bytes}
use Rattle.states.proofs.two_bytes.Goals as goal

pub returns : goal.returns
unfolding two_bytes
returns c = refl
