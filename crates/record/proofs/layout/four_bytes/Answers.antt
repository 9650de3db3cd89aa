use mathlib.Core.Path.{refl}
use Rattle.record.specs.Record.{four_bytes}
use Rattle.record.proofs.layout.four_bytes.Goals as goal

pub returns : goal.returns
unfolding four_bytes
returns c = refl
