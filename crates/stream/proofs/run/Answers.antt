-- `stream::run` is safe and ends. Assumes nothing.
use mathlib.Core.Path.{refl}
use Rattle.config.proofs.Valid.{rig_most, rig_valid}
use Rattle.stream.proofs.run.Goals as goal

pub measured-long-requires : goal.measured-long-requires
measured-long-requires c =
    let a = c.args in
    let passed = c.in_default.ensures in
    (rig_valid a.cfg a.m passed refl, (rig_most a.cfg a.m passed refl).1)
