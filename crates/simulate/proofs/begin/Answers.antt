-- `simulate::begin` is safe and ends. Assumes nothing.
use Prim.Native.Nat.{◌≤◌}
use mathlib.Core.Path.{refl, sym}
use native.Mathlib.Omega.{arith}
use lib.Seq.{length-take-le}
use Rattle.config.proofs.Valid.{rig_valid}
use Rattle.simulate.proofs.begin.Goals as goal

pub slice_bounds-ranks-end : goal.slice_bounds-ranks-end
slice_bounds-ranks-end c =
    let a = c.args in
    (rig_valid a.cfg a.m c.in_default.ensures refl).c_high

pub slice_bounds-read_full-end : goal.slice_bounds-read_full-end
slice_bounds-read_full-end c =
    let a = c.args in
    let few : a.cfg.c ≤ 16 = (rig_valid a.cfg a.m c.in_default.ensures refl).c_high in
    sym (length-take-le a.cfg.c _ (omega (arith, few)))
