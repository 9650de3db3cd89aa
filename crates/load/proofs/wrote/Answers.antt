-- `load::wrote` is safe and ends. Assumes nothing.
use Prim.Native.Nat.{◌*◌}
use mathlib.Core.Path.{sym}
use lib.Seq.{length-take-le}
use Rattle.load.proofs.wrote.Goals as goal

pub slice_bounds-write_all-end : goal.slice_bounds-write_all-end
slice_bounds-write_all-end c =
    let s = c in
    sym (length-take-le (s.args.n * 7) s.args.out.now s.requires)
