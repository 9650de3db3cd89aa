-- `simulate::share` is safe and ends. Assumes nothing.
use Prim.Native.Nat.{◌*◌, ◌≤◌}
use mathlib.Core.Path.{sym, ◌∙◌}
use native.Mathlib.Omega.{arith}
use lib.Seq.{length-take-le}
use Rattle.config.proofs.Rooms.{boards_high, room_is}
use Rattle.simulate.proofs.share.Goals as goal

pub overflow_mul-long : goal.overflow_mul-long
overflow_mul-long c = let a = c.args in omega (arith, boards_high a.room (room_is a.cfg a.room (sym c.in_default.ensures)))

pub slice_bounds-bytes-end : goal.slice_bounds-bytes-end
slice_bounds-bytes-end c = let a = c.args in omega (arith, boards_high a.room (room_is a.cfg a.room (sym c.in_default.ensures)))

pub slice_bounds-read_full-end : goal.slice_bounds-read_full-end
slice_bounds-read_full-end c =
    let a = c.args in
    let few : a.room.boards ≤ 8 = boards_high a.room (room_is a.cfg a.room (sym c.in_default.ensures)) in
    sym (length-take-le (2 * a.room.boards) _ (omega (arith, few)))
