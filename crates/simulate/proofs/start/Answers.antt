-- `simulate::start` is safe and ends. Assumes nothing.
use Prim.Native.Nat.{◌*◌, ◌≤◌}
use mathlib.Core.Path.{◌≡◌, sym, ◌∙◌}
use native.Mathlib.Omega.{arith}
use native.Mathlib.Nat.{mul-le-mul}
use lib.Seq.{length-take-le}
use Rattle.config.specs.declared.Config.{Config}
use Rattle.config.specs.declared.Room.{Room}
use Rattle.config.specs.Questions.{first_no}
use Rattle.config.specs.Room.{room_questions}
use Rattle.config.proofs.Rooms.{boards_high, room_is, room_valid}
use Rattle.config.proofs.Sizes.{board_small}
use Rattle.simulate.proofs.start.Goals as goal

-- the starting boards fit
starts_fit : (cfg : Config) (room : Room) → first_no (room_questions cfg room) ≡ 0 → room.boards * (cfg.k * cfg.e) ≤ 8192
starts_fit cfg room h = mul-le-mul (boards_high room (room_is cfg room h)) (board_small cfg (room_valid cfg room h))

pub overflow_mul-v : goal.overflow_mul-v
overflow_mul-v c = let a = c.args in record { fits = omega (arith, board_small a.cfg (room_valid a.cfg a.room (sym c.in_default.ensures))) }

pub overflow_mul-long : goal.overflow_mul-long
overflow_mul-long c = let a = c.args in record { fits = omega (arith, starts_fit a.cfg a.room (sym c.in_default.ensures)) }

pub slice_bounds-boards-end : goal.slice_bounds-boards-end
slice_bounds-boards-end c = let a = c.args in starts_fit a.cfg a.room (sym c.in_default.ensures)

pub slice_bounds-play-end : goal.slice_bounds-play-end
slice_bounds-play-end c =
    let a = c.args in
    sym (length-take-le (a.room.boards * (a.cfg.k * a.cfg.e)) _ (starts_fit a.cfg a.room (sym c.in_default.ensures)))
