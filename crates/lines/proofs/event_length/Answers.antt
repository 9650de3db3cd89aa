-- `lines::event_length` meets its contract. Assumes nothing.
use Rattle.std.proofs.Common.{arith, rules}
use Rattle.lines.proofs.Events.{board_few}
use Rattle.lines.proofs.event_length.Goals as goal

pub size-requires : goal.size-requires
size-requires c =
    let s = c.args in
    omega (arith, c.board_length.ensures, board_few s.cfg s.m)
