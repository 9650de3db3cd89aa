-- `lines::event::called_on` meets its contract. Assumes nothing.
use Rattle.std.proofs.Common.{◌≡◌, ◌+◌, arith, rules}
use Rattle.lines.specs.Event.{call_on_at}
use Rattle.lines.proofs.event.called_on.Goals as goal

pub overflow_cast-length : goal.overflow_cast-length
overflow_cast-length c =
    let a = c.args in
    let byte = c.shared_slice_known-1.given in
    omega (arith, c.little-length.ensures, (byte (a.at + 5 + a.v)).fits, (byte (a.at + 5 + a.v + 1)).fits)

pub returns : goal.returns
unfolding call_on_at
returns c =
    let a = c.args in
    let next : a.at + 5 + a.v + 1 ≡ a.at + 6 + a.v = omega arith in
    rw (c.little-position.ensures, c.little-length.ensures, next)
