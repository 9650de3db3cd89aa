-- `lines::event::called` meets its contract. Assumes nothing.
use Rattle.std.proofs.Common.{◌≡◌, ◌+◌, arith, rules}
use Rattle.lines.specs.Event.{call_at}
use Rattle.lines.proofs.event.called.Goals as goal

pub overflow_cast-result : goal.overflow_cast-result
overflow_cast-result c =
    let a = c.args in
    let byte = c.shared_slice_known-1.given in
    omega (arith, c.little-2.ensures, (byte (a.at + 4 + a.v)).fits, (byte (a.at + 4 + a.v + 1)).fits)

pub returns : goal.returns
unfolding call_at
returns c =
    let a = c.args in
    let next : a.at + 4 + a.v + 1 ≡ a.at + 5 + a.v = omega arith in
    rw (c.little.ensures, c.little-2.ensures, next)
