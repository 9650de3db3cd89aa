-- `code::combine::last` meets its contract: the bytes before j are those of the last step, those from j on are as they were.
use mathlib.Core.Path.{◌≡◌}
use Rattle.code.proofs.Filled.{filled}
use Rattle.code.specs.inner.Combine.{last_byte}
use Rattle.code.proofs.combine.last.Given as goal

abbrev pub invariant-loop-j : goal.invariant-loop-j
invariant-loop-j l = l.part ≡ filled (last_byte l.row l.v l.w l.y l.z l.table) l.j l.initial.part
