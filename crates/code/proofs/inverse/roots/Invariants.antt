-- `code::inverse::roots` meets its contract: p is the product for the servers so far.
use Prim.Native.Nat.{◌+◌}
use mathlib.Core.Path.{◌≡◌}
use Rattle.code.specs.inner.Lanes.{first_roots}
use Rattle.code.proofs.inverse.roots.Given as goal

abbrev pub invariant-loop-s : goal.invariant-loop-s
invariant-loop-s l = l.p ≡ first_roots (l.s-index + 1) l.servers
