-- `code::elements::each` meets its contract: the first t elements are in their places.
use Prim.Native.Nat.{suc}
use mathlib.Core.Path.{◌≡◌}
use lib.ListN.{length}
use Rattle.code.specs.Element.{element}
use Rattle.code.specs.Laid.{laid}
use Rattle.code.proofs.elements.each.Given as goal

abbrev pub invariant-loop-t : goal.invariant-loop-t
invariant-loop-t l =
    (length l.buffer ≡ length l.initial.buffer)
    × (l.buffer ≡ laid (λ r. element l.cfg l.board (suc r)) l.cfg.e l.offset l.distance l.t l.initial.buffer)
