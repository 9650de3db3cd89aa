-- `code::inverse::invert` meets its contract: the coefficients from i on are divided; then all are, and are scaled.
use lib.ListN.{take}
use Rattle.code.specs.Element.{byte_field}
use Rattle.code.specs.Polynomial.{roots}
use Rattle.code.proofs.Division.{Divided}
use Rattle.code.proofs.inverse.invert.Given as goal

abbrev pub invariant-loop-i : goal.invariant-loop-i
invariant-loop-i l = Divided l.k (roots byte_field (take l.k l.servers)) l.s l.i l.inverse l.q l.v
