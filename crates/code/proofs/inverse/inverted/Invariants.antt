-- `code::inverse::inverted` meets its contract.
use mathlib.Core.Path.{◌≡◌}
use lib.ListN.{get_or, replicate}
use Rattle.code.proofs.Filled.{filled}
use Rattle.field.specs.Field.{inverse_of}
use Rattle.code.proofs.inverse.inverted.Given as goal

abbrev pub invariant-loop-r : goal.invariant-loop-r
invariant-loop-r l = l.d ≡ filled (λ i. inverse_of (get_or l.v i 0)) l.r (replicate 16 0)
