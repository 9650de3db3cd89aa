use Prim.Native.Nat.{◌+◌}
use mathlib.Core.Path.{sym}
use native.Mathlib.Omega.{arith}
use borrow.Author.Tests.{ne_eqb}
use Rattle.parties.proofs.questions.Laws.{of_place}
use Rattle.parties.proofs.questions.is_of.Goals as goal

pub returns-then-number-lt1 : goal.returns-then-number-lt1
returns-then-number-lt1 c = let a = c.args in sym (ne_eqb a.number (a.place + 1) (λ z. omega (arith, z, c.if-number-lt1.true)))

pub returns : goal.returns
returns c = let a = c.args in of_place a.number a.place (omega (arith, c.if-number-lt1.false))
