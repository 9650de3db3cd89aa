-- `field::table::logarithm` meets its contract: the rule of the logarithms is one test over the table, which antt computes.
-- Assumes nothing.
use Prim.Native.Nat.{◌<◌}
use native.Mathlib.Omega.{arith}
use Rattle.field.specs.Field.{double}
use Rattle.field.proofs.Generator.{doublings}
use Rattle.field.proofs.Tables.{logarithm_at}
use Rattle.field.proofs.table.logarithm.Goals as goal

pub returns : goal.returns
unfolding double doublings
returns c = let test : Unit {0} = tt in let a = c.args.a in let h : a < 256 = omega arith in search logarithm_at
