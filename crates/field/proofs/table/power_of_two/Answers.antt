-- `field::table::power_of_two` meets its contract: the table's doubling rule is one test over the table, which antt computes.
-- Assumes nothing.
use Rattle.field.specs.Field.{double}
use Rattle.field.proofs.Tables.{power_at}
use Rattle.field.proofs.table.power_of_two.Goals as goal

pub returns : goal.returns
unfolding double
returns c = let test : Unit {0} = tt in let h = c.requires in rw power_at
