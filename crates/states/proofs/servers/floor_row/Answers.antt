use Rattle.states.specs.Servers.{floor_row}
use Rattle.states.proofs.servers.floor_row.Goals as goal

pub returns-in-None : goal.returns-in-None
unfolding floor_row
returns-in-None c = rw c.in-None.is

pub returns-in-Some : goal.returns-in-Some
unfolding floor_row
returns-in-Some c = rw c.in-Some.is c.tag_row.ensures
