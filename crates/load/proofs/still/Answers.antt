-- `load::still` meets its contract. Assumes nothing.
use Rattle.load.proofs.still.Goals as goal

pub returns-then-wrote : goal.returns-then-wrote
returns-then-wrote c = rw c.if-wrote.true
