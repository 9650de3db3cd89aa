use Rattle.flight.proofs.Moves.{removed_there}
use Rattle.flight.proofs.owners.remove.Goals as goal

pub returns : goal.returns
returns c =
    let a = c.args in
    rw c.copy_within.ensures.after (removed_there a.count a.place a.owners.now c.if-count-place.false c.if-owners-count.false)
