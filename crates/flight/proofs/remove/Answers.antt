use Rattle.flight.proofs.Cases.{remove_there}
use Rattle.flight.proofs.remove.Goals as goal

pub returns : goal.returns
returns c =
    let a = c.args in
    rw c.copy_within.ensures.after (remove_there a.count a.position a.messages.now c.if-count-position.false c.if-messages-count.false)
