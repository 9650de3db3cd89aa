use Rattle.flight.proofs.Cases.{double_missing, double_there}
use Rattle.flight.proofs.double.Goals as goal

pub returns-then-count-position : goal.returns-then-count-position
returns-then-count-position c =
    let a = c.args in
    double_missing a.count a.position a.messages.now c.if-count-position.true

pub returns : goal.returns
returns c =
    let a = c.args in
    double_there a.count a.position a.messages.now c.take-copy.result c.append.result c.append.new.messages
    c.if-count-position.false c.take-copy.ensures c.append.ensures
