use Rattle.events.proofs.message.Laws.{lose_missing, lost}
use Rattle.events.proofs.message.lose.Goals as goal

pub returns-then-count-position : goal.returns-then-count-position
returns-then-count-position c =
    let a = c.args in
    lose_missing a.part a.call a.messages.now c.refused.result c.refused.ensures c.if-count-position.true

pub returns : goal.returns
returns c =
    let a = c.args in
    lost a.part a.call a.messages.now c.counted.result c.remove-left.result _ c.counted.ensures
    c.if-count-position.false c.remove-left.ensures
