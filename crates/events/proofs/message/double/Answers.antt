use Rattle.events.proofs.message.Laws.{double_full, double_missing, twice}
use Rattle.events.proofs.message.double.Goals as goal

pub returns-then-count-position : goal.returns-then-count-position
returns-then-count-position c =
    let a = c.args in
    double_missing a.part a.call a.messages.now c.refused.result a.m c.refused.ensures c.if-count-position.true

pub returns-then-m-count : goal.returns-then-m-count
returns-then-m-count c =
    let a = c.args in
    double_full a.part a.call a.messages.now c.refused-then-m-count.result a.m c.refused-then-m-count.ensures c.if-count-position.false
    c.if-m-count.true

pub returns : goal.returns
returns c =
    let a = c.args in
    twice a.part a.call a.messages.now c.counted.result a.m c.double-more.result _ c.counted.ensures
    c.if-count-position.false c.if-m-count.false
    c.double-more.ensures
