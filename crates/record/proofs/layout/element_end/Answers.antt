use Rattle.record.proofs.layout.element_end.Goals as goal

pub returns-then-present : goal.returns-then-present
returns-then-present c = rw c.if-present.true

pub returns : goal.returns
returns c = rw c.if-present.false
