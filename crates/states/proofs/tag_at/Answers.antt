use Rattle.states.proofs.tag_at.Goals as goal

pub returns : goal.returns
returns c = rw c.number_at-number.ensures
