-- `maker::step::step` meets its contract. Assumes nothing.
use mathlib.Core.Path.{refl}
use Rattle.maker.proofs.Stepped.{stepped}
use Rattle.maker.proofs.step.step.Goals as goal

pub returns : goal.returns
returns c = stepped c.take-drawn.ensures c.put.ensures refl c.event-turn.ensures refl
