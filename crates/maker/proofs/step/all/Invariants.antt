-- `maker::step::all` meets its contract: each turn makes one record. Assumes nothing.
use Rattle.std.proofs.Common.{◌*◌, take}
use Rattle.events.specs.View.{lent}
use Rattle.maker.specs.Steps.{Steps}
use Rattle.maker.proofs.step.all.Given as goal

-- so many records are made, and fill the bytes up to a place
abbrev pub invariant-loop-made : goal.invariant-loop-made
invariant-loop-made l =
    Steps l.initial.load (lent l.initial.messages l.initial.stores l.initial.boards l.initial.elements) l.made (take (l.made * 7) l.out) l.load (lent l.messages l.stores l.boards l.elements)
