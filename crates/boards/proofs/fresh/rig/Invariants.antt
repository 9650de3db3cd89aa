use Rattle.events.specs.View.{lent}
use Rattle.boards.proofs.Making.{FreshBelow}
use Rattle.boards.proofs.fresh.rig.Given as goal

abbrev pub invariant-loop-i : goal.invariant-loop-i
invariant-loop-i l =
    FreshBelow l.cfg l.room l.start (lent l.initial.messages l.initial.stores l.initial.boards l.initial.elements) (lent l.messages l.stores l.boards l.elements) l.rig l.i
