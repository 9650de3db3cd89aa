use mathlib.Core.Path.{refl}
use Rattle.boards.specs.View.{lent}
use Rattle.boards.specs.Calls.{make_questions}
use Rattle.boards.proofs.Making.{make_done, make_refused, making}
use Rattle.boards.proofs.make.Goals as goal

pub returns-in-Err : goal.returns-in-Err
unfolding make_questions
returns-in-Err c =
    let a = c.args in
    make_refused a.cfg a.room a.start.now (lent a.messages.now a.owners.now a.stores.now a.boards.now a.elements.now) _ c.in-Err.ensures _ refl _ c.least.ensures

pub rig-requires : goal.rig-requires
unfolding make_questions
rig-requires c =
    let a = c.args in
    making a.cfg a.room a.start.now (lent a.messages.now a.owners.now a.stores.now a.boards.now a.elements.now) 0 c.in_default.ensures refl

pub returns : goal.returns
unfolding make_questions
returns c =
    let a = c.args in
    make_done a.cfg a.room a.start.now (lent a.messages.now a.owners.now a.stores.now a.boards.now a.elements.now) 0 c.in_default.ensures refl _ _ _ _ _ c.rig.ensures
