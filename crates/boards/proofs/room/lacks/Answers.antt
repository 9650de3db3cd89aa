use native.Mathlib.Omega.{arith}
use lib.ListN.{take}
use Rattle.boards.proofs.Kept.{lacks_other, lacks_own}
use Rattle.boards.proofs.room.lacks.Goals as goal

pub returns-then-board-b : goal.returns-then-board-b
returns-then-board-b c = let a = c.args in lacks_own a.room a.b (take a.count a.owners.now) a.i c.if-board-b.true

pub returns-then-share-has : goal.returns-then-share-has
returns-then-share-has c =
    let a = c.args in
    let os = take a.count a.owners.now in
    omega (arith, lacks_other a.room a.b os a.i _ c.if-board-b.false c.count_of-has.ensures, c.if-share-has.true)

pub returns : goal.returns
returns c =
    let a = c.args in
    lacks_other a.room a.b (take a.count a.owners.now) a.i _ c.if-board-b.false c.count_of-has.ensures
