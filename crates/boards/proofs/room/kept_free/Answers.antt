-- What the boards passed lack is added up. Assumes nothing.
use Rattle.std.proofs.Common.{◌≡◌, refl, ap, ◌∙◌, arith, take}
use Rattle.laws.specs.Below.{sum_below}
use Rattle.laws.proofs.Below.{sum_next}
use Rattle.config.specs.Room.{kept_free, lacking}
use Rattle.boards.proofs.Kept.{kept_part}
use Rattle.boards.proofs.room.kept_free.Goals as goal

pub loop-i-init : goal.loop-i-init
unfolding sum_below
loop-i-init c = refl

pub overflow_add-free : goal.overflow_add-free
overflow_add-free c =
    let a = c.args in
    let l = c.loop-i in
    omega (arith, l.invariant, c.lacks-free.ensures, kept_part a.room a.b (take a.count a.owners.now) l.i c.loop-i-test.true, c.requires.1)

pub loop-i-preserved : goal.loop-i-preserved
loop-i-preserved c =
    let a = c.args in
    omega (arith, c.loop-i.invariant, c.lacks-free.ensures, sum_next c.loop-i.i (lacking a.room a.b (take a.count a.owners.now)))

pub returns : goal.returns
unfolding kept_free
returns c =
    let a = c.args in
    let l = c.loop-i in
    let end : l.i ≡ a.room.boards = omega arith in
    l.invariant ∙ ap (λ n. sum_below n (lacking a.room a.b (take a.count a.owners.now))) end
