use mathlib.Core.Path.{sym}
use Rattle.config.proofs.Questions.{within_true}
use Rattle.events.proofs.named.Laws.{outside_high, outside_low, place_none, place_own}
use Rattle.events.proofs.named.place.Goals as goal

pub returns-then-number-lt1 : goal.returns-then-number-lt1
returns-then-number-lt1 c =
    let a = c.args in
    sym (place_none a.n a.number (outside_low a.n a.number c.if-number-lt1.true))

pub returns-then-n-number : goal.returns-then-n-number
returns-then-n-number c =
    let a = c.args in
    sym (place_none a.n a.number (outside_high a.n a.number c.if-number-lt1.false c.if-n-number.true))

pub returns : goal.returns
returns c =
    let a = c.args in
    sym (place_own a.n a.number (within_true 1 a.n a.number c.if-number-lt1.false c.if-n-number.false))
