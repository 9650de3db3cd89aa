-- `maker::make` meets its contract. Assumes nothing.
use Rattle.std.proofs.Common.{Result, Ok, Err}
use mathlib.Core.Path.{refl}
use Rattle.draws.proofs.Seeds.{no_seed}
use Rattle.maker.proofs.Answers.{lends, make_done, make-no}
use Rattle.maker.proofs.make.Goals as goal

pub returns-in_default : goal.returns-in_default
returns-in_default c = make-no (no_seed c.new.ensures c.in_default.is)

pub returns : goal.returns
returns c =
    let post = c.begin-begun.ensures in
    make_done c.new.ensures c.in-Ok.is post (lends _ refl refl refl refl) c.records-made.ensures
