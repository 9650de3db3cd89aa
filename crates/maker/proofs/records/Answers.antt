-- `maker::records` meets its contract. Assumes nothing.
use borrow.Author.Tests.{not-false, not-true}
use Rattle.events.specs.View.{lent}
use Rattle.maker.proofs.Answers.{records-long, records-no, records-yes}
use Rattle.maker.proofs.records.Goals as goal

pub returns-then-not-fits : goal.returns-then-not-fits
returns-then-not-fits c =
    let a = c.args in
    records-no a.load a.count a.out.now (lent a.messages.now a.stores.now a.boards.now a.elements.now) c.fits.ensures (not-true _ c.if-not-fits.true-raw)

pub all-load-requires : goal.all-load-requires
all-load-requires c =
    let a = c.args in
    records-long a.load a.count a.out.now (lent a.messages.now a.stores.now a.boards.now a.elements.now) c.fits.ensures (not-false _ c.if-not-fits.false-raw)

pub returns : goal.returns
returns c =
    let a = c.args in
    records-yes a.load a.count a.out.now (lent a.messages.now a.stores.now a.boards.now a.elements.now) c.fits.ensures (not-false _ c.if-not-fits.false-raw) c.all-load.ensures
