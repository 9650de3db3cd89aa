use mathlib.Core.Path.{sym, ◌∙◌}
use borrow.Author.Tests.{not-false, not-true}
use Rattle.events.proofs.Lengths.{event_last, event_read_short, event_short}
use Rattle.events.proofs.questions.sized_event.Goals as goal

pub returns-then-not-sized : goal.returns-then-not-sized
returns-then-not-sized c =
    let a = c.args in
    event_short a.cfg a.m a.count a.board a.read a.sizes (sym c.sized.ensures ∙ not-true _ c.if-not-sized.true-raw)

pub returns-then-read-board : goal.returns-then-read-board
returns-then-read-board c =
    let a = c.args in
    event_read_short a.cfg a.m a.count a.board a.read a.sizes (sym c.sized.ensures ∙ not-false _ c.if-not-sized.false-raw)
    c.if-read-board.true

pub returns : goal.returns
returns c =
    let a = c.args in
    event_last a.cfg a.m a.count a.board a.read a.sizes (sym c.sized.ensures ∙ not-false _ c.if-not-sized.false-raw)
    c.if-read-board.false
