use Rattle.std.proofs.Common.{sym, ◌∙◌}
use borrow.Author.Tests.{not-true, not-false}
use Rattle.server.proofs.within.floor_full.Goals as goal

pub returns-then-not-allowed : goal.returns-then-not-allowed
returns-then-not-allowed c = rw (c.in-Some.is, sym c.allowed.ensures ∙ not-true _ c.if-not-allowed.true-raw)

pub returns : goal.returns
returns c = rw (c.in-Some.is, sym c.allowed.ensures ∙ not-false _ c.if-not-allowed.false-raw)
