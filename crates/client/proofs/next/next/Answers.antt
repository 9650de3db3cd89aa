use mathlib.Core.Path.{sym, ◌∙◌}
use borrow.Author.Tests.{not-true, not-false}
use Rattle.client.proofs.next.next.Goals as goal

pub returns-then-not-enough : goal.returns-then-not-enough
returns-then-not-enough c = rw (sym c.enough.ensures ∙ not-true _ c.if-not-enough.true-raw)

pub returns : goal.returns
returns c = rw (sym c.enough.ensures ∙ not-false _ c.if-not-enough.false-raw) c.after.ensures
