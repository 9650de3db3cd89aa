use borrow.Author.Tests.{not-true, not-false}
use Rattle.client.proofs.questions.length_within.Goals as goal

pub returns-then-not-used : goal.returns-then-not-used
returns-then-not-used c = rw (not-true c.args.used c.if-not-used.true-raw)

pub returns : goal.returns
returns c = rw (not-false c.args.used c.if-not-used.false-raw)
