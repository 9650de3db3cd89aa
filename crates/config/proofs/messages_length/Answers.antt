use mathlib.Core.Path.{sym, ◌∙◌}
use native.Mathlib.Omega.{arith}
use borrow.Author.Tests.{not-true, not-false}
use Rattle.config.specs.Config.{most_messages}
use Rattle.config.proofs.Questions.{within_high}
use Rattle.config.proofs.messages_length.Goals as goal

pub returns-then-not-within : goal.returns-then-not-within
returns-then-not-within c = rw (sym c.within.ensures ∙ not-true _ c.if-not-within.true-raw)

pub overflow_mul-result : goal.overflow_mul-result
overflow_mul-result c =
    omega (arith, within_high 1 most_messages c.args.m (sym c.within.ensures ∙ not-false _ c.if-not-within.false-raw))

pub returns : goal.returns
returns c = rw (sym c.within.ensures ∙ not-false _ c.if-not-within.false-raw)
