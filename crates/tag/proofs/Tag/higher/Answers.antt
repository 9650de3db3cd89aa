use mathlib.Core.Path.{sym, ◌∙◌}
use Rattle.tag.proofs.Tag.higher.Goals as goal

pub returns-then-above : goal.returns-then-above
returns-then-above c = rw (sym c.above.ensures ∙ c.if-above.true)

pub returns : goal.returns
returns c = rw (sym c.above.ensures ∙ c.if-above.false)
