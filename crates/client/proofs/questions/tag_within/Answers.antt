use mathlib.Core.Path.{sym, ap, ◌∙◌}
use mathlib.Core.Bool.{Bool, ◌&&◌}
use borrow.Author.Tests.{not-true, not-false}
use Rattle.client.specs.Servers.{within_servers}
use Rattle.client.proofs.questions.tag_within.Goals as goal

pub returns-then-not-allowed : goal.returns-then-not-allowed
returns-then-not-allowed c = let a = c.args in ap (λ (b : Bool). b && within_servers a.cfg.n a.counted) (sym (not-true _ c.if-not-allowed.true-raw) ∙ c.allowed.ensures)

pub returns : goal.returns
returns c = let a = c.args in
    c.within.ensures
    ∙ ap (λ (b : Bool). b && within_servers a.cfg.n a.counted) (sym (not-false _ c.if-not-allowed.false-raw) ∙ c.allowed.ensures)
