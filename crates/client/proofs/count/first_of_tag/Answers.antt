use mathlib.Core.Path.{sym, ◌∙◌, ap}
use mathlib.Core.Bool.{Bool, ◌&&◌}
use borrow.Author.Tests.{not-true, not-false}
use Rattle.tag.specs.Tag.{same}
use Rattle.client.proofs.count.first_of_tag.Goals as goal

pub returns-then-not-first : goal.returns-then-not-first
returns-then-not-first c = let a = c.args in
    ap (λ (b : Bool). b && same a.h.tag a.tag) (sym (not-true _ c.if-not-first.true-raw) ∙ c.first.ensures)

pub returns : goal.returns
returns c = let a = c.args in
    c.same.ensures
    ∙ ap (λ (b : Bool). b && same a.h.tag a.tag) (sym (not-false _ c.if-not-first.false-raw) ∙ c.first.ensures)
