use mathlib.Core.Bool.{◌&&◌}
use mathlib.Core.Path.{sym, ap, ◌∙◌}
use borrow.Author.Tests.{not-true, not-false}
use Rattle.rig.specs.inner.Within.{client_yes}
use Rattle.rig.proofs.within.place.Goals as goal

pub returns-then-not-server : goal.returns-then-not-server
returns-then-not-server c =
    let a = c.args in
    ap (λ b. b && client_yes a.cfg a.i a.y) (sym (not-true _ c.if-not-server.true-raw) ∙ c.server.ensures)

pub returns : goal.returns
returns c =
    let a = c.args in
    c.client.ensures
    ∙ ap (λ b. b && client_yes a.cfg a.i a.y) (sym (not-false _ c.if-not-server.false-raw) ∙ c.server.ensures)
