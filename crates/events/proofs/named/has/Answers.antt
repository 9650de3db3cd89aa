use mathlib.Core.Bool.{◌&&◌}
use mathlib.Core.Path.{sym, ap, ap₂, ◌∙◌}
use borrow.Author.Tests.{eq-eqb, ne_eqb}
use lib.Dec.{eqb}
use Rattle.events.specs.Questions.{places_of}
use Rattle.events.proofs.named.has.Goals as goal

pub returns-then-part-server : goal.returns-then-part-server
returns-then-part-server c =
    let a = c.args in
    let x = places_of a.cfg a.part.count a.call a.messages.now in
    ap (λ b. b && eqb a.part.client x.client) (sym (ne_eqb a.part.server x.server (λ e. c.if-part-server.true (e ∙ sym c.server.ensures))))

pub returns : goal.returns
returns c =
    let a = c.args in
    let x = places_of a.cfg a.part.count a.call a.messages.now in
    ap₂ ◌&&◌ (sym (eq-eqb a.part.server x.server (c.if-part-server.false ∙ c.server.ensures)))
    (ap (eqb a.part.client) c.client.ensures)
