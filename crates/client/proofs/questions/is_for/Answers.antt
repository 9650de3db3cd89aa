use mathlib.Core.Path.{sym, ◌∙◌, ap}
use mathlib.Core.Bool.{not}
use borrow.Author.Tests.{eq-eqb, ne_eqb}
use Rattle.client.proofs.questions.is_for.Goals as goal

pub returns-then-number : goal.returns-then-number
returns-then-number c = rw (ne_eqb _ _ (λ e. c.if-number.true (c.number.ensures ∙ e ∙ sym c.number-2.ensures)))

pub returns : goal.returns
returns c = rw (eq-eqb _ _ (sym c.number.ensures ∙ c.if-number.false ∙ c.number-2.ensures))
    (ap not c.is_for_server.ensures)
