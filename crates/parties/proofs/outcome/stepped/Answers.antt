use mathlib.Core.Path.{sym, ap, ◌∙◌}
use Rattle.parties.specs.inner.Acted.{stepped_on}
use Rattle.parties.proofs.outcome.stepped.Goals as goal

pub returns-in_default : goal.returns-in_default
returns-in_default c =
    let a = c.args in
    sym (ap (λ v. stepped_on v a.pair a.y) c.in_default.is)

pub returns : goal.returns
returns c =
    let a = c.args in
    c.refused.ensures ∙ sym (ap (λ v. stepped_on v a.pair a.y) c.in-Err.is)
