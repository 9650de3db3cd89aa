use mathlib.Core.Path.{sym, ap, ◌∙◌}
use Rattle.parties.specs.inner.Acted.{moved_on}
use Rattle.parties.proofs.outcome.moved.Goals as goal

pub returns-in_default : goal.returns-in_default
returns-in_default c =
    let a = c.args in
    ap (λ z. record { answer = z; pair = record { node = a.pair.node; client = a.y.state }; sent = a.y.sent }) c.ended_by.ensures
    ∙ sym (ap (λ v. moved_on v a.pair a.y) c.in_default.is)

pub returns : goal.returns
returns c =
    let a = c.args in
    c.refused.ensures ∙ sym (ap (λ v. moved_on v a.pair a.y) c.in-Err.is)
