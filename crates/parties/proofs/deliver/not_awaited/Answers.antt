use mathlib.Core.Path.{sym, ap, ◌∙◌}
use lib.Dec.{eqb}
use Rattle.config.specs.Refusal.{verdict_number}
use Rattle.parties.proofs.deliver.not_awaited.Goals as goal

pub returns-in_default : goal.returns-in_default
returns-in_default c = sym (ap (λ v. eqb (verdict_number v) 14) c.in_default.is)

pub returns : goal.returns
returns c =
    ap (λ n. eqb n 14) c.number.ensures
    ∙ sym (ap (λ v. eqb (verdict_number v) 14) c.in-Err.is)
