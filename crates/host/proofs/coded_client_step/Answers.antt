use borrow.Author.Rules.{rules}
use lib.ListN.{length}
use mathlib.Core.Path.{refl, sym, ap, subst, ◌∙◌}
use Rattle.laws.proofs.Parts.{copied}
use Rattle.host.specs.Outcome.{OutcomePost}
use Rattle.host.proofs.Outcomes.{outcome_long}
use Rattle.host.proofs.Kept.{client_few, client_long, client_not_taken, client_not_told, client_short, client_taken}
use Rattle.host.proofs.coded_client_step.Goals as goal

pub returns-in-Err : goal.returns-in-Err
returns-in-Err c = client_not_told _ _ _ _ _ c.in-Err.ensures c.number.ensures

pub returns-then-outcome-ne-LENGTH : goal.returns-then-outcome-ne-LENGTH
returns-then-outcome-ne-LENGTH c = rw c.number-then-outcome-ne-LENGTH.ensures (client_short _ _ _ _ c.args.outcome.now c.in-Ok.ensures c.if-outcome-ne-LENGTH.true)

pub returns-in-Err-verdict : goal.returns-in-Err-verdict
returns-in-Err-verdict c =
    client_not_taken _ _ _ _ c.args.outcome.now c.in-Ok.ensures c.if-outcome-ne-LENGTH.false c.step-after.ensures c.in-Err-verdict.is c.number-in-Err-verdict.ensures

pub client-requires-2 : goal.client-requires-2
client-requires-2 c = client_long _ _ (sym c.in-Ok.ensures.number)

pub pack-tells-requires : goal.pack-tells-requires
pack-tells-requires c = client_few _ _ _ _ c.args.outcome.now c.in-Ok.ensures c.if-outcome-ne-LENGTH.false c.step-after.ensures

pub returns : goal.returns
returns c = client_taken _ _ _ _ c.args.outcome.now c.in-Ok.ensures c.if-outcome-ne-LENGTH.false c.step-after.ensures c.in_default.is _ _ c.client-2.ensures
    (subst (OutcomePost _ _) (sym ((c.copy.ensures.whole (search rules)).1 ∙ copied c.pack-tells.result c.args.outcome.now _ refl (c.if-outcome-ne-LENGTH.false ∙ sym (ap length c.pack-tells.ensures.bytes ∙ outcome_long _ _)))) c.pack-tells.ensures)
