use mathlib.Core.Path.{sym}
use Rattle.client.specs.Questions.{begin_read_questions}
use Rattle.host.proofs.Kept.{begin_not_taken, begin_not_told, begin_taken, client_long}
use Rattle.host.proofs.coded_client_read.Goals as goal

pub returns-in-Err : goal.returns-in-Err
returns-in-Err c kept = begin_not_told _ _ _ _ kept _ c.in-Err.ensures c.number.ensures

pub returns-in-Err-verdict : goal.returns-in-Err-verdict
returns-in-Err-verdict c kept =
    begin_not_taken _ _ c.in-Ok.ensures (λ cfg x. begin_read_questions cfg x c.args.sends.now) _ (c.begin_read-after.ensures kept) c.in-Err-verdict.is c.number-in-Err-verdict.ensures

pub client-requires-2 : goal.client-requires-2
client-requires-2 c = client_long _ _ (sym c.in-Ok.ensures.number)

pub returns : goal.returns
returns c kept =
    begin_taken _ _ c.in-Ok.ensures (λ cfg x. begin_read_questions cfg x c.args.sends.now) _ (c.begin_read-after.ensures kept) c.in_default.is _ c.client-2.ensures
