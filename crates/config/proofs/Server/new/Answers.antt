use Rattle.std.proofs.lemmas.Result.{err_from_is_err_and}
use Rattle.config.specs.Number.{server_questions}
use Rattle.config.proofs.Number.{made, not_made}
use Rattle.config.proofs.Server.new.Goals as goal

pub returns-in_err-ask_then : goal.returns-in_err-ask_then
unfolding server_questions
returns-in_err-ask_then c =
    let a = c.args in
    let p = err_from_is_err_and c.from_residual.result c.from_residual.ensures.1 in
    rw (p.1, p.2) (not_made (server_questions a.cfg a.s) a.s _ c.in_err-ask_then.ensures)

pub returns : goal.returns
unfolding server_questions
returns c =
    let a = c.args in
    made (server_questions a.cfg a.s) a.s c.in_ok-ask_then.ensures
