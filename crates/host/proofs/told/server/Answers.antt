use mathlib.Core.Path.{sym, ap, ◌∙◌}
use Rattle.config.specs.Refusal.{verdict_number}
use Rattle.states.specs.Servers.{unpack_questions}
use Rattle.host.specs.Config.{server_questions}
use Rattle.host.proofs.told.Laws.{refused, server_given, unread}
use Rattle.host.proofs.told.server.Goals as goal

pub returns-in_err-cfg : goal.returns-in_err-cfg
unfolding server_questions
returns-in_err-cfg c = unread _ (λ cfg. unpack_questions cfg c.args.state.now) _ _ _ c.from_residual.ensures.1 c.in_err-cfg.ensures

pub returns-in_err-told : goal.returns-in_err-told
unfolding server_questions
returns-in_err-told c =
    refused _ (λ cfg. unpack_questions cfg c.args.state.now) _ c.in_ok-cfg.ensures _ _ c.from_residual-in_err-told.ensures.1
    (sym (ap verdict_number c.in_err-told.was) ∙ c.unpack-told.ensures.number)

pub returns : goal.returns
returns c = server_given _ _ c.in_ok-cfg.ensures _ c.unpack-told.ensures (sym (ap verdict_number c.in_ok-told.was))
