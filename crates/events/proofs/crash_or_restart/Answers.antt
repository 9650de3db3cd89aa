use mathlib.Core.Path.{◌≡◌, sym, ap, subst, ◌∙◌}
use native.Mathlib.Omega.{arith}
use Rattle.events.specs.declared.Call.{Call}
use Rattle.events.specs.Calls.{AloneChangePost, code_in}
use Rattle.events.proofs.Alone.{an_event_alone, alone_refused}
use Rattle.events.proofs.crash_or_restart.Goals as goal

pub returns-in-Err : goal.returns-in-Err
returns-in-Err c =
    let a = c.args in
    subst (λ (z : Call). AloneChangePost a.cfg a.m a.part z c.refused.result) c.call-call.ensures
    (alone_refused a.cfg a.m a.part c.call-call.result _ c.in-Err.ensures c.refused.ensures)

pub returns-in-CrashServer : goal.returns-in-CrashServer
returns-in-CrashServer c =
    let a = c.args in
    let code : c.call-call.result.code ≡ 6 = ap (λ (z : Call). z.code) c.call-call.ensures ∙ ap code_in c.in-CrashServer.is in
    subst (λ (z : Call). AloneChangePost a.cfg a.m a.part z c.server.result) c.call-call.ensures
    (an_event_alone a.cfg a.m a.part c.call-call.result (sym c.in_default.ensures) code (λ three. omega (arith, three)) c.server.ensures)

pub returns-in-CrashClient : goal.returns-in-CrashClient
returns-in-CrashClient c =
    let a = c.args in
    let code : c.call-call.result.code ≡ 7 = ap (λ (z : Call). z.code) c.call-call.ensures ∙ ap code_in c.in-CrashClient.is in
    subst (λ (z : Call). AloneChangePost a.cfg a.m a.part z c.client.result) c.call-call.ensures
    (an_event_alone a.cfg a.m a.part c.call-call.result (sym c.in_default.ensures) code (λ three. omega (arith, three)) c.client.ensures)

pub returns-in-RestartServer : goal.returns-in-RestartServer
returns-in-RestartServer c =
    let a = c.args in
    let code : c.call-call.result.code ≡ 8 = ap (λ (z : Call). z.code) c.call-call.ensures ∙ ap code_in c.in-RestartServer.is in
    subst (λ (z : Call). AloneChangePost a.cfg a.m a.part z c.server-in-RestartServer.result) c.call-call.ensures
    (an_event_alone a.cfg a.m a.part c.call-call.result (sym c.in_default.ensures) code (λ three. omega (arith, three)) c.server-in-RestartServer.ensures)
