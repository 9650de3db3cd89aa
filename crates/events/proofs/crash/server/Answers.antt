use mathlib.Core.Path.{sym, ◌∙◌}
use borrow.Author.Tests.{not-true, not-false}
use Rattle.events.proofs.crash.Laws.{crash_missing, server_crashed}
use Rattle.events.proofs.crash.server.Goals as goal

pub returns-then-not-server_exists : goal.returns-then-not-server_exists
returns-then-not-server_exists c =
    let a = c.args in
    crash_missing a.cfg a.part a.call c.refused.result c.refused.ensures
    (sym c.server_exists.ensures ∙ not-true _ c.if-not-server_exists.true-raw)

pub returns : goal.returns
returns c =
    let a = c.args in
    server_crashed a.cfg a.part a.call c.acted.result c.server-acted.result c.acted.ensures
    (sym c.server_exists.ensures ∙ not-false _ c.if-not-server_exists.false-raw) (c.server-acted.ensures a.cfg)
