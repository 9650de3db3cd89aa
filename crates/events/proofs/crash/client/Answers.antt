use mathlib.Core.Path.{sym, ◌∙◌}
use borrow.Author.Tests.{not-true, not-false}
use Rattle.events.proofs.crash.Laws.{client_crashed, client_missing}
use Rattle.events.proofs.crash.client.Goals as goal

pub returns-then-not-client_exists : goal.returns-then-not-client_exists
returns-then-not-client_exists c =
    let a = c.args in
    client_missing a.cfg a.part a.call c.refused.result c.refused.ensures
    (sym c.client_exists.ensures ∙ not-true _ c.if-not-client_exists.true-raw)

pub returns : goal.returns
returns c =
    let a = c.args in
    client_crashed a.cfg a.part a.call c.acted.result c.client-acted.result c.acted.ensures
    (sym c.client_exists.ensures ∙ not-false _ c.if-not-client_exists.false-raw) c.client-acted.ensures
