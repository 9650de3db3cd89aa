use borrow.Author.Tests.{not-true, not-false}
use Rattle.parties.proofs.Crashing.{server_crashed, server_is_down}
use Rattle.parties.proofs.crash.server.Goals as goal

pub returns-then-not-node : goal.returns-then-not-node
returns-then-not-node c cfg l sends read =
    let a = c.args in
    server_is_down cfg a.pair l sends read (not-true _ c.if-not-node.true) _ c.refused.ensures

pub returns : goal.returns
returns c cfg l sends read =
    let a = c.args in
    server_crashed cfg a.pair l sends read (not-false _ c.if-not-node.false) _ c.quiet.ensures
