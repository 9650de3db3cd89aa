use mathlib.Core.Path.{ap, ◌∙◌}
use Rattle.parties.specs.declared.Node.{Node}
use Rattle.parties.specs.inner.Acted.{quietly}
use Rattle.parties.proofs.Crashing.{server_is_up, server_restarted}
use Rattle.parties.proofs.restart.server.Goals as goal

pub returns-then-node : goal.returns-then-node
returns-then-node c cfg l sends read =
    let a = c.args in
    server_is_up cfg a.pair l sends read c.if-node.true _ c.refused.ensures

pub returns : goal.returns
returns c cfg l sends read =
    let a = c.args in
    server_restarted cfg a.pair l sends read c.if-node.false _
    (c.quiet.ensures ∙ ap (λ (n : Node). quietly (record { node = n; client = a.pair.client })) c.started-up.ensures)
