use mathlib.Core.Path.{sym}
use Rattle.parties.proofs.Making.{server-made, server_pre, server_refused}
use Rattle.parties.proofs.fresh.server.Goals as goal

pub returns-in-Err : goal.returns-in-Err
returns-in-Err c =
    let a = c.args in
    server_refused a.cfg a.s a.start.now a.store.now _ c.in-Err.ensures _ c.least.ensures

pub node-requires : goal.node-requires
node-requires c =
    let a = c.args in
    server_pre a.cfg a.s a.start.now a.store.now (sym c.in_default.ensures)

pub returns : goal.returns
returns c =
    let a = c.args in
    server-made a.cfg a.s a.start.now a.store.now (sym c.in_default.ensures) _ _ c.node.ensures
