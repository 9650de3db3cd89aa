use Rattle.parties.proofs.Making.{encoded, node_made}
use Rattle.parties.proofs.fresh.node_through.Goals as goal

pub returns : goal.returns
returns c =
    let s = c in
    let a = s.args in
    let e = encoded a.cfg a.s a.start.now a.store.now s.requires.0 a.element.now _ _ s.requires.1 c.encode.ensures in
    node_made a.cfg a.s a.start.now a.store.now s.requires.0 _ c.server_number-me.ensures _ _ e _ c.fresh-made.ensures
