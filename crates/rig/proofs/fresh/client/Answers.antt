use Rattle.parties.proofs.Making.{client_is}
use Rattle.rig.proofs.fresh.client.Goals as goal

pub returns : goal.returns
returns c =
    let s = c in
    client_is s.args.cfg s.args.c s.requires.0 s.requires.1 _ c.client-made.ensures
