use Rattle.record.proofs.Parties.{some_server}
use Rattle.parties.proofs.Making.{some_server_made}
use Rattle.parties.proofs.fresh.server_number.Goals as goal

pub unwrap-requires : goal.unwrap-requires
unwrap-requires c =
    let a = c.args in
    some_server_made a.cfg a.s c.requires.0 _ c.new.ensures c.requires.1

pub returns : goal.returns
returns c =
    let a = c.args in
    (some_server a.cfg a.s _ _ c.new.ensures c.unwrap.ensures).1
