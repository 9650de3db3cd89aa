use Rattle.record.proofs.Parties.{some_client}
use Rattle.parties.proofs.Making.{some_client_made}
use Rattle.parties.proofs.fresh.client_number.Goals as goal

pub unwrap-requires : goal.unwrap-requires
unwrap-requires c =
    let a = c.args in
    some_client_made a.cfg a.c c.requires.0 _ c.new.ensures c.requires.1

pub returns : goal.returns
returns c =
    let a = c.args in
    (some_client a.cfg a.c _ _ c.new.ensures c.unwrap.ensures).1
