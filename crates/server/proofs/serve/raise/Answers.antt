use Rattle.std.proofs.Common.{◌∙◌, arith}
use Rattle.tag.proofs.Order.{Small}
use Rattle.protocol.proofs.Keys.{higher_key}
use Rattle.server.specs.inner.Serve.{raised}
use Rattle.server.proofs.Owned.{highest_small}
use Rattle.server.proofs.serve.raise.Goals as goal

pub returns : goal.returns
unfolding raised
returns c =
    let b = c in
    let s = b.args.s in
    let st : Small b.args.t = omega arith in
    let highest = c.higher.ensures ∙ higher_key b.args.cfg b.requires s.highest b.args.t (highest_small s _ b.well_formed.1.0) st in
    λ i. record { me = s.me; highest = highest i; floor = s.floor; count = s.count; tags = s.tags; lengths = s.lengths }
