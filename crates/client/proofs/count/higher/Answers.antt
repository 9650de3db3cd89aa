use mathlib.Core.Path.{◌∙◌}
use native.Mathlib.Omega.{arith}
use Rattle.tag.proofs.Order.{Small}
use Rattle.protocol.proofs.Keys.{higher_key}
use Rattle.client.proofs.count.higher.Goals as goal

pub returns : goal.returns
returns c =
    let s = c in
    let sb : Small s.args.best = omega arith in
    let st : Small s.args.t = omega arith in
    c.higher.ensures ∙ higher_key s.args.cfg s.requires s.args.best s.args.t sb st
