use Rattle.std.proofs.Common.{not, sym, ap, ◌∙◌, arith}
use Rattle.std.specs.Prelude.{Option as Given}
use Rattle.tag.specs.declared.Tag.{Tag}
use Rattle.tag.specs.Tag.{key}
use Rattle.tag.proofs.Order.{Small}
use Rattle.protocol.specs.Server.{at_or_below_floor}
use Rattle.server.specs.View.{floor_of}
use Rattle.protocol.proofs.Keys.{at-or-below-floor}
use Rattle.server.proofs.serve.at_or_below.Goals as goal

pub returns-in_default : goal.returns-in_default
unfolding at_or_below_floor
returns-in_default c = ap (λ (f : Given Tag). at_or_below_floor (key c.args.cfg) c.args.t (floor_of f)) (sym c.in_default.is)

pub returns : goal.returns
returns c =
    let a = c.args in
    let f = c.in-Some.f in
    let st : Small a.t = omega arith in
    let sf : Small f = omega arith in
    ap not c.above.ensures ∙ at-or-below-floor a.cfg c.requires a.t f st sf
    ∙ ap (λ (x : Given Tag). at_or_below_floor (key a.cfg) a.t (floor_of x)) (sym c.in-Some.is)
