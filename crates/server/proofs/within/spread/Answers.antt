use Rattle.std.proofs.Common.{true, take, sym, ◌∙◌, arith}
use mathlib.Core.Bool.{and-true}
use mathlib.Core.Option.{none}
use Rattle.tag.specs.Tag.{start}
use Rattle.server.proofs.Each.{each_first}
use Rattle.server.proofs.Spots.{seen_all, seen_next, seen_none}
use Rattle.server.proofs.within.spread.Goals as goal

pub loop-t-init : goal.loop-t-init
loop-t-init c = seen_none c.args.clients none

pub loop-t-preserved : goal.loop-t-preserved
loop-t-preserved c =
    let l = c.loop-t in
    let a = c.args in
    seen_next a.clients none l.seen _ l.t-index (take a.count a.tags) c.loop-t-test.true l.invariant c.spot.ensures
    (and-true _ ∙ sym c.allowed.ensures ∙ c.if-not-allowed.false) (λ z. c.if-next-seen.false (sym z))

pub returns : goal.returns
returns c =
    let l = c.loop-t in
    let a = c.args in
    rw (each_first a.tags start a.count (omega arith)) (seen_all a.clients none l.seen l.t-index _ c.loop-t-test.false l.invariant true)
