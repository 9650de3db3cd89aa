use Rattle.std.proofs.Common.{true, take, arith}
use mathlib.Core.Option.{some}
use Rattle.tag.specs.Tag.{start}
use Rattle.server.proofs.Each.{each_first}
use Rattle.server.proofs.Spots.{over_all, over_next, seen_none}
use Rattle.server.proofs.within.risen.Goals as goal

pub loop-t-init : goal.loop-t-init
loop-t-init c = λ g h. seen_none c.args.clients (some g)

pub loop-t-preserved : goal.loop-t-preserved
loop-t-preserved c =
    let a = c.args in
    over_next a.clients a.low c.loop-t.seen c.loop-t.t-index (take a.count a.tags) c.loop-t-test.true c.loop-t.invariant c.requires.0
    _ _ c.less.ensures c.if-clients-less.false c.packed-r.ensures c.if-r-low.false c.if-seen-next.false

pub returns : goal.returns
returns c =
    let a = c.args in
    rw (each_first a.tags start a.count (omega arith)) (over_all a.clients a.low c.loop-t.seen c.loop-t.t-index _ c.loop-t-test.false c.loop-t.invariant true)
