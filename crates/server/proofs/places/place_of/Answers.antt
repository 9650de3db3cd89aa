use Rattle.std.proofs.Common.{◌<◌, sym, refl, ◌∙◌, arith, rules}
use Rattle.server.specs.View.{tag_at}
use Rattle.server.proofs.Each.{place_end, place_hit, place_miss}
use Rattle.server.proofs.places.place_of.Goals as goal

pub loop-i-init : goal.loop-i-init
loop-i-init c = (search rules, refl)

pub loop-i-preserved : goal.loop-i-preserved
loop-i-preserved c =
    let l = c.loop-i in
    let a = c.args in
    let h : l.i < a.count = omega arith in
    let m = place_miss (tag_at a.tags) l.i a.count a.t h (sym c.same.ensures ∙ c.if-same.false) in
    (omega arith, omega (arith, l.invariant.1, m))

pub returns-then-i-count : goal.returns-then-i-count
returns-then-i-count c =
    let l = c.loop-i in
    let a = c.args in
    omega (arith, l.invariant.1, place_end (tag_at a.tags) l.i a.count a.t (omega arith), c.if-i-count.true)

pub returns-then-same : goal.returns-then-same
returns-then-same c =
    let l = c.loop-i in
    let a = c.args in
    let h : l.i < a.count = omega arith in
    omega (arith, l.invariant.1, place_hit (tag_at a.tags) l.i a.count a.t h (sym c.same.ensures ∙ c.if-same.true))
