use Rattle.std.proofs.Common.{ℕ, ◌+◌, ◌-◌, ◌<◌, ◌≤◌, length, sym, ap, ◌∙◌, arith, rules}
use native.Mathlib.Nat.{sub-zero}
use Rattle.server.specs.Within.{once}
use Rattle.server.specs.View.{each, place_in, tag_at}
use Rattle.server.proofs.Each.{length_each, once_end, once_no, once_yes, place_among, place_not_among}
use Rattle.server.proofs.within.once.Goals as goal

pub loop-i-init : goal.loop-i-init
loop-i-init c = (search rules, ap (λ (n : ℕ). once (each (tag_at c.args.tags) 0 n)) (sym (sub-zero c.args.count)))

pub returns-then-place_of-count : goal.returns-then-place_of-count
returns-then-place_of-count c =
    let l = c.loop-i in
    let a = c.args in
    let rest = each (tag_at a.tags) (l.i + 1) (a.count - (l.i + 1)) in
    let p : place_in (tag_at a.tags l.i) rest < length rest =
    omega (arith, c.place_of.ensures, c.if-place_of-count.true, length_each (tag_at a.tags) (l.i + 1) (a.count - (l.i + 1))) in
    sym (l.invariant.1 ∙ once_no (tag_at a.tags) l.i a.count c.loop-i-test.true (place_among (tag_at a.tags l.i) rest p))

pub loop-i-preserved : goal.loop-i-preserved
loop-i-preserved c =
    let l = c.loop-i in
    let a = c.args in
    let rest = each (tag_at a.tags) (l.i + 1) (a.count - (l.i + 1)) in
    let p : length rest ≤ place_in (tag_at a.tags l.i) rest =
    omega (arith, c.place_of.ensures, c.if-place_of-count.false, length_each (tag_at a.tags) (l.i + 1) (a.count - (l.i + 1))) in
    (search rules, l.invariant.1 ∙ once_yes (tag_at a.tags) l.i a.count c.loop-i-test.true (place_not_among (tag_at a.tags l.i) rest p))

pub returns : goal.returns
returns c =
    let l = c.loop-i in
    let a = c.args in
    sym (l.invariant.1 ∙ once_end (tag_at a.tags) l.i a.count c.loop-i-test.false)
