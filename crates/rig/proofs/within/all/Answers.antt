use Prim.Native.Nat.{◌≤◌}
use mathlib.Core.Path.{sym, ◌∙◌}
use native.Mathlib.Omega.{arith}
use borrow.Author.Count.{below_more}
use borrow.Author.Tests.{not-true, not-false}
use Rattle.rig.proofs.Owned.{client_places, server_places}
use Rattle.rig.proofs.within.Laws.{all-within, place_no, place_read}
use Rattle.rig.proofs.within.all.Goals as goal

pub returns-then-not-place : goal.returns-then-not-place
returns-then-not-place c =
    let s = c in
    let r = s.args.rig in
    let i = c.loop-i.i in
    let low : i ≤ 15 = omega arith in
    sym (place_no s.args.cfg r i
    (sym (place_read s.args.cfg r i _ _ (omega (arith, low, server_places r _ s.well_formed.1.0)) (omega (arith, low, client_places r _ s.well_formed.1.0)))
    ∙ sym c.place.ensures ∙ not-true _ c.if-not-place.true-raw))

pub loop-i-preserved : goal.loop-i-preserved
loop-i-preserved c =
    let s = c in
    let r = s.args.rig in
    let i = c.loop-i.i in
    let low : i ≤ 15 = omega arith in
    below_more _ _ c.loop-i.invariant
    (sym (place_read s.args.cfg r i _ _ (omega (arith, low, server_places r _ s.well_formed.1.0)) (omega (arith, low, client_places r _ s.well_formed.1.0)))
    ∙ sym c.place.ensures ∙ not-false _ c.if-not-place.false-raw)

pub returns : goal.returns
returns c =
    let s = c in
    sym (all-within s.args.cfg s.args.rig c.loop-i.i (omega arith) (omega arith) c.loop-i.invariant)
