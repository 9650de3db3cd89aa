-- The place looked for is as many from the start on as were passed, and from there on where the search goes on.
use mathlib.Core.Path.{◌≡◌}
use native.Mathlib.Omega.{arith}
use lib.ListN.{drop}
use Rattle.laws.specs.Owners.{place_of}
use Rattle.laws.proofs.OwnersScan.{place_earlier, place_end, place_here, place_miss}
use Rattle.flight.proofs.owners.place_of.Goals as goal
use Rattle.flight.proofs.owners.place_of.Goals.{then-owner-board+else-left-eq0, else-owner-board}

pub returns-then-left-eq0 : goal.returns-then-left-eq0
returns-then-left-eq0 c =
    let l = c.loop-place in
    let os = c.used-used.result.now in
    let b = c.args.board in
    let here : place_of b l.left (drop l.place os) ≡ 0 = rw c.if-left-eq0.true (place_here b os l.place c.loop-place-test.true c.if-owner-board.true) in
    rw (← c.used-used.ensures) (omega (arith, l.invariant, here))

pub loop-place-preserved : goal.loop-place-preserved
loop-place-preserved c =
    let l = c.loop-place in
    let os = c.used-used.result.now in
    let b = c.args.board in
    elim c.if-owner-board.branch [
      | then-owner-board+else-left-eq0 w ↦ rw w.left-is (omega (arith, l.invariant, place_earlier b os l.place c.loop-place-test.true l.left w.if-left-eq0.false w.if-owner-board.true))
      | else-owner-board w ↦ rw w.left-is (omega (arith, l.invariant, place_miss b os l.place c.loop-place-test.true l.left w.if-owner-board.false))
    ]

pub returns : goal.returns
returns c =
    let l = c.loop-place in
    rw (← c.used-used.ensures)
    (omega (arith, l.invariant, place_end c.args.board l.left l.place c.used-used.result.now c.loop-place-test.false))
