use Prim.Native.Nat.{◌<◌}
use mathlib.Core.Path.{◌∙◌}
use native.Mathlib.Omega.{arith}
use lib.ListN.{length}
use Rattle.boards.specs.inner.CrashOrRestart.{as_one}
use Rattle.boards.proofs.EachBoard.{by_code, turn_all, turn_next, turn_none}
use Rattle.boards.proofs.OneOf.{read_at}
use Rattle.boards.proofs.Owned.{board_places}
use Rattle.boards.proofs.crash_or_restart.all.Goals as goal

pub which-its-requires : goal.which-its-requires
which-its-requires c = (c.requires.2, c.requires.3)

pub put-left-requires : goal.put-left-requires
put-left-requires c = omega arith

pub loop-i-init : goal.loop-i-init
loop-i-init c =
    let s = c in
    let a = s.args in
    let some : 0 < length a.rig.boards = omega (arith, board_places a.rig _ s.well_formed.1.1.0) in
    turn_next a.cfg a.room (as_one a.call) a.rig a.rig 0 (turn_none a.cfg a.room (as_one a.call) a.rig) (omega (arith, s.requires.0)) some
    (c.one.ensures ∙ read_at a.rig 0 _ _ some) (by_code c.which-its.result a.call c.which-its.ensures c.crash_or_restart-first.ensures) c.put-left.ensures

pub bounds-rig-i : goal.bounds-rig-i
bounds-rig-i c = omega (arith, c.loop-i-test.true, c.requires.1)

pub put-left-requires-in-loop-i : goal.put-left-requires-in-loop-i
put-left-requires-in-loop-i c = omega (arith, c.loop-i-test.true, c.requires.1)

pub loop-i-preserved : goal.loop-i-preserved
loop-i-preserved c =
    let s = c in
    let a = s.args in
    let l = c.loop-i in
    let below = c.loop-i-test.true in
    let low : l.i < length a.rig.boards = omega (arith, below, s.requires.1, board_places a.rig _ s.well_formed.1.1.0) in
    turn_next a.cfg a.room (as_one a.call) a.rig l.left l.i l.invariant below low
    (c.one-in-loop-i.ensures ∙ read_at a.rig l.i _ _ low) (by_code c.which-its.result a.call c.which-its.ensures c.crash_or_restart-turn.ensures) c.put-left-in-loop-i.ensures

pub returns : goal.returns
returns c =
    let s = c in
    let a = s.args in
    let l = c.loop-i in
    turn_all a.cfg a.room a.call a.rig l.left l.i l.invariant (omega (arith, c.loop-i-test.false))
    (c.one.ensures ∙ read_at a.rig 0 _ _ (omega (arith, board_places a.rig _ s.well_formed.1.1.0)))
    (by_code c.which-its.result a.call c.which-its.ensures c.crash_or_restart-first.ensures)
