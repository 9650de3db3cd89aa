use Rattle.boards.specs.inner.CrashOrRestart.{as_one}
use Rattle.boards.proofs.EachBoard.{Turning}
use Rattle.boards.proofs.crash_or_restart.all.Given as goal

-- the boards below place i have had the event
abbrev pub invariant-loop-i : goal.invariant-loop-i
invariant-loop-i l = Turning l.cfg l.room (as_one l.call) l.rig l.left l.i
