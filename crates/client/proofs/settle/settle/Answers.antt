use mathlib.Core.Path.{refl}
use Rattle.client.specs.State.{Lent, lent}
use Rattle.client.proofs.Phases.{phase_in}
use Rattle.client.proofs.Settling.{announced, as_found, ends, ends_shown, of_state, ready, waits}
use Rattle.client.proofs.settle.settle.Goals as goal
use Rattle.client.proofs.settle.settle.Goals.{Start}

-- the buffers
abbrev l : Start → Lent
l s = lent s.args.kept.now s.args.elements.now s.args.sends.now s.args.board.now

pub next-next-requires : goal.next-next-requires
next-next-requires c = let s = c in phase_in s.args.cfg s.args.x s.requires.within

pub announce-requires : goal.announce-requires
announce-requires c = let n = c in
    let s = n in
    rw c.in_phase.ensures (ready s.args.cfg s.args.x (l (goal.at.announce-requires c).Start) s.requires n.next-next.ensures c.in-Begins.is)

pub show-length-requires : goal.show-length-requires
show-length-requires c = let n = c in
    let s = n in
    ready s.args.cfg s.args.x (l (goal.at.show-length-requires c).Start) s.requires n.next-next.ensures c.in-Shows.is

pub returns-in-Waits : goal.returns-in-Waits
returns-in-Waits c = let n = c in
    let s = n in
    rw (as_found s.args.cfg s.args.x (l (goal.at.returns-in-Waits c).Start) s.requires n.next-next.ensures c.in-Waits.is, c.accepted.ensures)
    (waits s.args.cfg s.args.x s.args.kept.now s.args.elements.now s.args.sends.now s.args.board.now s.requires.within)

pub returns-in-Begins : goal.returns-in-Begins
returns-in-Begins c = let m = c in
    let n = m in
    let s = n in
    let r = ready s.args.cfg s.args.x (l (goal.at.returns-in-Begins c).Start) s.requires n.next-next.ensures m.in-Begins.is in
    rw (as_found s.args.cfg s.args.x (l (goal.at.returns-in-Begins c).Start) s.requires n.next-next.ensures m.in-Begins.is)
    (of_state refl refl refl
    (announced s.args.cfg _ s.args.kept.now s.args.elements.now s.args.sends.now s.args.board.now r.within
    (rw m.in_phase.ensures at c.announce.ensures)))

pub returns-in-Ends : goal.returns-in-Ends
returns-in-Ends c = let n = c in
    let s = n in
    rw (as_found s.args.cfg s.args.x (l (goal.at.returns-in-Ends c).Start) s.requires n.next-next.ensures c.in-Ends.is, c.accepted-in-Ends.ensures, c.in_phase-in-Ends.ensures)
    (ends s.args.cfg s.args.x s.args.kept.now s.args.elements.now s.args.sends.now s.args.board.now s.requires.within _
    (ready s.args.cfg s.args.x (l (goal.at.returns-in-Ends c).Start) s.requires n.next-next.ensures c.in-Ends.is))

pub returns-in-Shows : goal.returns-in-Shows
returns-in-Shows c = let n = c in
    let s = n in
    rw (as_found s.args.cfg s.args.x (l (goal.at.returns-in-Shows c).Start) s.requires n.next-next.ensures c.in-Shows.is, c.accepted-in-Shows.ensures, c.in_phase-in-Shows.ensures)
    (ends_shown s.args.cfg s.args.x s.args.kept.now s.args.elements.now s.args.sends.now s.args.board.now s.requires.within _ _ _
    c.show-length.ensures)
