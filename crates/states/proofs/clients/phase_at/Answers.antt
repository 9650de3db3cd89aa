use borrow.Author.Tests.{ne_eqb}
use Rattle.states.specs.Clients.{phase_of, state_of}
use Rattle.states.proofs.clients.phase_at.Goals as goal

pub returns-in-0 : goal.returns-in-0
unfolding state_of phase_of
returns-in-0 c = rw c.in-0.is

pub returns-in-1 : goal.returns-in-1
unfolding state_of phase_of
returns-in-1 c = rw (c.in-1.is, c.tag_at-tag.ensures, c.number_at-counted.ensures)

pub returns-in-2 : goal.returns-in-2
unfolding state_of phase_of
returns-in-2 c = rw (c.in-2.is, c.tag_at-tag.ensures, c.number_at-counted.ensures)

pub returns-in-3 : goal.returns-in-3
unfolding state_of phase_of
returns-in-3 c = rw (c.in-3.is, c.tag_at-tag.ensures, c.number_at-counted.ensures)

pub returns-in-4 : goal.returns-in-4
unfolding state_of phase_of
returns-in-4 c = rw (c.in-4.is, c.tag_at-tag.ensures, c.number_at-counted.ensures, c.number_at-sent.ensures)

pub returns-in_default : goal.returns-in_default
unfolding state_of phase_of
returns-in_default c =
    let r = c.in_default.in_default-own.rest in
    rw (ne_eqb _ 0 r.0.0.0.0.1, ne_eqb _ 1 r.0.0.0.1, ne_eqb _ 2 r.0.0.1, ne_eqb _ 3 r.0.1, ne_eqb _ 4 r.1)
