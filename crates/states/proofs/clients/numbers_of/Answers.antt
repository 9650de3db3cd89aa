use Rattle.states.specs.Clients.{numbers_of}
use Rattle.states.proofs.clients.numbers_of.Goals as goal

pub returns-in-Idle : goal.returns-in-Idle
unfolding numbers_of
returns-in-Idle c = rw c.in-Idle.is c.plain.ensures

pub returns-in-Asking : goal.returns-in-Asking
unfolding numbers_of
returns-in-Asking c = rw c.in-Asking.is

pub returns-in-PreWriting : goal.returns-in-PreWriting
unfolding numbers_of
returns-in-PreWriting c = rw c.in-PreWriting.is c.plain-in-PreWriting.ensures

pub returns-in-FinalisingWrite : goal.returns-in-FinalisingWrite
unfolding numbers_of
returns-in-FinalisingWrite c = rw c.in-FinalisingWrite.is c.plain-in-FinalisingWrite.ensures

pub returns-in-FinalisingRead : goal.returns-in-FinalisingRead
unfolding numbers_of
returns-in-FinalisingRead c = rw c.in-FinalisingRead.is

pub returns-in-Down : goal.returns-in-Down
unfolding numbers_of
returns-in-Down c = rw c.in-Down.is c.plain-in-Down.ensures
