use Rattle.boards.specs.Questions.{is_up}
use Rattle.boards.proofs.questions.is_up.Goals as goal

pub returns-in-Idle : goal.returns-in-Idle
unfolding is_up
returns-in-Idle c = rw c.in-Idle.is

pub returns-in-Asking : goal.returns-in-Asking
unfolding is_up
returns-in-Asking c = rw c.in-Asking.is

pub returns-in-PreWriting : goal.returns-in-PreWriting
unfolding is_up
returns-in-PreWriting c = rw c.in-PreWriting.is

pub returns-in-FinalisingWrite : goal.returns-in-FinalisingWrite
unfolding is_up
returns-in-FinalisingWrite c = rw c.in-FinalisingWrite.is

pub returns-in-FinalisingRead : goal.returns-in-FinalisingRead
unfolding is_up
returns-in-FinalisingRead c = rw c.in-FinalisingRead.is

pub returns-in-Down : goal.returns-in-Down
unfolding is_up
returns-in-Down c = rw c.in-Down.is
