use borrow.Author.Tests.{le-ltb, lt-ltb}
use Rattle.protocol.specs.Client.{ask_again, highest_number}
use Rattle.client.specs.declared.Ended.TheVariants.{Spent}
use Rattle.client.proofs.Settling.{ends}
use Rattle.client.proofs.again.ask_again.Goals as goal

pub returns-then-x-lt-HIGHEST_NUMBER : goal.returns-then-x-lt-HIGHEST_NUMBER
unfolding ask_again
returns-then-x-lt-HIGHEST_NUMBER c kept es board = let a = c in
    rw (lt-ltb _ highest_number a.if-x-lt-HIGHEST_NUMBER.true) (c.ask_to_read.ensures kept es board)

pub returns : goal.returns
unfolding ask_again
returns c kept es board = let s = c in
    rw (le-ltb _ highest_number c.if-x-lt-HIGHEST_NUMBER.false, c.accepted.ensures, c.in_phase.ensures)
    (ends s.args.cfg s.args.x kept es _ board s.requires.within Spent tt)
