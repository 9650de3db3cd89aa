use Prim.Native.Nat.{ℕ}
use lib.ListN.{length-replicate}
use Rattle.flight.specs.Flight.{record_length}
use Rattle.flight.proofs.Cases.{take_missing, take_short, take_there}
use borrow.Author.Rules.{rules}
use Rattle.flight.proofs.take.Goals as goal

pub returns-then-position-count : goal.returns-then-position-count
returns-then-position-count c =
    let a = c.args in
    take_missing a.count a.position a.messages.now c.if-position-count.true

pub returns-then-messages-count : goal.returns-then-messages-count
returns-then-messages-count c =
    let a = c.args in
    take_short a.count a.position a.messages.now c.if-messages-count.true

pub returns : goal.returns
returns c =
    let a = c.args in
    take_there a.count a.position a.messages.now _ c.copy.new.dst c.if-position-count.false c.if-messages-count.false
    (length-replicate {A = ℕ} record_length 0) (c.copy.ensures.whole (search rules)).1
