use native.Mathlib.Omega.{arith}
use Rattle.flight.proofs.Cases.{append_broken, append_full, append_there}
use borrow.Author.Rules.{rules}
use Rattle.flight.proofs.append.Goals as goal

pub returns-then-records-ne0 : goal.returns-then-records-ne0
returns-then-records-ne0 c =
    let a = c.args in
    append_broken a.count a.records.now a.messages.now c.if-records-ne0.true

pub returns-then-most-count : goal.returns-then-most-count
returns-then-most-count c =
    let a = c.args in
    append_full a.count a.records.now a.messages.now (omega (arith, c.if-most-count.true))

pub returns-then-most-count-2 : goal.returns-then-most-count-2
returns-then-most-count-2 c =
    let a = c.args in
    append_full a.count a.records.now a.messages.now (omega (arith, c.if-most-count-2.true, c.if-most-count.false))

pub returns : goal.returns
returns c =
    let a = c.args in
    append_there a.count a.records.now a.messages.now c.copy.new.dst c.if-records-ne0.false
    (omega (arith, c.if-most-count-2.false, c.if-most-count.false)) (c.copy.ensures.whole (search rules)).1
