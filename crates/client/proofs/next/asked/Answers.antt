use borrow.Author.Tests.{lt-ltb, le-ltb, not-true, not-false}
use Rattle.protocol.specs.Client.{next_tag}
use Rattle.client.specs.inner.Next.{asked_of}
use borrow.Author.Rules.{rules}
use Rattle.client.proofs.next.asked.Goals as goal

pub returns-then-not-writes : goal.returns-then-not-writes
unfolding asked_of next_tag
returns-then-not-writes c = rw (not-true c.args.writes c.if-not-writes.true-raw)

pub number-own-requires : goal.number-own-requires
unfolding asked_of next_tag
number-own-requires c = search rules

pub overflow_add-tag : goal.overflow_add-tag
unfolding asked_of next_tag
overflow_add-tag c = search rules

pub returns-then-best-lt-HIGHEST_NUMBER : goal.returns-then-best-lt-HIGHEST_NUMBER
unfolding asked_of next_tag
returns-then-best-lt-HIGHEST_NUMBER c = rw (not-false c.args.writes c.if-not-writes.false-raw, lt-ltb _ _ c.if-best-lt-HIGHEST_NUMBER.true, c.number-own.ensures)

pub returns : goal.returns
unfolding asked_of next_tag
returns c = rw (not-false c.args.writes c.if-not-writes.false-raw, le-ltb _ _ c.if-best-lt-HIGHEST_NUMBER.false)
