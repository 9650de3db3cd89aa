use Prim.Native.Nat.{◌+◌, ◌*◌}
use native.Mathlib.Omega.{arith}
use Rattle.events.proofs.named.Laws.{by_none, by_party, by_record, by_short}
use Rattle.events.proofs.named.number.Goals as goal

pub returns-then-call-ne3 : goal.returns-then-call-ne3
returns-then-call-ne3 c =
    let a = c.args in
    by_party a.count a.call.code a.call.party a.call.position a.offset a.messages.now c.if-call-ne3.true

pub returns-then-count-position : goal.returns-then-count-position
returns-then-count-position c =
    let a = c.args in
    by_none a.count a.call.code a.call.party a.call.position a.offset a.messages.now c.if-call-ne3.false c.if-count-position.true

pub returns-then-messages-count : goal.returns-then-messages-count
returns-then-messages-count c =
    let a = c.args in
    by_short a.count a.call.code a.call.party a.call.position a.offset a.messages.now c.if-call-ne3.false c.if-count-position.false
    (omega (arith, c.if-messages-count.true))

pub overflow_cast-result-2 : goal.overflow_cast-result-2
overflow_cast-result-2 c =
    let a = c.args in
    omega (arith, c.shared_slice_known-1.given (80 * a.call.position + a.offset))

pub returns : goal.returns
returns c =
    let a = c.args in
    by_record a.count a.call.code a.call.party a.call.position a.offset a.messages.now c.if-call-ne3.false c.if-count-position.false
    (omega (arith, c.if-messages-count.false))
