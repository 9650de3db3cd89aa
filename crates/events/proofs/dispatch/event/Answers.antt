use Rattle.events.proofs.dispatch.event.Goals as goal

pub hand_over-requires : goal.hand_over-requires
hand_over-requires c = c.requires

pub returns-then-call-eq3 : goal.returns-then-call-eq3
returns-then-call-eq3 c = c.hand_over.ensures c.args.board.now c.if-call-eq3.true

pub other-requires : goal.other-requires
other-requires c =
    let pre = c.requires in
    record { part = pre.part; messages_long = pre.messages; boards_long = pre.boards; code = c.if-call-eq3.false }

pub returns : goal.returns
returns c =
    let a = c.args in
    c.other.ensures a.read.now a.stores.now a.elements.now
