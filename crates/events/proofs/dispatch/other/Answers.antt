use Rattle.events.specs.View.{lent}
use Rattle.events.proofs.dispatch.Laws.{none_such}
use Rattle.events.proofs.dispatch.other.Goals as goal

pub write-requires : goal.write-requires
write-requires c = let pre = c.requires in (record { part = pre.part; long = pre.messages_long }, pre.boards_long)

pub read-requires : goal.read-requires
read-requires c = let pre = c.requires in record { part = pre.part; long = pre.messages_long }

pub returns-in-1 : goal.returns-in-1
returns-in-1 c read stores elements = c.write.ensures read stores elements c.in-1.is

pub returns-in-2 : goal.returns-in-2
returns-in-2 c read stores elements =
    let a = c.args in
    c.read.ensures a.board.now read stores a.boards.now elements c.in-2.is

pub returns-in-4 : goal.returns-in-4
returns-in-4 c read stores elements =
    let a = c.args in
    c.lose.ensures a.cfg a.m a.board.now read stores a.boards.now elements c.in-4.is

pub returns-in-5 : goal.returns-in-5
returns-in-5 c read stores elements =
    let a = c.args in
    c.double.ensures a.cfg a.board.now read stores a.boards.now elements c.in-5.is

pub returns-in-6 : goal.returns-in-6
returns-in-6 c read stores elements =
    let a = c.args in
    c.server.ensures a.m a.board.now read (lent a.messages.now stores a.boards.now elements) c.in-6.is

pub returns-in-7 : goal.returns-in-7
returns-in-7 c read stores elements =
    let a = c.args in
    c.client.ensures a.m a.board.now read (lent a.messages.now stores a.boards.now elements) c.in-7.is

pub returns-in-8 : goal.returns-in-8
returns-in-8 c read stores elements =
    let a = c.args in
    c.server-in-8.ensures a.m a.board.now read (lent a.messages.now stores a.boards.now elements) c.in-8.is

pub returns-in_default : goal.returns-in_default
returns-in_default c read stores elements =
    let k = c.in_default.in_default-own.rest in
    none_such c.refused.ensures k.0.0.0.0.0.0.1 k.0.0.0.0.0.1 c.requires.code k.0.0.0.0.1 k.0.0.0.1 k.0.0.1 k.0.1 k.1
