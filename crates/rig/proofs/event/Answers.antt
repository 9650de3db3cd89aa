use mathlib.Core.Path.{sym}
use native.Mathlib.Omega.{arith}
use Rattle.events.specs.View.{lent}
use Rattle.events.proofs.Entry.{passed_valid, rig_refused}
use Rattle.rig.proofs.Entry.{rig_turned}
use Rattle.events.proofs.Inside.{named_inside}
use Rattle.rig.proofs.event.Goals as goal

pub returns-in-Err : goal.returns-in-Err
returns-in-Err c =
    let a = c.args in
    let l = lent a.messages.now a.stores.now a.boards.now a.elements.now in
    rig_refused a.cfg a.m a.rig a.call a.board.now a.read.now l _ c.in-Err.ensures c.unturned.ensures

pub part_of-part-requires : goal.part_of-part-requires
part_of-part-requires c =
    let a = c.args in
    let l = lent a.messages.now a.stores.now a.boards.now a.elements.now in
    named_inside (passed_valid a.cfg a.m a.rig a.call a.board.now a.read.now l (sym c.in_default.ensures)) a.rig.count a.call a.messages.now c.names-places.ensures

pub turned-requires : goal.turned-requires
turned-requires c =
    let a = c.args in
    let l = lent a.messages.now a.stores.now a.boards.now a.elements.now in
    let low = named_inside (passed_valid a.cfg a.m a.rig a.call a.board.now a.read.now l (sym c.in_default.ensures)) a.rig.count a.call a.messages.now c.names-places.ensures in
    let at = c.part_of-part.ensures in
    let stays = c.changes-change.ensures in
    (omega (arith, low.0, at.server, stays.server), omega (arith, low.1, at.client, stays.client))

pub returns : goal.returns
returns c =
    let a = c.args in
    let l = lent a.messages.now a.stores.now a.boards.now a.elements.now in
    let passed = sym c.in_default.ensures in
    rig_turned a.cfg a.m a.rig a.call a.board.now a.read.now l passed c.names-places.ensures c.part_of-part.ensures c.changes-change.ensures c.turned.ensures
