use mathlib.Core.Path.{refl}
use native.Mathlib.Omega.{arith}
use Rattle.config.proofs.Rooms.{boards_high, boards_low, room_is}
use Rattle.boards.specs.View.{lent}
use Rattle.boards.proofs.Codes.{no_code}
use Rattle.boards.proofs.Entering.{accepted, code_zero, early_refused, long_yes, named_pre, rig_yes, unknown}
use Rattle.boards.proofs.OnEveryBoard.{every_event}
use Rattle.boards.proofs.event.Goals as goal

pub returns-in-Err : goal.returns-in-Err
returns-in-Err c =
    let a = c.args in
    let l = lent a.messages.now a.owners.now a.stores.now a.boards.now a.elements.now in
    early_refused a.cfg a.room a.rig a.call a.board.now a.read.now l _ c.in-Err.ensures c.unturned.ensures

pub returns-then-call-lt1 : goal.returns-then-call-lt1
returns-then-call-lt1 c =
    let a = c.args in
    let l = lent a.messages.now a.owners.now a.stores.now a.boards.now a.elements.now in
    unknown a.cfg a.room a.rig a.call a.board.now a.read.now l c.in_default.ensures refl (code_zero a.call.code c.if-call-lt1.true) c.unturned-then-call-lt1.ensures

pub returns-then-call-gt8 : goal.returns-then-call-gt8
returns-then-call-gt8 c =
    let a = c.args in
    let l = lent a.messages.now a.owners.now a.stores.now a.boards.now a.elements.now in
    unknown a.cfg a.room a.rig a.call a.board.now a.read.now l c.in_default.ensures refl (no_code a.call.code c.if-call-gt8.true) c.unturned-then-call-gt8.ensures

pub all-requires : goal.all-requires
all-requires c =
    let a = c.args in
    let l = lent a.messages.now a.owners.now a.stores.now a.boards.now a.elements.now in
    let taken = room_is a.cfg a.room (accepted a.cfg a.room a.rig a.call a.board.now a.read.now l c.in_default.ensures refl) in
    (boards_low a.room taken, boards_high a.room taken, c.if-call-gt5.true, omega (arith, c.if-call-gt8.false))

pub returns-then-call-gt5 : goal.returns-then-call-gt5
returns-then-call-gt5 c =
    let a = c.args in
    let l = lent a.messages.now a.owners.now a.stores.now a.boards.now a.elements.now in
    let asked = c.in_default.ensures in
    let none = refl in
    every_event a.cfg a.room a.rig a.call a.board.now a.read.now l _
    (accepted a.cfg a.room a.rig a.call a.board.now a.read.now l asked none)
    (long_yes a.cfg a.room a.rig a.call a.board.now a.read.now l asked none)
    (rig_yes a.cfg a.room a.rig a.call a.board.now a.read.now l asked none)
    c.if-call-gt5.true (omega (arith, c.if-call-gt8.false))
    c.all.ensures

pub event-requires : goal.event-requires
event-requires c =
    let a = c.args in
    let l = lent a.messages.now a.owners.now a.stores.now a.boards.now a.elements.now in
    named_pre a.cfg a.room a.rig a.call a.board.now a.read.now l c.in_default.ensures refl (omega (arith, c.if-call-lt1.false)) (omega (arith, c.if-call-gt5.false))

pub returns : goal.returns
returns c = c.event.ensures
