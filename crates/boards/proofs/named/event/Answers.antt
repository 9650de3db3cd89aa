use Prim.Native.Nat.{◌-◌, ◌<◌}
use lib.ListN.{length}
use native.Mathlib.Omega.{arith}
use mathlib.Core.Path.{◌∙◌}
use Rattle.config.proofs.Questions.{within_low}
use Rattle.config.proofs.Rooms.{room_is, room_most}
use Rattle.boards.specs.View.{lent}
use Rattle.boards.proofs.NamedCode.{event_done, lend_pre, place_low, settles}
use Rattle.boards.proofs.OneOf.{read_at}
use Rattle.boards.proofs.Owned.{board_places}
use Rattle.boards.proofs.named.event.Goals as goal

pub overflow_sub-i : goal.overflow_sub-i
overflow_sub-i c = let s = c in omega (arith, within_low 1 s.args.room.boards s.args.call.board s.requires.exists)

pub limit-most-requires : goal.limit-most-requires
limit-most-requires c =
    let s = c in
    (room_is s.args.cfg s.args.room s.requires.accepted, (room_most s.args.cfg s.args.room s.requires.accepted).1)

pub offset_bounds-rig-i : goal.offset_bounds-rig-i
offset_bounds-rig-i c =
    let s = c in
    let a = s.args in
    omega (arith, place_low a.cfg a.room a.rig a.call a.board.now a.read.now (lent a.messages.now a.owners.now a.stores.now a.boards.now a.elements.now) s.requires)

pub bounds-rig-i : goal.bounds-rig-i
bounds-rig-i c =
    let s = c in
    let a = s.args in
    place_low a.cfg a.room a.rig a.call a.board.now a.read.now (lent a.messages.now a.owners.now a.stores.now a.boards.now a.elements.now) s.requires

pub lend-turn-requires : goal.lend-turn-requires
lend-turn-requires c =
    let s = c in
    let a = s.args in
    let low : a.call.board - 1 < length a.rig.boards = omega (arith, place_low a.cfg a.room a.rig a.call a.board.now a.read.now (lent a.messages.now a.owners.now a.stores.now a.boards.now a.elements.now) s.requires, board_places a.rig _ s.well_formed.1.1.0) in
    lend_pre a.cfg a.room a.rig a.call a.board.now a.read.now (lent a.messages.now a.owners.now a.stores.now a.boards.now a.elements.now) s.requires
    (record { place = c.place_of-place.ensures; limits = c.limit-most.ensures; mosts = c.at_least_one.ensures; counts = c.in_flight-count.ensures; rig = c.one.ensures ∙ read_at a.rig _ _ _ low })

pub settle-requires : goal.settle-requires
settle-requires c =
    let s = c in
    let a = s.args in
    let low : a.call.board - 1 < length a.rig.boards = omega (arith, place_low a.cfg a.room a.rig a.call a.board.now a.read.now (lent a.messages.now a.owners.now a.stores.now a.boards.now a.elements.now) s.requires, board_places a.rig _ s.well_formed.1.1.0) in
    settles a.cfg a.room a.rig a.call a.board.now a.read.now (lent a.messages.now a.owners.now a.stores.now a.boards.now a.elements.now) s.requires
    (record { place = c.place_of-place.ensures; limits = c.limit-most.ensures; mosts = c.at_least_one.ensures; counts = c.in_flight-count.ensures; rig = c.one.ensures ∙ read_at a.rig _ _ _ low })
    c.lend-turn.ensures

pub returns : goal.returns
returns c =
    let s = c in
    let a = s.args in
    let low : a.call.board - 1 < length a.rig.boards = omega (arith, place_low a.cfg a.room a.rig a.call a.board.now a.read.now (lent a.messages.now a.owners.now a.stores.now a.boards.now a.elements.now) s.requires, board_places a.rig _ s.well_formed.1.1.0) in
    event_done a.cfg a.room a.rig a.call a.board.now a.read.now (lent a.messages.now a.owners.now a.stores.now a.boards.now a.elements.now) s.requires
    (record { place = c.place_of-place.ensures; limits = c.limit-most.ensures; mosts = c.at_least_one.ensures; counts = c.in_flight-count.ensures; rig = c.one.ensures ∙ read_at a.rig _ _ _ low })
    c.lend-turn.ensures c.settle.ensures (board_places a.rig _ s.well_formed.1.1.0)
