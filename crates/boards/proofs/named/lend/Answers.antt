use mathlib.Core.Path.{sym}
use native.Mathlib.Omega.{arith}
use lib.Seq.{length-take-le}
use Rattle.events.specs.View.{lent}
use Rattle.boards.proofs.Lending.{bounds, lent_done}
use Rattle.boards.proofs.named.lend.Goals as goal

pub overflow_mul-end : goal.overflow_mul-end
overflow_mul-end c = omega (arith, (bounds c.requires).few)

pub overflow_add-store : goal.overflow_add-store
overflow_add-store c = omega (arith, (bounds c.requires).depth)

pub overflow_mul-store : goal.overflow_mul-store
overflow_mul-store c = omega (arith, (bounds c.requires).store)

pub overflow_mul-store-2 : goal.overflow_mul-store-2
overflow_mul-store-2 c = omega (arith, (bounds c.requires).stores)

pub overflow_mul-from_store : goal.overflow_mul-from_store
overflow_mul-from_store c = omega (arith, (bounds c.requires).stores_from)

pub overflow_add-to_store : goal.overflow_add-to_store
overflow_add-to_store c = let b = bounds c.requires in omega (arith, b.stores_from, b.stores)

pub overflow_mul-kept : goal.overflow_mul-kept
overflow_mul-kept c = omega (arith, (bounds c.requires).board)

pub overflow_mul-kept-2 : goal.overflow_mul-kept-2
overflow_mul-kept-2 c = omega (arith, (bounds c.requires).boards)

pub overflow_mul-from_kept : goal.overflow_mul-from_kept
overflow_mul-from_kept c = omega (arith, (bounds c.requires).boards_from)

pub overflow_add-to_kept : goal.overflow_add-to_kept
overflow_add-to_kept c = let b = bounds c.requires in omega (arith, b.boards_from, b.boards)

pub overflow_mul-received : goal.overflow_mul-received
overflow_mul-received c = omega (arith, (bounds c.requires).received)

pub overflow_mul-received-2 : goal.overflow_mul-received-2
overflow_mul-received-2 c = omega (arith, (bounds c.requires).elements)

pub overflow_mul-from_received : goal.overflow_mul-from_received
overflow_mul-from_received c = omega (arith, (bounds c.requires).elements_from)

pub overflow_add-to_received : goal.overflow_add-to_received
overflow_add-to_received c = let b = bounds c.requires in omega (arith, b.elements_from, b.elements)

pub slice_bounds-event-end-2 : goal.slice_bounds-event-end-2
slice_bounds-event-end-2 c = let s = c in sym (length-take-le _ s.args.messages.now (bounds s.requires).messages)

pub slice_bounds-event-end-3 : goal.slice_bounds-event-end-3
slice_bounds-event-end-3 c = omega (arith, (bounds c.requires).stores_fit)

pub slice_bounds-event-end-4 : goal.slice_bounds-event-end-4
slice_bounds-event-end-4 c = omega (arith, (bounds c.requires).boards_fit)

pub slice_bounds-event-end-5 : goal.slice_bounds-event-end-5
slice_bounds-event-end-5 c = omega (arith, (bounds c.requires).elements_fit)

pub returns : goal.returns
returns c =
    let a = c.args in
    lent_done a.cfg a.most a.i a.one a.call a.board.now a.read.now (lent a.messages.now a.stores.now a.boards.now a.elements.now) _ c.event.ensures
