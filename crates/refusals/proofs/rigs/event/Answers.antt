-- `refusals::rigs::event` is safe and ends: no buffer is lent longer than it is. Assumes nothing.
use mathlib.Core.Path.{sym}
use native.Mathlib.Omega.{arith}
use lib.Seq.{length-take-le}
use Rattle.refusals.proofs.Owned.{boards_long, elements_long, messages_long, read_long, stores_long}
use Rattle.refusals.proofs.rigs.event.Goals as goal

pub slice_bounds-event-end : goal.slice_bounds-event-end
slice_bounds-event-end c = sym (length-take-le _ _ c.requires.0)

pub slice_bounds-read-end : goal.slice_bounds-read-end
slice_bounds-read-end c =
    let s = c in
    omega (arith, read_long s.args.lent _ s.well_formed.1.0, s.requires.1)

pub slice_bounds-event-end-2 : goal.slice_bounds-event-end-2
slice_bounds-event-end-2 c =
    let s = c in
    sym (length-take-le _ _ (omega (arith, read_long s.args.lent _ s.well_formed.1.0, s.requires.1)))

pub slice_bounds-messages-end : goal.slice_bounds-messages-end
slice_bounds-messages-end c =
    let s = c in
    omega (arith, messages_long s.args.lent _ s.well_formed.1.0, s.requires.2)

pub slice_bounds-event-end-3 : goal.slice_bounds-event-end-3
slice_bounds-event-end-3 c =
    let s = c in
    sym (length-take-le _ _ (omega (arith, messages_long s.args.lent _ s.well_formed.1.0, s.requires.2)))

pub slice_bounds-stores-end : goal.slice_bounds-stores-end
slice_bounds-stores-end c =
    let s = c in
    omega (arith, stores_long s.args.lent _ s.well_formed.1.0, s.requires.3)

pub slice_bounds-event-end-4 : goal.slice_bounds-event-end-4
slice_bounds-event-end-4 c =
    let s = c in
    sym (length-take-le _ _ (omega (arith, stores_long s.args.lent _ s.well_formed.1.0, s.requires.3)))

pub slice_bounds-boards-end : goal.slice_bounds-boards-end
slice_bounds-boards-end c =
    let s = c in
    omega (arith, boards_long s.args.lent _ s.well_formed.1.0, s.requires.4)

pub slice_bounds-event-end-5 : goal.slice_bounds-event-end-5
slice_bounds-event-end-5 c =
    let s = c in
    sym (length-take-le _ _ (omega (arith, boards_long s.args.lent _ s.well_formed.1.0, s.requires.4)))

pub slice_bounds-elements-end : goal.slice_bounds-elements-end
slice_bounds-elements-end c =
    let s = c in
    omega (arith, elements_long s.args.lent _ s.well_formed.1.0, s.requires.5)

pub slice_bounds-event-end-6 : goal.slice_bounds-event-end-6
slice_bounds-event-end-6 c =
    let s = c in
    sym (length-take-le _ _ (omega (arith, elements_long s.args.lent _ s.well_formed.1.0, s.requires.5)))
