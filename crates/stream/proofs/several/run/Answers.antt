-- `stream::several::run` is safe and ends. Assumes nothing.
use Rattle.std.proofs.Common.{sym, subst, arith, length-take-le}
use Rattle.boards.proofs.Bounds.{Small, lengths_small}
use Rattle.stream.proofs.several.run.Goals as goal
use Rattle.stream.proofs.several.run.Goals.{After-lengths-long}

-- none is longer than its buffer
small : (c : After-lengths-long) → Small c.lengths-long.result
small c = let a = c.args in subst Small (sym c.lengths-long.ensures) (lengths_small a.cfg a.room)

pub slice_bounds-messages-end : goal.slice_bounds-messages-end
slice_bounds-messages-end c = omega (arith, (small (goal.at.slice_bounds-messages-end c).After-lengths-long).messages, c.large_buffer-messages.ensures)

pub slice_bounds-begin-end : goal.slice_bounds-begin-end
slice_bounds-begin-end c =
    let n = c in
    let r = c.large_buffer-messages in
    sym (length-take-le n.lengths-long.result.messages r.result (omega (arith, r.ensures, (small (goal.at.slice_bounds-begin-end c).After-lengths-long).messages)))

pub slice_bounds-owners-end : goal.slice_bounds-owners-end
slice_bounds-owners-end c = (small (goal.at.slice_bounds-owners-end c).After-lengths-long).owners

pub slice_bounds-begin-end-2 : goal.slice_bounds-begin-end-2
slice_bounds-begin-end-2 c = let n = c in sym (length-take-le n.lengths-long.result.owners _ (small (goal.at.slice_bounds-begin-end-2 c).After-lengths-long).owners)

pub slice_bounds-stores-end : goal.slice_bounds-stores-end
slice_bounds-stores-end c = omega (arith, (small (goal.at.slice_bounds-stores-end c).After-lengths-long).stores, c.large_buffer-stores.ensures)

pub slice_bounds-begin-end-3 : goal.slice_bounds-begin-end-3
slice_bounds-begin-end-3 c =
    let n = c in
    let r = c.large_buffer-stores in
    sym (length-take-le n.lengths-long.result.stores r.result (omega (arith, r.ensures, (small (goal.at.slice_bounds-begin-end-3 c).After-lengths-long).stores)))

pub slice_bounds-boards-end : goal.slice_bounds-boards-end
slice_bounds-boards-end c = (small (goal.at.slice_bounds-boards-end c).After-lengths-long).boards

pub slice_bounds-begin-end-4 : goal.slice_bounds-begin-end-4
slice_bounds-begin-end-4 c = let n = c in sym (length-take-le n.lengths-long.result.boards _ (small (goal.at.slice_bounds-begin-end-4 c).After-lengths-long).boards)

pub slice_bounds-elements-end : goal.slice_bounds-elements-end
slice_bounds-elements-end c = (small (goal.at.slice_bounds-elements-end c).After-lengths-long).elements

pub slice_bounds-begin-end-5 : goal.slice_bounds-begin-end-5
slice_bounds-begin-end-5 c = let n = c in sym (length-take-le n.lengths-long.result.elements _ (small (goal.at.slice_bounds-begin-end-5 c).After-lengths-long).elements)
