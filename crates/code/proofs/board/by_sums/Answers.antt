-- `code::board::by_sums` meets its contract.
use mathlib.Core.Path.{◌∙◌}
use lib.ListN.{length}
use Rattle.laws.specs.Bytes.{Bytes}
use Rattle.code.specs.inner.Choice.{square_of}
use Rattle.code.proofs.CombinedRows.{rows_combined}
use Rattle.code.proofs.board.by_sums.Goals as goal

pub returns : goal.returns
returns c =
    let a = c.args in
    let h = c.requires in
    let bytes : Bytes a.elements.now = λ i. (c.shared_slice_known-1.given i).fits in
    c.all.ensures (square_of a.inverse.now) c.of-choices.ensures.chosen h.bytes
    ∙ rows_combined a.cfg a.inverse.now a.elements.now (length a.buffer.now) h bytes a.buffer.now h.buffer_length
