-- `code::combine::one` meets its contract.
use lib.ListN.{length}
use Rattle.code.proofs.Combining.{combined_one}
use Rattle.code.proofs.combine.one.Goals as goal

pub returns : goal.returns
returns c =
    let a = c.args in
    let h = c.requires in
    let row = c.upper-row in
    combined_one a.k a.t a.choices.now a.table.now h.0 h.1 row.result row.ensures (length a.part.now) h.2 _
    c.last.ensures
