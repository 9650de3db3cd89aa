-- `code::combine::empty` meets its contract.
use mathlib.Core.Path.{◌∙◌}
use native.Mathlib.Omega.{arith}
use lib.ListN.{get_or, take}
use lib.Seq.{get_or-take, length-take-le}
use Rattle.laws.proofs.Bytes.{tabulate_cong}
use Rattle.code.specs.inner.Combine.{empty}
use Rattle.code.proofs.Filled.{itself}
use Rattle.code.proofs.combine.empty.Goals as goal

pub returns : goal.returns
unfolding empty
returns c =
    let table = c.args.table.now in
    c.copy_from_slice.ensures.after
    ∙ itself (take 64 table) 64 (length-take-le 64 table (omega arith))
    ∙ tabulate_cong 64 (λ i. get_or (take 64 table) i 0) (λ i. get_or table i 0) (λ i h. get_or-take 64 table i 0 h)
