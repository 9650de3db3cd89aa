-- `code::combine::add` meets its contract.
use Prim.Native.Nat.{◌+◌, ◌*◌}
use borrow.Author.Rules.{rules}
use lib.ListN.{get_or}
use Rattle.field.specs.Field.{plus}
use Rattle.code.specs.inner.Combine.{added}
use Rattle.code.proofs.Made.{made}
use Rattle.code.proofs.combine.add.Goals as goal

pub returns : goal.returns
unfolding added
returns c =
    let a = c.args in
    made (λ j. plus (get_or a.row j 0) (plus (get_or a.table.now (2048 + 64 * a.v + j) 0) (get_or a.table.now (3072 + 64 * a.w + j) 0)))
    c.from_fn.ensures.items (λ i y q k. search rules)
