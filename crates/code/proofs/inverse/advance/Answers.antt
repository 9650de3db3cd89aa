-- `code::inverse::advance` meets its contract.
use borrow.Author.Rules.{rules}
use lib.ListN.{get_or}
use Rattle.field.specs.Field.{plus, times}
use Rattle.code.specs.inner.Lanes.{advanced}
use Rattle.code.proofs.Made.{made}
use Rattle.code.proofs.inverse.advance.Goals as goal

pub returns : goal.returns
unfolding advanced
returns c =
    let a = c.args in
    made (λ t. plus (get_or a.c t 0) (times (get_or a.s t 0) (get_or a.x t 0))) c.from_fn.ensures.items (λ i y q k. search rules)
