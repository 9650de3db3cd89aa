-- `code::inverse::multiply` meets its contract.
use borrow.Author.Rules.{rules}
use lib.ListN.{get_or}
use Rattle.field.specs.Field.{times}
use Rattle.code.specs.inner.Lanes.{scaled_lanes}
use Rattle.code.proofs.Made.{made}
use Rattle.code.proofs.inverse.multiply.Goals as goal

pub returns : goal.returns
unfolding scaled_lanes
returns c =
    let a = c.args in
    made (λ t. times (get_or a.d t 0) (get_or a.x t 0)) c.from_fn.ensures.items (λ i y q k. search rules)
