-- `code::choice::column` meets its contract.
use borrow.Author.Rules.{rules}
use Rattle.code.specs.inner.Choice.{column, square_of}
use Rattle.code.proofs.Made.{made}
use Rattle.code.proofs.choice.column.Goals as goal

pub returns : goal.returns
unfolding column
returns c =
    let a = c.args in
    made (λ t. square_of a.square.now t a.r) c.from_fn.ensures.items (λ i y q k. search rules)
