-- `code::question::joined` meets its contract.
use Rattle.code.proofs.Counted.{other_quotient, same_quotient}
use Rattle.code.proofs.question.joined.Goals as goal

pub returns-then-total-e : goal.returns-then-total-e
returns-then-total-e c = let a = c.args in other_quotient a.count a.e a.total c.requires.0 c.if-total-e.true

pub returns : goal.returns
returns c = let a = c.args in same_quotient a.count a.e a.total c.if-total-e.false
