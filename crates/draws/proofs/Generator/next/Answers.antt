-- `draws::Generator::next` meets its contract. Assumes nothing.
use borrow.Author.Rules.{rules}
use Rattle.draws.specs.Draws.{draw}
use Rattle.draws.proofs.Generator.next.Goals as goal

pub returns : goal.returns
unfolding draw
returns c = search rules
