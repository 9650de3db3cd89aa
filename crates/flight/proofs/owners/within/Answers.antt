use borrow.Author.Rules.{rules}
use Rattle.flight.proofs.Scans.{all_told}
use Rattle.flight.proofs.owners.within.Goals as goal

pub returns : goal.returns
returns c = all_told _ _ _ (search rules) (search rules)
