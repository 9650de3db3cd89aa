-- `code::choice::halved` meets its contract.
use Prim.Native.Nat.{◌/◌}
use borrow.Author.Rules.{rules}
use Rattle.code.specs.inner.Choice.{halved}
use Rattle.code.proofs.Made.{mapped}
use Rattle.code.proofs.choice.halved.Goals as goal

pub returns : goal.returns
unfolding halved
returns c = mapped (λ x. x / 2) c.map.ensures.items (λ p x y q k. search rules)
