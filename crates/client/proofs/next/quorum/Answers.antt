use mathlib.Core.Path.{sym, ◌∙◌, ap₂}
use lib.Dec.{leb}
use Rattle.protocol.specs.Client.{enough}
use Rattle.client.proofs.Sets.{size_ones}
use borrow.Author.Rules.{rules}
use Rattle.client.proofs.next.quorum.Goals as goal

pub quorum-requires : goal.quorum-requires
unfolding enough
quorum-requires c = search rules

pub size-requires : goal.size-requires
unfolding enough
size-requires c = search rules

pub overflow_cast-result : goal.overflow_cast-result
unfolding enough
overflow_cast-result c = search rules

pub returns : goal.returns
unfolding enough
returns c = ap₂ leb c.quorum.ensures (c.size.ensures ∙ sym (size_ones _ _ c.requires))
