-- `code::choice::of` meets its contract: the choices of the groups before g stand.
use mathlib.Core.Path.{◌≡◌}
use lib.ListN.{length}
use Rattle.code.specs.inner.Choice.{square_of}
use Rattle.code.proofs.ChoiceLaws.{Chosen}
use Rattle.code.proofs.choice.of.Given as goal

abbrev pub invariant-loop-g : goal.invariant-loop-g
invariant-loop-g l = (length l.choices ≡ 512) × Chosen (square_of l.square) l.g l.choices
