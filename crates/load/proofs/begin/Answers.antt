-- `load::begin` is safe and ends. Assumes nothing.
use mathlib.Core.Path.{refl}
use native.Mathlib.Omega.{arith}
use Rattle.maker.proofs.Answers.{lends}
use Rattle.maker.proofs.Made.{begins}
use Rattle.load.proofs.begin.Goals as goal

pub blocks-requires : goal.blocks-requires
blocks-requires c = (begins c.begin-begun.ensures (lends _ refl refl refl refl), omega (arith, c.large_buffer-out.ensures))
