use native.Mathlib.Omega.{arith}
use Rattle.config.proofs.Sizes.{board_small}
use Rattle.record.proofs.rules.length_fits.Goals as goal

pub overflow_mul-result : goal.overflow_mul-result
overflow_mul-result c = omega (arith, board_small c.args.cfg c.requires)

pub returns-then-present : goal.returns-then-present
returns-then-present c = rw c.if-present.true

pub returns : goal.returns
returns c = rw c.if-present.false
