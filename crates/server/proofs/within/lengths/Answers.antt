use Rattle.std.proofs.Common.{arith}
use Rattle.config.proofs.Sizes.{board_small}
use Rattle.server.specs.Within.{lengths_within}
use Rattle.server.proofs.within.lengths.Goals as goal

pub overflow_mul-cfg : goal.overflow_mul-cfg
overflow_mul-cfg c = omega (arith, board_small c.args.cfg c.requires.0)

pub returns : goal.returns
unfolding lengths_within
returns c = c.each_length.ensures
