use mathlib.Core.Path.{◌∙◌}
use native.Mathlib.Omega.{arith}
use borrow.Author.Tests.{le-leb, lt-leb}
use Rattle.config.specs.Config.{board_length}
use Rattle.config.proofs.Sizes.{board_small}
use Rattle.events.proofs.begin.Laws.{write-fits, write_long}
use Rattle.events.proofs.begin.write_asked.Goals as goal

pub overflow_mul-cfg : goal.overflow_mul-cfg
overflow_mul-cfg c = omega (arith, board_small c.args.cfg c.requires.0)

pub returns-then-cfg-call : goal.returns-then-cfg-call
returns-then-cfg-call c = let a = c.args in write_long a.cfg a.m a.part a.call (lt-leb a.call.length (board_length a.cfg) c.if-cfg-call.true)

pub asked-requires : goal.asked-requires
asked-requires c = c.requires

pub returns : goal.returns
returns c = let a = c.args in c.asked.ensures ∙ write-fits a.cfg a.m a.part a.call (le-leb a.call.length (board_length a.cfg) c.if-cfg-call.false)
