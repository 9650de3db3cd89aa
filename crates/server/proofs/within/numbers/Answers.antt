use Rattle.std.proofs.Common.{sym}
use Rattle.server.proofs.within.numbers.Goals as goal

pub returns-then-quick : goal.returns-then-quick
returns-then-quick c = sym (c.quick.ensures c.if-quick.true)
