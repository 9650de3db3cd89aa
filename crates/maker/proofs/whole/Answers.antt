-- `maker::whole` meets its contract. Assumes nothing.
use Prim.Native.Nat.{◌%◌}
use mathlib.Core.Path.{◌∙◌}
use borrow.Author.Tests.{ne_eqb}
use Rattle.maker.proofs.Six.{not_whole, whole_is}
use Rattle.maker.proofs.whole.Goals as goal

pub returns-then-long-eq0 : goal.returns-then-long-eq0
returns-then-long-eq0 c = whole_is c.args.long c.args.count c.if-long-eq0.true

pub returns-else-long-eq0 : goal.returns-else-long-eq0
returns-else-long-eq0 c =
    let a = c.args in
    ne_eqb (a.long % 7) 0 c.if-long-eq0.false ∙ not_whole a.long a.count c.if-long-eq0.false
