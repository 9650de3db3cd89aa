use mathlib.Core.Path.{sym, ◌∙◌}
use native.Mathlib.Omega.{arith}
use borrow.Author.Tests.{not-false, not-true}
use Rattle.boards.proofs.Leaving.{leaves_none, leaves_one}
use Rattle.boards.proofs.named.leave.Goals as goal

pub returns-then-not-removes : goal.returns-then-not-removes
returns-then-not-removes c =
    let a = c.args in
    leaves_none a.count a.code a.place a.owners.now (sym c.removes.ensures ∙ not-true _ c.if-not-removes.true-raw)

pub overflow_sub-result : goal.overflow_sub-result
overflow_sub-result c = let s = c in omega (arith, s.requires.there (sym c.removes.ensures ∙ not-false _ c.if-not-removes.false-raw))

pub returns : goal.returns
returns c =
    let s = c in
    leaves_one s.args.count s.args.code s.args.place s.args.owners.now _ s.requires (sym c.removes.ensures ∙ not-false _ c.if-not-removes.false-raw) c.remove.ensures
