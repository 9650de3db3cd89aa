use mathlib.Core.Path.{◌≡◌, sym, ◌∙◌}
use Prim.Native.Nat.{◌-◌}
use native.Mathlib.Omega.{arith}
use borrow.Author.Rules.{rules}
use borrow.Author.Tests.{not-false, not-true}
use lib.ListN.{length, get_or-eq_default}
use Rattle.config.specs.Config.{rank}
use Rattle.config.proofs.Questions.{within_low}
use Rattle.config.proofs.Config.rank.Goals as goal

pub returns-then-not-within : goal.returns-then-not-within
unfolding rank
returns-then-not-within c = rw (sym c.within.ensures ∙ not-true _ c.if-not-within.true-raw)

pub returns-then-client-gt-MOST_CLIENTS : goal.returns-then-client-gt-MOST_CLIENTS
unfolding rank
returns-then-client-gt-MOST_CLIENTS c =
    let s = c in
    let long : length s.args.self.ranks ≡ 16 = search rules in
    rw (sym c.within.ensures ∙ not-false _ c.if-not-within.false-raw)
    (sym (get_or-eq_default s.args.self.ranks 0 {n = s.args.c - 1} (omega (arith, long, c.if-client-gt-MOST_CLIENTS.true))))

pub overflow_sub-result : goal.overflow_sub-result
overflow_sub-result c =
    let a = c.args in
    within_low 1 a.self.c a.c (sym c.within.ensures ∙ not-false _ c.if-not-within.false-raw)

pub returns : goal.returns
unfolding rank
returns c = rw (sym c.within.ensures ∙ not-false _ c.if-not-within.false-raw)
