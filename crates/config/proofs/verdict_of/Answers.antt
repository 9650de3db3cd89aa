-- `config::verdict_of` meets its contract. Assumes nothing.
use native.Mathlib.Omega.{arith}
use Rattle.config.proofs.Refusals.{passing_low}
use Rattle.config.proofs.verdict_of.Goals as goal

pub returns-then-no-eq0 : goal.returns-then-no-eq0
returns-then-no-eq0 c = rw c.if-no-eq0.true

pub returns : goal.returns
returns c =
    let some = c.if-no-eq0.false in
    omega (arith, c.of.ensures, passing_low c.args.no some)
