use mathlib.Core.Path.{sym}
use native.Mathlib.Omega.{arith}
use Rattle.boards.proofs.crash_or_restart.which.Goals as goal

pub returns-in-6 : goal.returns-in-6
returns-in-6 c = sym c.in-6.is

pub returns-in-7 : goal.returns-in-7
returns-in-7 c = sym c.in-7.is

pub returns-in_default : goal.returns-in_default
returns-in_default c =
    let pre = c.requires in
    omega (arith, pre.0, pre.1, c.in_default.in_default-own.rest.0.1, c.in_default.in_default-own.rest.1)
