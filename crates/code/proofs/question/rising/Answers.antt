-- `code::question::rising` meets its contract: whether the rest rises above `low` is whether all rise.
use mathlib.Core.Path.{sym, ◌∙◌}
use native.Mathlib.Omega.{arith}
use Rattle.code.proofs.Rising.{scan_low, scan_high, scan_on, scan_end}
use Rattle.code.proofs.question.rising.Goals as goal

pub returns-then-s-low : goal.returns-then-s-low
returns-then-s-low c =
    let at = c.loop-server in
    let a = c.args in
    sym (scan_low a.n at.low a.servers.now at.server-index (omega arith) (omega arith)) ∙ at.invariant

pub returns-then-n-s : goal.returns-then-n-s
returns-then-n-s c =
    let at = c.loop-server in
    let a = c.args in
    sym (scan_high a.n at.low a.servers.now at.server-index (omega arith) c.if-n-s.true) ∙ at.invariant

pub loop-server-preserved : goal.loop-server-preserved
loop-server-preserved c =
    let at = c.loop-server in
    let a = c.args in
    sym (scan_on a.n at.low a.servers.now at.server-index (omega arith) (omega arith) (omega arith)) ∙ at.invariant

pub returns : goal.returns
returns c =
    let at = c.loop-server in
    let a = c.args in
    sym (scan_end a.n at.low a.servers.now at.server-index (omega arith)) ∙ at.invariant
