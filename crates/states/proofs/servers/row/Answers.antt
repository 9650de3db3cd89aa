use mathlib.Core.Path.{◌≡◌, ap, ◌∙◌}
use Prim.Native.Nat.{suc, ◌-◌}
use native.Mathlib.Omega.{arith}
use Rattle.states.specs.inner.Servers.{row_at}
use Rattle.states.proofs.servers.row.Goals as goal

pub returns-then-i-eq0 : goal.returns-then-i-eq0
unfolding row_at
returns-then-i-eq0 c = rw c.if-i-eq0.true c.head.ensures

pub returns-then-i-eq1 : goal.returns-then-i-eq1
unfolding row_at
returns-then-i-eq1 c = rw c.if-i-eq1.true c.tag_row.ensures

pub returns-then-i-eq2 : goal.returns-then-i-eq2
unfolding row_at
returns-then-i-eq2 c = rw c.if-i-eq2.true c.floor_row.ensures

pub returns : goal.returns
unfolding row_at
returns c =
    let a = c.args in
    let e : suc (suc (suc (a.i - 3))) ≡ a.i = omega arith in
    c.stored_row.ensures ∙ ap (row_at a.state) e
