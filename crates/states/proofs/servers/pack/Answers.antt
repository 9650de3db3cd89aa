use mathlib.Core.Path.{◌≡◌, refl, ◌∙◌, ap}
use native.Mathlib.Omega.{arith}
use Rattle.states.specs.Servers.{packed, state_of}
use Rattle.states.specs.inner.Servers.{row_at}
use Rattle.states.proofs.Rows.{rows_all, rows_more, rows_none}
use Rattle.states.proofs.servers.Back.{back}
use Rattle.states.proofs.servers.Packed.{packed_rows, row_wide}
use Rattle.states.proofs.servers.Owned.{fitting}
use borrow.Author.Rules.{rules}
use Rattle.states.proofs.servers.pack.Goals as goal

pub loop-i-init : goal.loop-i-init
loop-i-init c = rows_none _ 88 _ refl

pub loop-i-preserved : goal.loop-i-preserved
loop-i-preserved c =
    let l = c.loop-i in
    let s = c.args.state in
    rows_more (row_at s) 88 l.i l.out _ _ l.invariant c.row-r.ensures (row_wide s l.i) (omega arith) (c.copy.ensures.whole (search rules)).1

pub returns : goal.returns
returns c =
    let l = c.loop-i in
    let s = c.args.state in
    let bytes : l.out ≡ packed s = rows_all (row_at s) 11 l.i l.out l.invariant (omega arith) ∙ packed_rows s in
    record { bytes = bytes; back = ap state_of bytes ∙ back s (fitting s _ c.well_formed.0) }
