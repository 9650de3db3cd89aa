use mathlib.Core.Path.{◌≡◌, refl, ◌∙◌, ap, subst}
use native.Mathlib.Omega.{arith}
use Rattle.states.specs.Clients.{packed, packed_with, state_of}
use Rattle.states.specs.inner.Clients.{row_at}
use Rattle.states.proofs.Rows.{rows_all, rows_more, rows_none}
use Rattle.states.proofs.clients.Back.{NumbersFit, back}
use Rattle.states.proofs.clients.Packed.{packed_rows, row_wide}
use Rattle.states.proofs.clients.Owned.{fitting, numbers_fit}
use borrow.Author.Rules.{rules}
use Rattle.states.proofs.clients.pack.Goals as goal

pub loop-i-init : goal.loop-i-init
loop-i-init c = rows_none _ 56 _ refl

pub loop-i-preserved : goal.loop-i-preserved
loop-i-preserved c =
    let l = c.loop-i in
    let s = c.args.state in
    let n = c.numbers_of-x.result in
    rows_more (row_at s n) 56 l.i l.out _ _ l.invariant c.row-r.ensures (row_wide s n l.i) (omega arith) (c.copy.ensures.whole (search rules)).1

pub returns : goal.returns
returns c =
    let l = c.loop-i in
    let s = c in
    let x = s.args.state in
    let n = c.numbers_of-x in
    let bytes : l.out ≡ packed x =
    rows_all (row_at x n.result) 7 l.i l.out l.invariant (omega arith) ∙ packed_rows x n.result ∙ ap (packed_with x) n.ensures in
    record { bytes = bytes; back = ap state_of bytes ∙ back x (fitting x _ s.well_formed.0) (subst NumbersFit n.ensures (numbers_fit n.result _ n.type_inv)) }
