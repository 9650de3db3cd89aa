use mathlib.Core.Path.{sym, ◌∙◌}
use Rattle.boards.proofs.Leaving.{leave_pre, settled, settled_refused}
use Rattle.boards.proofs.named.settle.Goals as goal

pub returns-then-is_refusal : goal.returns-then-is_refusal
returns-then-is_refusal c =
    let a = c.args in
    settled_refused a.rig a.i a.call a.place a.turn a.owners.now (sym c.is_refusal.ensures ∙ c.if-is_refusal.true)

pub leave-left-requires : goal.leave-left-requires
leave-left-requires c =
    let s = c in
    let a = s.args in
    leave_pre a.rig a.i a.call a.place a.turn a.owners.now s.requires.1 (sym c.is_refusal.ensures ∙ c.if-is_refusal.false)

pub put-requires : goal.put-requires
put-requires c = c.requires.0

pub returns : goal.returns
returns c =
    let s = c in
    let a = s.args in
    settled a.rig a.i a.call a.place a.turn a.owners.now s.requires.1 (sym c.is_refusal.ensures ∙ c.if-is_refusal.false)
    c.leave-left.ensures c.fill.ensures c.put.ensures
