use Prim.Native.Nat.{◌-◌, ◌*◌}
use mathlib.Core.Path.{◌≡◌, sym, ap, ◌∙◌}
use native.Mathlib.Omega.{arith}
use lib.ListN.{take}
use Rattle.events.proofs.deliver.Laws.{settle_done, settle_held}
use Rattle.events.proofs.deliver.settle.Goals as goal

pub returns-then-is_refusal : goal.returns-then-is_refusal
returns-then-is_refusal c =
    let a = c.args in
    settle_held a.part a.position a.acted a.sends.now a.messages.now c.acted.result
    (sym c.is_refusal.ensures ∙ c.if-is_refusal.true) c.acted.ensures

pub overflow_mul-end : goal.overflow_mul-end
overflow_mul-end c = let s = c in omega (arith, s.requires)

pub slice_bounds-append-end : goal.slice_bounds-append-end
slice_bounds-append-end c = let s = c in omega (arith, s.requires)

pub returns : goal.returns
returns c =
    let s = c in
    let a = s.args in
    let all : 80 * a.acted.sent - 0 ≡ 80 * a.acted.sent = omega arith in
    settle_done a.part a.position a.acted a.sends.now a.messages.now c.acted-2.result
    (sym c.is_refusal.ensures ∙ c.if-is_refusal.false) c.remove-left.result c.append-more.result _ _ _ c.acted-2.ensures
    c.remove-left.ensures (ap (λ k. take k a.sends.now) all) s.requires c.append-more.ensures
