-- `maker::step::all` meets its contract: each turn makes one record. Assumes nothing.
use Rattle.std.proofs.Common.{◌≡◌, ℕ, ◌+◌, ◌*◌, ◌≤◌, List, length, subst₂, ◌∙◌, arith, take_all}
use Rattle.laws.proofs.Parts.{lent_length}
use Rattle.events.specs.View.{lent}
use Rattle.maker.specs.Steps.{Steps, none}
use Rattle.maker.proofs.Stepped.{one_more}
use Rattle.maker.proofs.step.all.Goals as goal

pub loop-made-init : goal.loop-made-init
loop-made-init c = none

pub step-load-requires : goal.step-load-requires
step-load-requires c = let l = c.loop-made in lent_length l.out (l.made * 7) 7 (omega arith)

pub loop-made-preserved : goal.loop-made-preserved
loop-made-preserved c =
    let l = c.loop-made in
    let o = c.step-load in
    let room : l.made * 7 + 7 ≤ length l.out = omega arith in
    let long = lent_length l.out (l.made * 7) 7 room in
    let next : (l.made + 1) * 7 ≡ l.made * 7 + 7 = omega arith in
    rw next (one_more l.made (l.made * 7) l.out l.invariant room (o.auto.out ∙ long) o.ensures)

pub returns : goal.returns
returns c =
    let a = c.args in
    let l = c.loop-made in
    let now = lent l.messages l.stores l.boards l.elements in
    let end : l.made ≡ a.count = omega arith in
    subst₂ (λ n (bs : List ℕ). Steps a.load (lent a.messages.now a.stores.now a.boards.now a.elements.now) n bs l.load now) end
    (take_all (l.made * 7) l.out (omega arith)) l.invariant
