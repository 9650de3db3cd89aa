-- `load::blocks` meets its contract: each turn makes one block. Assumes nothing.
use Prim.Native.Nat.{ℕ, ◌+◌, ◌-◌, ◌*◌, ◌≤◌}
use mathlib.Core.Path.{◌≡◌, refl, ◌∙◌}
use mathlib.Core.Bool.{Bool, true, false, cond}
use mathlib.Core.List.{[], ◌++◌}
use native.Mathlib.Omega.{arith}
use lib.ListN.{take}
use Rattle.maker.specs.Steps.{none}
use Rattle.maker.proofs.Made.{made_so, made_then}
use Rattle.load.proofs.blocks.Goals as goal

-- what is left after a block
left_after : (wrote : Bool) (left n : ℕ) {r : ℕ} → n ≤ left → r ≡ cond wrote (left - n) 0 → n + r ≤ left
left_after true left n h e = omega (arith, h, e)
left_after false left n h e = omega (arith, h, e)

pub loop-left-init : goal.loop-left-init
loop-left-init c =
    record {
      number = 0;
      bytes = [];
      most = omega arith;
      made = made_so c.requires.0 none;
      same = refl;
      messages = refl;
      stores = refl;
      boards = refl;
      elements = refl;
    }

pub block-load-requires : goal.block-load-requires
block-load-requires c = (c.loop-left.invariant.made.along, omega (arith, c.min-n.ensures, c.loop-left.invariant.same, c.requires.1))

pub wrote-requires : goal.wrote-requires
wrote-requires c = omega (arith, c.block-load.auto.out, c.min-n.ensures, c.loop-left.invariant.same, c.requires.1)

pub still-left-requires : goal.still-left-requires
still-left-requires c = omega (arith, c.min-n.ensures)

pub loop-left-smaller : goal.loop-left-smaller
loop-left-smaller c =
    let n = c.min-n in
    let l = c.loop-left in
    omega (arith, n.ensures, c.loop-left-test.true, left_after c.wrote.result l.left n.result (omega (arith, n.ensures)) c.still-left.ensures)

pub loop-left-preserved : goal.loop-left-preserved
loop-left-preserved c =
    let o = c.block-load in
    let n = c.min-n in
    let l = c.loop-left in
    let i = l.invariant in
    record {
      number = i.number + n.result;
      bytes = i.bytes ++ take (n.result * 7) o.new.out;
      most = omega (arith, i.most, left_after c.wrote.result l.left n.result (omega (arith, n.ensures)) c.still-left.ensures);
      made = made_then i.made o.ensures;
      same = o.auto.out ∙ i.same;
      messages = o.auto.messages ∙ i.messages;
      stores = o.auto.stores ∙ i.stores;
      boards = o.auto.boards ∙ i.boards;
      elements = o.auto.elements ∙ i.elements;
    }

pub shape_of-out : goal.shape_of-out
shape_of-out c = c.loop-left.invariant.same

pub shape_of-messages : goal.shape_of-messages
shape_of-messages c = c.loop-left.invariant.messages

pub shape_of-stores : goal.shape_of-stores
shape_of-stores c = c.loop-left.invariant.stores

pub shape_of-boards : goal.shape_of-boards
shape_of-boards c = c.loop-left.invariant.boards

pub shape_of-elements : goal.shape_of-elements
shape_of-elements c = c.loop-left.invariant.elements

pub returns : goal.returns
returns c =
    let i = c.loop-left.invariant in
    record { number = i.number; bytes = i.bytes; most = omega (arith, i.most); made = i.made }
