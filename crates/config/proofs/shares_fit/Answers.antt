-- The shares of the boards passed are taken from M: with what is left they are M. Assumes nothing.
use mathlib.Core.Path.{◌≡◌, sym, ap, ◌∙◌}
use Prim.Native.Nat.{ℕ, ◌+◌, ◌<◌}
use native.Mathlib.Omega.{arith}
use native.Mathlib.Nat.{add-sub_cancel}
use borrow.Author.Tests.{le-leb, lt-leb}
use lib.ListN.{get_or, take}
use Rattle.std.proofs.lemmas.List.{get_or-take}
use Rattle.laws.specs.Below.{sum_below}
use Rattle.laws.proofs.Below.{sum_grows, sum_next}
use Rattle.config.specs.declared.Room.{Room}
use Rattle.config.specs.Room.{shares_sum}
use Rattle.config.proofs.shares_fit.Invariants.{here}
use Rattle.config.proofs.shares_fit.Goals as goal

-- the shares of the first i boards and of the next
next : (room : Room) (i : ℕ) → sum_below (i + 1) (here room) ≡ sum_below i (here room) + get_or room.shares i 0
next room i = sum_next i (here room) ∙ ap (λ k. sum_below i (here room) + get_or room.shares k 0) (add-sub_cancel i 1)

-- and as they are read
read : (room : Room) (i : ℕ) → i < room.boards → sum_below (i + 1) (here room) ≡ sum_below i (here room) + get_or (take room.boards room.shares) i 0
read room i l = next room i ∙ ap (λ k. sum_below i (here room) + k) (sym (get_or-take room.boards room.shares i 0 l))

pub loop-share-init : goal.loop-share-init
unfolding sum_below
loop-share-init c = (omega arith, omega arith)

pub returns-then-left-share : goal.returns-then-left-share
unfolding shares_sum
returns-then-left-share c =
    let l = c.loop-share in
    let room = c.args.room in
    let below : l.share-index < room.boards = omega (arith, c.loop-share-test.true) in
    let more = sum_grows (l.share-index + 1) room.boards (here room) (omega (arith, below)) in
    sym (lt-leb (shares_sum room) room.m (omega (arith, l.invariant.1, read room l.share-index below, more, c.if-left-share.true)))

pub loop-share-preserved : goal.loop-share-preserved
loop-share-preserved c =
    let l = c.loop-share in
    let room = c.args.room in
    let below : l.share-index < room.boards = omega (arith, c.loop-share-test.true) in
    (omega arith, omega (arith, l.invariant.1, read room l.share-index below, c.if-left-share.false))

pub returns : goal.returns
unfolding shares_sum
returns c =
    let l = c.loop-share in
    let room = c.args.room in
    let end : l.share-index ≡ room.boards = omega (arith, l.invariant.0) in
    sym (le-leb (shares_sum room) room.m (omega (arith, l.invariant.1, ap (λ (n : ℕ). sum_below n (here room)) end)))
