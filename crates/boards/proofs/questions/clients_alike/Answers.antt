-- The clients of the places passed are up on both boards or down on both. Assumes nothing.
use Prim.Native.Nat.{ℕ, ◌<◌}
use mathlib.Core.Path.{◌≡◌, refl, sym, ap, ap₂, ◌∙◌}
use native.Mathlib.Omega.{arith}
use borrow.Author.Tests.{not-true, not-false}
use lib.ListN.{length, get_or}
use Rattle.laws.specs.Below.{all_below}
use Rattle.laws.proofs.Below.{below_next, below_no}
use Rattle.client.specs.declared.State as client
use Rattle.boards.specs.declared.OneBoard.{OneBoard}
use Rattle.boards.specs.Questions.{client_up, is_up, same}
use Rattle.boards.proofs.Owned.{client_places}
use Rattle.boards.proofs.UpAlike.{same_read}
use Rattle.boards.proofs.questions.clients_alike.Invariants.{alikeAt}
use Rattle.boards.proofs.questions.clients_alike.Goals as goal

alike_read : (x y : OneBoard) (i : ℕ) (a b : client.State) → i < 16 → length x.clients ≡ 16 → length y.clients ≡ 16
    → same (is_up (get_or x.clients i a).phase) (is_up (get_or y.clients i b).phase) ≡ alikeAt x y i
unfolding client_up
alike_read x y i a b low h k = same_read client_up x.clients y.clients i a b (omega (arith, low, h)) (omega (arith, low, k))

pub loop-i-init : goal.loop-i-init
unfolding all_below
loop-i-init c = refl

pub returns-then-not-same : goal.returns-then-not-same
returns-then-not-same c =
    let s = c in
    let x = s.args.x in
    let y = s.args.y in
    let i = c.loop-i.i in
    let low = c.loop-i-test.true in
    let read = alike_read x y i _ _ (omega (arith, low, s.requires.c_high)) (client_places x _ s.well_formed.1.0) (client_places y _ s.well_formed.1.1.0) in
    sym (below_no s.args.cfg.c (alikeAt x y) i low (sym read ∙ sym (c.same.ensures ∙ ap₂ same c.is_up.ensures c.is_up-in-loop-i.ensures) ∙ not-true _ c.if-not-same.true-raw))

pub loop-i-preserved : goal.loop-i-preserved
loop-i-preserved c =
    let s = c in
    let x = s.args.x in
    let y = s.args.y in
    let i = c.loop-i.i in
    let low = c.loop-i-test.true in
    let read = alike_read x y i _ _ (omega (arith, low, s.requires.c_high)) (client_places x _ s.well_formed.1.0) (client_places y _ s.well_formed.1.1.0) in
    below_next i (alikeAt x y) c.loop-i.invariant (sym read ∙ sym (c.same.ensures ∙ ap₂ same c.is_up.ensures c.is_up-in-loop-i.ensures) ∙ not-false _ c.if-not-same.false-raw)

pub returns : goal.returns
returns c =
    let a = c.args in
    let l = c.loop-i in
    let end : l.i ≡ a.cfg.c = omega arith in
    sym l.invariant ∙ ap (λ n. all_below n (alikeAt a.x a.y)) end
