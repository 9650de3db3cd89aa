-- The servers of the places passed are up on both boards or down on both. Assumes nothing.
use Prim.Native.Nat.{ℕ, ◌<◌}
use mathlib.Core.Path.{◌≡◌, refl, sym, ap, ◌∙◌}
use native.Mathlib.Omega.{arith}
use borrow.Author.Tests.{not-true, not-false}
use lib.ListN.{length, get_or}
use Rattle.laws.specs.Below.{all_below}
use Rattle.laws.proofs.Below.{below_next, below_no}
use Rattle.parties.specs.declared.Node.{Node}
use Rattle.events.specs.View.{up_seen}
use Rattle.boards.specs.declared.OneBoard.{OneBoard}
use Rattle.boards.specs.Questions.{same}
use Rattle.boards.proofs.Owned.{server_places}
use Rattle.boards.proofs.UpAlike.{same_read}
use Rattle.boards.proofs.questions.servers_alike.Invariants.{alikeAt}
use Rattle.boards.proofs.questions.servers_alike.Goals as goal

alike_read : (x y : OneBoard) (i : ℕ) (a b : Node) → i < 16 → length x.servers ≡ 16 → length y.servers ≡ 16
    → same (get_or x.servers i a).up (get_or y.servers i b).up ≡ alikeAt x y i
unfolding up_seen
alike_read x y i a b low h k = same_read up_seen x.servers y.servers i a b (omega (arith, low, h)) (omega (arith, low, k))

pub loop-i-init : goal.loop-i-init
unfolding all_below
loop-i-init c = refl

pub returns-then-not-same : goal.returns-then-not-same
returns-then-not-same c =
    let s = c in
    let x = s.args.x in
    let y = s.args.y in
    let i = c.loop-i.i in
    let low = c.loop-i-test.true in
    let read = alike_read x y i _ _ (omega (arith, low, s.requires.n_high)) (server_places x _ s.well_formed.1.0) (server_places y _ s.well_formed.1.1.0) in
    sym (below_no s.args.cfg.n (alikeAt x y) i low (sym read ∙ sym c.same.ensures ∙ not-true _ c.if-not-same.true-raw))

pub loop-i-preserved : goal.loop-i-preserved
loop-i-preserved c =
    let s = c in
    let x = s.args.x in
    let y = s.args.y in
    let i = c.loop-i.i in
    let low = c.loop-i-test.true in
    let read = alike_read x y i _ _ (omega (arith, low, s.requires.n_high)) (server_places x _ s.well_formed.1.0) (server_places y _ s.well_formed.1.1.0) in
    below_next i (alikeAt x y) c.loop-i.invariant (sym read ∙ sym c.same.ensures ∙ not-false _ c.if-not-same.false-raw)

pub returns : goal.returns
returns c =
    let a = c.args in
    let l = c.loop-i in
    let end : l.i ≡ a.cfg.n = omega arith in
    sym l.invariant ∙ ap (λ n. all_below n (alikeAt a.x a.y)) end
