use mathlib.Core.Path.{◌≡◌, refl, sym, ap, ◌∙◌}
use mathlib.Core.Bool.{Bool, true, cond}
use Prim.Native.Nat.{ℕ}
use native.Mathlib.Omega.{arith}
use borrow.Author.Tests.{not-true, not-false}
use lib.Dec.{leb}
use lib.ListN.{get_or}
use Rattle.laws.specs.Below.{all_below}
use Rattle.laws.proofs.Below.{below_next, below_no}
use Rattle.config.specs.Config.{board_length}
use Rattle.config.proofs.Sizes.{board_small}
use Rattle.client.proofs.questions.sent_within.Invariants.{here}
use Rattle.client.proofs.questions.sent_within.Goals as goal

pub overflow_mul-v : goal.overflow_mul-v
overflow_mul-v c = omega (arith, board_small c.args.cfg c.requires)

pub loop-i-init : goal.loop-i-init
unfolding all_below
loop-i-init c = refl

pub returns-then-not-length_within : goal.returns-then-not-length_within
returns-then-not-length_within c =
    let s = c in
    let i = c.loop-i.i in
    sym (below_no s.args.cfg.n (here s.args.cfg s.args.sent s.args.lengths) i (omega arith)
    (ap (λ (b : Bool). cond b (leb (get_or s.args.lengths i 0) (board_length s.args.cfg)) true) (sym c.has.ensures)
    ∙ sym c.length_within.ensures ∙ not-true _ c.if-not-length_within.true-raw))

pub loop-i-preserved : goal.loop-i-preserved
loop-i-preserved c =
    let s = c in
    below_next c.loop-i.i (here s.args.cfg s.args.sent s.args.lengths) c.loop-i.invariant
    (ap (λ (b : Bool). cond b (leb (get_or s.args.lengths c.loop-i.i 0) (board_length s.args.cfg)) true) (sym c.has.ensures)
    ∙ sym c.length_within.ensures ∙ not-false _ c.if-not-length_within.false-raw)

pub returns : goal.returns
returns c =
    let s = c in
    let end : c.loop-i.i ≡ s.args.cfg.n = omega arith in
    sym c.loop-i.invariant ∙ ap (λ (n : ℕ). all_below n (here s.args.cfg s.args.sent s.args.lengths)) end
