-- `code::inverse::invert` meets its contract: the coefficients from i on are divided; then all are, and are scaled.
use Prim.Native.Nat.{◌+◌, ◌-◌}
use mathlib.Core.Path.{◌≡◌, refl, ap, subst, ◌∙◌}
use native.Mathlib.Omega.{arith}
use lib.ListN.{get_or, take, replicate}
use Rattle.code.specs.Element.{byte_field}
use Rattle.code.specs.Polynomial.{roots}
use Rattle.code.specs.inner.Lanes.{advanced}
use Rattle.code.proofs.Advanced.{numbers_at, numbers_small}
use Rattle.code.proofs.Division.{Divided, begins, turns, ends}
use Rattle.code.proofs.inverse.invert.Goals as goal

pub loop-i-init : goal.loop-i-init
loop-i-init c =
    let start = c in
    begins start.args.k start.args.servers.now start.requires c.lanes-s.result (start.args.k - 1) (omega (arith, start.requires.low)) (replicate 16 (replicate 16 0)) refl

pub advance-w-requires : goal.advance-w-requires
advance-w-requires c = λ t. rw c.lanes-s.ensures (numbers_small c.args.k c.args.servers.now c.requires t)

pub advance-w-requires-in-loop-i : goal.advance-w-requires-in-loop-i
advance-w-requires-in-loop-i c = λ t. rw c.lanes-s.ensures (numbers_small c.args.k c.args.servers.now c.requires t)

pub loop-i-preserved : goal.loop-i-preserved
loop-i-preserved c =
    let at = c.loop-i in
    let one : at.i - 1 + 1 ≡ at.i = omega arith in
    turns c.args.k c.args.servers.now c.requires c.lanes-s.result at.i at.inverse at.q at.v c.roots-p.result
    c.advance-w.result c.advance-w-in-loop-i.result (omega arith) c.roots-p.ensures
    (subst (λ n. c.advance-w.result ≡ advanced at.q c.lanes-s.result (replicate 16 (get_or c.roots-p.result n 0))) one c.advance-w.ensures)
    c.advance-w-in-loop-i.ensures at.invariant

pub returns : goal.returns
returns c =
    let at = c.loop-i in
    let start = c in
    let s = c.lanes-s.result in
    let last : at.i ≡ 0 = omega arith in
    ends c.args.k c.args.servers.now c.requires s at.inverse c.scale.new.rows at.q at.v c.inverted.result
    (subst (λ n. Divided start.args.k (roots byte_field (take start.args.k start.args.servers.now)) s n at.inverse at.q at.v) last at.invariant)
    (λ r h. ap (λ l. get_or l r 0) c.lanes-s.ensures ∙ numbers_at start.args.k start.args.servers.now r start.requires.high h)
    c.inverted.ensures c.scale.ensures
