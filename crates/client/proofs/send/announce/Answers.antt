use mathlib.Core.Path.{◌≡◌, refl, sym, ap, ◌∙◌}
use mathlib.Core.Bool.{true}
use Prim.Native.Nat.{ℕ, ◌≤◌}
use native.Mathlib.Omega.{arith}
use borrow.Author.Tests.{not-true, not-false}
use lib.ListN.{length}
use lib.Seq.{length-take-le}
use Rattle.config.proofs.Sizes.{board_small}
use Rattle.protocol.specs.Boards.{cut}
use Rattle.client.specs.declared.send.Broadcast.{Broadcast}
use Rattle.client.specs.Send.{records_of}
use Rattle.client.specs.inner.Send.{broadcast, opening_of}
use Rattle.client.proofs.Fronts.{fills}
use Rattle.client.proofs.Sending.{its_length, sends_each, unlooked, whole}
use Rattle.client.proofs.send.announce.Goals as goal
use Rattle.client.proofs.send.announce.Goals.{Else-not-b}

-- a pre-write: its board has V bytes
module _ (c : Else-not-b) where
  has : (opening_of c.args.x c.args.x.phase).element ≡ true
  has = ap (λ (b : Broadcast). b.element) (sym c.opening-b.ensures) ∙ not-false _ c.if-not-b.false

  v_bytes : length c.args.board.now ≤ 1024
  v_bytes = omega (arith, whole c.args.cfg c.args.x c.args.board.now c.args.sends.now c.requires has, board_small c.args.cfg c.requires.valid)

pub to_each-requires : goal.to_each-requires
to_each-requires c = let s = c in
    rw c.opening-b.ensures (sends_each s.args.cfg s.args.x s.args.board.now s.args.sends.now s.requires s.args.board.now (λ e. refl))

pub returns-then-not-b : goal.returns-then-not-b
returns-then-not-b c = let o = c in
    let s = o in
    let t = c.to_each in
    let none = not-true _ c.if-not-b.true in
    record {
      move = c.accepted.ensures;
      out =
          rw (sym o.opening-b.ensures)
          (fills (records_of s.args.cfg (broadcast s.args.cfg o.opening-b.result (cut s.args.x.length s.args.board.now))) s.args.sends.now t.new.sends
          (t.ensures ∙ ap (records_of s.args.cfg) (unlooked s.args.cfg s.args.x s.args.board.now s.args.sends.now s.requires o.opening-b.result _ none))
          t.auto.sends);
    }

pub slice_bounds-whole-end : goal.slice_bounds-whole-end
slice_bounds-whole-end c = v_bytes (goal.at.slice_bounds-whole-end c).Else-not-b

pub slice_bounds-cut_to_each-end : goal.slice_bounds-cut_to_each-end
slice_bounds-cut_to_each-end c = sym (length-take-le _ _ (v_bytes (goal.at.slice_bounds-cut_to_each-end c).Else-not-b))

pub cut_to_each-requires : goal.cut_to_each-requires
cut_to_each-requires c = let e = c in (
  rw c.opening-b.ensures (sends_each e.args.cfg e.args.x e.args.board.now e.args.sends.now e.requires e.args.board.now (λ h. refl)),
  length-take-le _ _ (v_bytes (goal.at.cut_to_each-requires c).Else-not-b),
)

pub returns : goal.returns
returns c = let e = c in
    let o = c in
    let t = c.cut_to_each in
    let a = e.args in
    let n : o.opening-b.result.length ≡ a.x.length = ap (λ (b : Broadcast). b.length) o.opening-b.ensures ∙ its_length a.x a.x.phase (has (goal.at.returns c).Else-not-b) in
    record {
      move = c.accepted-2.ensures;
      out =
          rw (sym o.opening-b.ensures)
          (fills (records_of a.cfg (broadcast a.cfg o.opening-b.result (cut a.x.length a.board.now))) a.sends.now _
          (t.ensures ∙ ap (λ (k : ℕ). records_of a.cfg (broadcast a.cfg o.opening-b.result (cut k a.board.now))) n) t.auto.sends);
    }
