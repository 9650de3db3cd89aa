-- `code::element::encode` meets its contract: the part holds the value of the rows that have been taken.
use mathlib.Core.Path.{◌≡◌, refl, sym, subst, ap, ◌∙◌}
use Prim.Native.Nat.{min}
use native.Mathlib.Omega.{arith}
use lib.ListN.{length}
use Rattle.std.specs.Slice.Iter.{rchunks_rest, rchunks_size}
use Rattle.laws.proofs.Parts.{copied}
use Rattle.code.proofs.DownTo.{Left, down_begin, down_end, down_last, down_last_lent, down_long, down_next, down_start, down_whole}
use Rattle.code.proofs.element.encode.Goals as goal

pub loop-row-init : goal.loop-row-init
loop-row-init c =
    let x = c.args in
    let h = c.requires in
    let rows = c.rchunks-row-items in
    let last =
    down_last x.cfg x.board.now x.s (length x.part.now) h c.copy.new.dst
    ((c.copy.ensures.whole (omega (arith, h.part_length, down_start x.cfg x.board.now x.s (length x.part.now) h))).1 ∙ copied _ x.part.now _ refl (h.part_length ∙ sym (down_last_lent x.cfg x.board.now x.s (length x.part.now) h))) in
    subst (λ it. (rchunks_size it ≡ x.cfg.e) × Left x.cfg x.board.now x.s c.copy.new.dst (rchunks_rest it)) (sym c.into_iter-row-iterator.ensures.into_iter_gives)
    (rows.ensures.size, subst (Left x.cfg x.board.now x.s c.copy.new.dst) (sym rows.ensures.rest) (down_begin x.cfg x.board.now x.s (length x.part.now) h c.copy.new.dst last))

pub step-requires : goal.step-requires
step-requires c =
    let x = c.args in
    let h = c.requires in
    let at = c.loop-row in
    let turn = c.in-Some.ensures.steps in (
      (omega (arith, h.server_low), omega (arith, h.server_high, h.valid.n_high)),
      down_long x.cfg x.board.now x.s at.part _ at.invariant.1.down
          ∙ sym (down_whole x.cfg x.board.now x.s (length x.part.now) h at.part (rchunks_rest at.row-iterator) (rchunks_rest c.next.new.self) c.in-Some.row.now
          at.invariant.1 turn.1.0 (turn.1.1 ∙ ap (λ n. min n (length (rchunks_rest at.row-iterator))) at.invariant.0) turn.1.2),
    )

pub loop-row-preserved : goal.loop-row-preserved
loop-row-preserved c =
    let x = c.args in
    let at = c.loop-row in
    let turn = c.in-Some.ensures.steps in (
      turn.0 ∙ at.invariant.0,
      down_next x.cfg x.board.now x.s (length x.part.now) c.requires at.part (rchunks_rest at.row-iterator) (rchunks_rest c.next.new.self) c.in-Some.row.now
          at.invariant.1 turn.1.0 (turn.1.1 ∙ ap (λ n. min n (length (rchunks_rest at.row-iterator))) at.invariant.0) turn.1.2 c.step.new.row c.step.ensures,
    )

pub returns : goal.returns
returns c =
    let x = c.args in
    let h = c.requires in
    let at = c.loop-row in
    let end = c.in-None.ensures.steps in
    down_end x.cfg x.board.now x.s (length x.part.now) h at.part (rchunks_rest at.row-iterator) at.invariant.1
    end.1.0 (λ i. (c.type_inv.board i).fits) (omega (arith, h.server_high, h.valid.n_high))
