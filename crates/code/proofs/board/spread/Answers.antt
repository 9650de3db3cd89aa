-- `code::board::spread` meets its contract: the rows before i have their multiples added, the others are as they were.
use Prim.Native.Nat.{◌+◌, ◌*◌, ◌-◌}
use mathlib.Core.Path.{sym, ap, ◌∙◌}
use native.Mathlib.Omega.{arith}
use lib.ListN.{length}
use Rattle.code.proofs.Filled.{length_filled}
use Rattle.code.proofs.Lent.{lent_row_length}
use Rattle.code.proofs.Spreading.{each, row_fits, spread_none, spread_more, spread_all}
use Rattle.code.proofs.board.spread.Goals as goal

pub loop-i-init : goal.loop-i-init
loop-i-init c =
    let x = c.args in
    let h = c.requires in
    (h.size, spread_none x.k x.r x.x.now x.table.now x.board.now h x.inverse.now)

pub loop-i-preserved : goal.loop-i-preserved
loop-i-preserved c =
    let x = c.args in
    let h = c.requires in
    let at = c.loop-i in
    let size = lent_row_length x.k (length x.x.now) at.i at.board (omega arith) (omega arith) in
    let turned =
    spread_more x.k x.r x.x.now x.table.now x.board.now h x.inverse.now at.i (at.i * length x.x.now + length x.x.now - at.i * length x.x.now) at.board _ (omega arith) at.invariant.0 (omega arith) at.invariant.1
    (c.add.ensures x.x.now (sym size) c.multiply.ensures) in (
      ap length turned
          ∙ length_filled (each x.inverse.now x.r x.x.now x.board.now) ((at.i + 1) * length x.x.now) x.board.now (omega (arith, h.size, row_fits x.k x.r x.x.now x.table.now x.board.now h at.i (omega arith)))
          ∙ h.size,
      turned,
    )

pub returns : goal.returns
returns c =
    let x = c.args in
    let at = c.loop-i in
    record {
      board = spread_all x.k x.r x.x.now x.table.now x.board.now c.requires x.inverse.now at.i at.board (omega arith) at.invariant.1;
      ready = c.multiply.ensures.ready;
    }
