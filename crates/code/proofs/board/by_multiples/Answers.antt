-- `code::board::by_multiples` meets its contract: the board is what the elements before r make.
use mathlib.Core.Path.{◌≡◌, ap, ◌∙◌}
use native.Mathlib.Omega.{arith}
use lib.ListN.{length}
use Rattle.code.specs.inner.Row.{zeros}
use Rattle.code.specs.inner.Rows.{combined}
use Rattle.code.proofs.Combined.{combined_none, combined_turn}
use Rattle.code.proofs.Filled.{replicate_tabulate}
use Rattle.code.proofs.Interpolated.{element_part, ready_clear}
use Rattle.code.proofs.board.by_multiples.Goals as goal

pub loop-r-init : goal.loop-r-init
unfolding zeros
loop-r-init c =
    let x = c.args in (
      ready_clear,
      c.fill.ensures.after (λ y e. e)
          ∙ replicate_tabulate (length x.buffer.now) 0
          ∙ ap zeros c.requires.buffer_length
          ∙ combined_none x.cfg.k x.cfg.e x.inverse.now x.elements.now,
    )

pub loop-r-preserved : goal.loop-r-preserved
loop-r-preserved c =
    let x = c.args in
    let h = c.requires in
    let at = c.loop-r in
    let s = c.spread.ensures in (
      s.ready,
      combined_turn x.cfg.k x.cfg.e x.inverse.now x.elements.now at.r at.buffer _ h.valid.e_low
          (element_part x.cfg x.inverse.now x.elements.now (length x.buffer.now) h at.r (omega arith))
          at.invariant.1
          s.board,
    )

pub returns : goal.returns
returns c =
    let x = c.args in
    let at = c.loop-r in
    let last : at.r ≡ x.cfg.k = omega arith in
    at.invariant.1 ∙ ap (combined x.cfg.k x.cfg.e x.inverse.now x.elements.now) last
