-- `lines::text::hex` meets its contract: the digits of the first i bytes stand there. Assumes nothing.
use Rattle.std.proofs.Common.{◌≡◌, ◌+◌, ◌*◌, refl, ap, arith, take_all}
use Rattle.lines.proofs.Texts.{hex_put, nothing, recast}
use Rattle.lines.specs.Line.{hex_of}
use Rattle.lines.proofs.text.hex.Goals as goal

pub loop-i-init : goal.loop-i-init
unfolding hex_of
loop-i-init c = let s = c.args in recast refl (omega arith) (nothing s.out.now s.at (omega arith))

pub loop-i-preserved : goal.loop-i-preserved
loop-i-preserved c =
    let l = c.loop-i in
    let s = c.args in
    recast refl (omega arith)
    (hex_put s.board.now s.out.now l.out s.at l.i (s.at + 2 * l.i) _ _ (omega arith) (omega arith) c.digit.ensures c.digit-in-loop-i.ensures l.invariant)
