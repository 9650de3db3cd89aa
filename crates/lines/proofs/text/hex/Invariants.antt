-- `lines::text::hex` meets its contract: the digits of the first i bytes stand there. Assumes nothing.
use Rattle.std.proofs.Common.{◌+◌, ◌*◌, take}
use Rattle.lines.specs.Line.{hex_of}
use Rattle.lines.specs.Text.{Appended}
use Rattle.lines.proofs.text.hex.Given as goal

abbrev pub invariant-loop-i : goal.invariant-loop-i
invariant-loop-i l = Appended l.initial.out l.at (hex_of (take l.i l.board)) l.out (l.at + 2 * l.i)
