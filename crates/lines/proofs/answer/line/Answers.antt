-- `lines::answer::line` meets its contract. Assumes nothing.
use Rattle.std.proofs.Common.{arith, rules}
use Rattle.lines.specs.Line.{line_of}
use Rattle.lines.proofs.Texts.{joined}
use Rattle.lines.proofs.answer.line.Goals as goal

pub returns : goal.returns
unfolding line_of
returns c =
    let d = c.decimal-after in
    let a = c.said in
    (joined d.ensures.0 a.ensures.0, omega (arith, d.ensures.1, a.ensures.1))
