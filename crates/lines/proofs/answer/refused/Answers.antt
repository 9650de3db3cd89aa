-- `lines::answer::refused` meets its contract. Assumes nothing.
use Rattle.std.proofs.Common.{arith, rules}
use Rattle.lines.specs.Line.{refused_of}
use Rattle.lines.proofs.Texts.{joined}
use Rattle.lines.proofs.answer.refused.Goals as goal

pub returns : goal.returns
unfolding refused_of
returns c =
    let a = c.word-after in
    let d = c.decimal-end in
    let e = c.word in
    (joined (joined a.ensures d.ensures.0) e.ensures, omega (arith, a.ensures.place, d.ensures.1, e.ensures.place))
