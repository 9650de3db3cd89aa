-- `lines::answer::written` meets its contract. Assumes nothing.
use Rattle.std.proofs.Common.{arith, rules}
use Rattle.lines.specs.Line.{written_of}
use Rattle.lines.proofs.Texts.{joined}
use Rattle.lines.proofs.answer.written.Goals as goal

pub returns : goal.returns
unfolding written_of
returns c =
    let a = c.word-after in
    let t = c.tagged-end in
    let e = c.word in
    (joined (joined a.ensures t.ensures.0) e.ensures, omega (arith, a.ensures.place, t.ensures.1, e.ensures.place))
