-- `lines::answer::shown` meets its contract. Assumes nothing.
use Rattle.std.proofs.Common.{arith, rules}
use Rattle.lines.specs.Line.{shown_of}
use Rattle.lines.proofs.Texts.{joined}
use Rattle.lines.proofs.answer.shown.Goals as goal

pub word-requires : goal.word-requires
word-requires c =
    let s = c in
    let a = c.word-after in
    let t = c.tagged-bytes in
    let d = c.board-end in
    omega (arith, s.requires, a.ensures.place, t.ensures.1, d.ensures.1, a.auto.out, t.auto.out, d.auto.out)

pub returns : goal.returns
unfolding shown_of
returns c =
    let a = c.word-after in
    let t = c.tagged-bytes in
    let d = c.board-end in
    let e = c.word in (
      joined (joined (joined a.ensures t.ensures.0) d.ensures.0) e.ensures,
      omega (arith, a.ensures.place, t.ensures.1, d.ensures.1, e.ensures.place),
    )
