-- `lines::answer::tagged` meets its contract. Assumes nothing.
use Rattle.std.proofs.Common.{arith, rules}
use Rattle.lines.specs.Line.{tag_of}
use Rattle.lines.proofs.Texts.{joined}
use Rattle.lines.proofs.answer.tagged.Goals as goal

pub returns : goal.returns
unfolding tag_of
returns c =
    let a = c.word-number in
    let z = c.decimal-after in
    let d = c.word-client in
    let e = c.decimal in
    (joined (joined (joined a.ensures z.ensures.0) d.ensures) e.ensures.0, omega (arith, a.ensures.place, z.ensures.1, d.ensures.place, e.ensures.1))
