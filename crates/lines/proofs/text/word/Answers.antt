-- `lines::text::word` meets its contract. Assumes nothing.
use Rattle.lines.proofs.Texts.{copied}
use Rattle.std.proofs.Common.{rules}
use Rattle.lines.proofs.text.word.Goals as goal

pub returns : goal.returns
returns c =
    let s = c.args in
    copied s.out.now s.at s.w.now _ _ (search rules) (c.copy.ensures.whole (search rules)).0 (c.copy.ensures.whole (search rules)).1
