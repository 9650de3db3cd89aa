use mathlib.Core.Path.{refl, sym, ◌∙◌}
use borrow.Author.Rules.{rules}
use Rattle.record.proofs.Bytes.{zero_more, zero_end}
use Rattle.record.proofs.layout.zero.Goals as goal

pub loop-byte-init : goal.loop-byte-init
loop-byte-init c = (search rules, refl)

pub loop-byte-preserved : goal.loop-byte-preserved
loop-byte-preserved c =
    let l = c.loop-byte in
    (search rules, l.invariant.1 ∙ zero_more _ l.any l.byte-index c.loop-byte-test.true)

pub returns : goal.returns
returns c = let l = c.loop-byte in sym (l.invariant.1 ∙ zero_end _ l.any l.byte-index c.loop-byte-test.false)
