-- `code::inverse::root` meets its contract.
use mathlib.Core.Path.{◌∙◌}
use Rattle.code.proofs.FirstRoots.{below_at, shifted}
use Rattle.code.proofs.inverse.root.Goals as goal

pub returns : goal.returns
returns c =
    let a = c.args in
    c.advance.ensures ∙ shifted a.p _ a.s (below_at a.p _ c.copy_from_slice.ensures.after)
