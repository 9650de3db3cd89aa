-- `code::choice::of` meets its contract: the choices of the groups before g stand.
use mathlib.Core.Path.{◌≡◌, subst}
use native.Mathlib.Omega.{arith}
use Rattle.code.specs.inner.Choice.{square_of}
use Rattle.code.proofs.ChoiceLaws.{Chosen, chosen_all, chosen_next}
use Rattle.code.proofs.choice.of.Goals as goal

pub loop-g-preserved : goal.loop-g-preserved
loop-g-preserved c =
    let at = c.loop-g in
    let a = c.args in
    let post = c.group.ensures in (
      post.size,
      chosen_next (square_of a.square.now) at.g at.choices _ (omega arith) at.invariant.1 post,
    )

pub returns : goal.returns
returns c =
    let at = c.loop-g in
    let m = square_of c.args.square.now in
    let e : at.g ≡ 4 = omega arith in
    chosen_all m at.choices (subst (λ n. Chosen m n at.choices) e at.invariant.1)
