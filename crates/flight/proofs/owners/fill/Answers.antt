use mathlib.Core.Path.{ap, ◌∙◌}
use native.Mathlib.Omega.{arith}
use lib.ListN.{length-drop, length-take, replicate}
use Rattle.flight.proofs.Moves.{filled_there}
use Rattle.flight.proofs.owners.fill.Goals as goal

pub returns : goal.returns
returns c =
    let a = c.args in
    filled_there a.from a.to a.board a.owners.now c.fill.new.self c.if-to-from.false c.if-owners-to.false
    (c.fill.ensures.after (λ y e. e) ∙ ap (λ n. replicate n a.board) (simp (length-take, length-drop) (omega arith)))
