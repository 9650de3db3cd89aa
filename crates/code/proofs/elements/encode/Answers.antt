-- `code::elements::encode` meets its contract.
use Prim.Native.Nat.{suc}
use mathlib.Core.Path.{◌∙◌}
use native.Mathlib.Omega.{arith}
use Rattle.field.specs.Field.{power}
use Rattle.field.proofs.Laws.{power_lt}
use Rattle.code.proofs.PowerChoices.{elements_combined}
use Rattle.code.proofs.elements.encode.Goals as goal

pub returns : goal.returns
returns c =
    let a = c.args in
    c.all.ensures (λ t. power (suc t)) c.choices-choices.ensures.chosen
    (λ t i ht hi. power_lt (suc t) i (omega (arith, c.requires.valid.n_high)))
    ∙ elements_combined a.cfg a.board.now a.offset a.distance a.buffer.now
