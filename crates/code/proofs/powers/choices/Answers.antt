-- `code::powers::choices` meets its contract: the rule of the table is one test over it, which antt computes.
use mathlib.Core.Path.{refl}
use Rattle.laws.specs.Bytes.{tabulate}
use Rattle.field.specs.Field.{double, doubled, partial_product, times}
use Rattle.code.specs.inner.Combine.{choice}
use Rattle.code.proofs.PowerChoices.{choices_of, power_rows, powers_from}
use Rattle.code.proofs.powers.choices.Goals as goal

pub returns : goal.returns
unfolding tabulate power_rows powers_from times partial_product doubled double choice
returns c = choices_of _ refl tt
