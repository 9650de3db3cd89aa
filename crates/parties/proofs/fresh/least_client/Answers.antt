use mathlib.Core.Path.{refl, ap, ◌∙◌}
use Rattle.config.proofs.Valid.{least_valid}
use Rattle.parties.specs.Fresh.{fresh_state}
use Rattle.parties.proofs.fresh.least_client.Goals as goal

pub client_number-me-requires : goal.client_number-me-requires
client_number-me-requires c = (least_valid, refl)

pub returns : goal.returns
returns c = c.fresh-made.ensures.state ∙ ap fresh_state c.client_number-me.ensures
