use mathlib.Core.Path.{refl}
use Rattle.config.proofs.Valid.{least_valid}
use Rattle.parties.proofs.fresh.least.Goals as goal

pub node-requires : goal.node-requires
node-requires c = record { valid = least_valid; inside = refl; start_length = refl; store_length = refl }
