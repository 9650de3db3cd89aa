use native.Mathlib.Omega.{arith}
use Rattle.record.specs.Record.{four_bytes, two_bytes}
use Rattle.host.specs.Outcome.{outcome_row}
use Rattle.host.proofs.Outcomes.{row_tells}
use Rattle.host.proofs.outcome.row.Goals as goal

pub returns : goal.returns
unfolding outcome_row four_bytes two_bytes
returns c = row_tells _ _ _ _ _ (omega (arith, c.well_formed.1.1.1.0)) (omega (arith, c.well_formed.1.1.0)) (rw c.four_bytes-n.ensures)
