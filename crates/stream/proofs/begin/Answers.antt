-- `stream::begin` meets its contract. Assumes nothing.
use Rattle.stream.proofs.Going.{run_to, was_refused}
use Rattle.stream.proofs.begin.Goals as goal

pub returns-in-Err : goal.returns-in-Err
returns-in-Err c z = absurd (was_refused c.make-made.ensures c.in-Err.is z)

pub returns : goal.returns
returns c z = run_to c.make-made.ensures (λ k. (c.shared_slice_known-1.given k).fits) c.blocks-2.ensures z
