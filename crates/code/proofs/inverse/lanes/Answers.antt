-- `code::inverse::lanes` meets its contract.
use mathlib.Core.Path.{ap, ◌∙◌}
use mathlib.Core.List.{◌++◌}
use native.Mathlib.Omega.{arith}
use lib.ListN.{get_or, drop, replicate, take, get_or-eq_default}
use lib.Seq.{length-take-le}
use Rattle.code.specs.inner.Lanes.{numbers}
use Rattle.code.proofs.Filled.{filled_zeros, itself}
use Rattle.code.proofs.inverse.lanes.Goals as goal

pub returns : goal.returns
unfolding numbers
returns c =
    let a = c.args in
    let u = c.requires in
    let used = take a.k a.servers.now in
    ap (λ l. l ++ drop a.k (replicate 16 0)) (c.copy_from_slice.ensures.after ∙ itself used a.k (length-take-le a.k a.servers.now u.enough))
    ∙ filled_zeros (λ i. get_or used i 0) a.k 16 u.high
    (λ i h. get_or-eq_default used 0 {n = i} (rw (length-take-le a.k a.servers.now u.enough) (omega arith)))
