use mathlib.Core.Path.{sym, ◌∙◌}
use native.Mathlib.Omega.{arith}
use borrow.Author.Tests.{eqb-true, eqb-false}
use Rattle.parties.proofs.Owned.{client_numbered}
use Rattle.parties.proofs.ToClient.{moved_act, not_awaited}
use Rattle.parties.proofs.deliver.client.Goals as goal

pub returns-then-not_awaited : goal.returns-then-not_awaited
returns-then-not_awaited c store =
    let s = c in
    let a = s.args in
    let y = c.step-y in
    not_awaited a.cfg a.pair _ store _ _ _ _ _ _ _ (λ i. omega (arith, c.shared_slice_known-1.given i))
    (client_numbered a.pair _ s.well_formed.1.0) y.result y.ensures y.auto.elements
    (eqb-true _ 14 (sym c.not_awaited.ensures ∙ c.if-not_awaited.true)) _ c.quiet.ensures

pub returns : goal.returns
returns c store =
    let s = c in
    let a = s.args in
    let y = c.step-y in
    moved_act a.cfg a.pair _ store _ _ _ _ _ _ _ (λ i. omega (arith, c.shared_slice_known-1.given i))
    (client_numbered a.pair _ s.well_formed.1.0) y.result y.ensures y.auto.elements
    (eqb-false _ 14 (sym c.not_awaited.ensures ∙ c.if-not_awaited.false)) _ c.moved.ensures
