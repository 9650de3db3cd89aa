use mathlib.Core.Path.{sym}
use mathlib.Core.List.{[]}
use native.Mathlib.Omega.{arith}
use borrow.Author.Tests.{not-true, not-false}
use Rattle.parties.proofs.Owned.{server_numbered}
use Rattle.parties.proofs.ToServer.{down_refused, gone, stepped_act}
use Rattle.parties.proofs.deliver.server.Goals as goal

pub returns-in-Err : goal.returns-in-Err
returns-in-Err c kept es read =
    let s = c in
    let a = s.args in
    down_refused a.cfg a.pair _ _ [] _ [] kept es read (λ i. omega (arith, c.shared_slice_known-1.given i))
    (server_numbered a.pair _ s.well_formed.1.0) _
    c.in-Err.ensures
    _ c.refused.ensures

pub returns-then-not-node : goal.returns-then-not-node
returns-then-not-node c kept es read =
    let s = c in
    let a = s.args in
    gone a.cfg a.pair _ _ [] _ [] kept es read (λ i. omega (arith, c.shared_slice_known-1.given i))
    (server_numbered a.pair _ s.well_formed.1.0) (sym c.in_default.ensures)
    (not-true _ c.if-not-node.true) _ c.quiet.ensures

pub returns : goal.returns
returns c kept es read =
    let s = c in
    let a = s.args in
    let y = c.step-y in
    stepped_act a.cfg a.pair _ _ _ _ _ kept es read (λ i. omega (arith, c.shared_slice_known-1.given i))
    (server_numbered a.pair _ s.well_formed.1.0) (not-false _ c.if-not-node.false) y.result y.ensures _ c.stepped.ensures
