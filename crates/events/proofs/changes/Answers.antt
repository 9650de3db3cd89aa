use mathlib.Core.Path.{sym, ◌∙◌}
use borrow.Author.Tests.{not-true, not-false}
use Rattle.config.specs.declared.Refusal.{Refusal}
use Rattle.config.proofs.Refusals.{refusal_some}
use Rattle.events.specs.View.{lent}
use Rattle.events.proofs.Entry.{lent_no, lent_valid, part_changed, part-no, part_pre, part_refused, places_no}
use Rattle.events.proofs.changes.Goals as goal

pub returns-in-Err : goal.returns-in-Err
returns-in-Err c =
    let a = c.args in
    let l = lent a.messages.now a.stores.now a.boards.now a.elements.now in
    part_refused a.cfg a.m a.part a.call a.board.now a.read.now l _
    (lent_no a.cfg a.m a.part a.call a.board.now a.read.now l _ c.in-Err.ensures (refusal_some _ c.in-Err.ensures).0) c.refused.ensures

pub returns-then-not-has : goal.returns-then-not-has
returns-then-not-has c =
    let a = c.args in
    let l = lent a.messages.now a.stores.now a.boards.now a.elements.now in
    let passed = sym c.in_default.ensures in
    part_refused a.cfg a.m a.part a.call a.board.now a.read.now l Refusal.Shape (places_no a.cfg a.m a.part a.call a.board.now a.read.now l passed (sym c.has.ensures ∙ not-true _ c.if-not-has.true-raw)) c.refused-then-not-has.ensures

pub part-requires : goal.part-requires
part-requires c =
    let a = c.args in
    let l = lent a.messages.now a.stores.now a.boards.now a.elements.now in
    let passed = sym c.in_default.ensures in
    lent_valid a.cfg a.m a.part a.call a.board.now a.read.now l passed

pub returns-then-not-part : goal.returns-then-not-part
returns-then-not-part c =
    let a = c.args in
    let l = lent a.messages.now a.stores.now a.boards.now a.elements.now in
    let passed = sym c.in_default.ensures in
    let own = sym c.has.ensures ∙ not-false _ c.if-not-has.false-raw in
    part_refused a.cfg a.m a.part a.call a.board.now a.read.now l Refusal.Shape (part-no a.cfg a.m a.part a.call a.board.now a.read.now l passed own (sym c.part.ensures ∙ not-true _ c.if-not-part.true-raw)) c.refused-then-not-part.ensures

pub event-requires-2 : goal.event-requires-2
event-requires-2 c =
    let a = c.args in
    let l = lent a.messages.now a.stores.now a.boards.now a.elements.now in
    let passed = sym c.in_default.ensures in
    let own = sym c.has.ensures ∙ not-false _ c.if-not-has.false-raw in
    part_pre a.cfg a.m a.part a.call a.board.now a.read.now l passed own

pub returns : goal.returns
returns c =
    let a = c.args in
    let l = lent a.messages.now a.stores.now a.boards.now a.elements.now in
    let passed = sym c.in_default.ensures in
    let own = sym c.has.ensures ∙ not-false _ c.if-not-has.false-raw in
    part_changed a.cfg a.m a.part a.call a.board.now a.read.now l passed own (sym c.part.ensures ∙ not-false _ c.if-not-part.false-raw) c.event-2.ensures
