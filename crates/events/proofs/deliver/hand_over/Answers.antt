use mathlib.Core.Path.{sym, ap, ◌∙◌}
use native.Mathlib.Omega.{arith}
use Rattle.record.specs.Kinds.{is_for_server}
use Rattle.flight.proofs.Laws.{take_is}
use Rattle.events.specs.View.{lent}
use Rattle.events.proofs.deliver.Laws.{hand_missing}
use Rattle.events.proofs.deliver.hand_over.Goals as goal

pub returns-then-count-position : goal.returns-then-count-position
returns-then-count-position c =
    let a = c.args in
    hand_missing a.cfg a.m a.part a.call a.read.now (lent a.messages.now a.stores.now a.boards.now a.elements.now)
    c.refused.result c.refused.ensures c.if-count-position.true

pub bounds-handed-0 : goal.bounds-handed-0
bounds-handed-0 c = omega arith

pub to_server-requires : goal.to_server-requires
to_server-requires c =
    let s = c in
    let pre = s.requires in
    record {
      part = pre.part;
      handing = record {
        inside = c.if-count-position.false;
        taken = take_is c.take-handed.ensures c.if-count-position.false pre.part.fits;
        kind = ap is_for_server (sym c.of-kind.ensures) ∙ sym c.is_for_server.ensures ∙ c.if-is_for_server.true;
      };
      stores_long = pre.stores;
    }

pub returns-then-is_for_server : goal.returns-then-is_for_server
returns-then-is_for_server c =
    let a = c.args in
    λ board code. c.to_server.ensures a.m board a.read.now a.boards.now a.elements.now code

pub to_client-requires : goal.to_client-requires
to_client-requires c =
    let s = c in
    let pre = s.requires in
    record {
      part = pre.part;
      handing = record {
        inside = c.if-count-position.false;
        taken = take_is c.take-handed.ensures c.if-count-position.false pre.part.fits;
        kind = ap is_for_server (sym c.of-kind.ensures) ∙ sym c.is_for_server.ensures ∙ c.if-is_for_server.false;
      };
      boards_long = pre.boards;
      elements_long = pre.elements;
    }

pub returns : goal.returns
returns c = let a = c.args in λ board code. c.to_client.ensures board a.stores.now code
