use mathlib.Core.Path.{sym, ap, ◌∙◌}
use mathlib.Core.List.{[]}
use native.Mathlib.Omega.{arith}
use Rattle.events.specs.declared.Call.{Call}
use Rattle.events.specs.Calls.{call_of}
use Rattle.events.specs.Questions.{places_of}
use Rattle.events.proofs.Inside.{named_inside}
use Rattle.rig.proofs.CrashOrRestart.{asked_valid, alone_refused, alone_turned}
use Rattle.rig.proofs.crash_or_restart.Goals as goal

pub returns-in-Err : goal.returns-in-Err
returns-in-Err c =
    let a = c.args in
    alone_refused a.cfg a.m a.rig (call_of a.which a.party) _ c.in-Err.ensures c.unturned.ensures

pub part_of-part-requires : goal.part_of-part-requires
part_of-part-requires c =
    let a = c.args in
    named_inside (asked_valid a.cfg a.m a.rig (sym c.in_default.ensures)) a.rig.count c.call.result [] c.names-places.ensures

pub turned-requires : goal.turned-requires
turned-requires c =
    let a = c.args in
    let low = named_inside (asked_valid a.cfg a.m a.rig (sym c.in_default.ensures)) a.rig.count c.call.result [] c.names-places.ensures in
    let at = c.part_of-part.ensures in
    let stays = c.crash_or_restart-change.ensures in
    (omega (arith, low.0, at.server, stays.server), omega (arith, low.1, at.client, stays.client))

pub returns : goal.returns
returns c =
    let a = c.args in
    alone_turned a.cfg a.m a.rig (call_of a.which a.party) (sym c.in_default.ensures)
    (c.names-places.ensures ∙ ap (λ (z : Call). places_of a.cfg a.rig.count z []) c.call.ensures)
    c.part_of-part.ensures c.crash_or_restart-change.ensures c.turned.ensures
