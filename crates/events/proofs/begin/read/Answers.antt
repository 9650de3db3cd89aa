use Prim.Native.Nat.{◌*◌}
use mathlib.Core.List.{[]}
use native.Mathlib.Omega.{arith}
use Rattle.laws.proofs.Parts.{lent_is, over_lent}
use Rattle.events.proofs.begin.Laws.{asked_yes, read_acted, read_refused}
use Rattle.events.proofs.outcome.Laws.{sent_room}
use Rattle.events.proofs.begin.read.Goals as goal

pub asked-requires : goal.asked-requires
asked-requires c = let s = c in (s.requires.part.valid, s.requires.part.few)

pub returns-in-Err : goal.returns-in-Err
returns-in-Err c =
    let a = c.args in
    read_refused a.cfg a.m a.part a.call a.messages.now c.refused.result _ c.refused.ensures c.in-Err.ensures

pub overflow_mul-from : goal.overflow_mul-from
overflow_mul-from c = let s = c in omega (arith, s.requires.part.few)

pub overflow_mul-end : goal.overflow_mul-end
overflow_mul-end c = let s = c in omega (arith, s.requires.part.valid.n_high)

pub overflow_add-end : goal.overflow_add-end
overflow_add-end c = let s = c in omega (arith, s.requires.part.few, s.requires.part.valid.n_high)

pub slice_bounds-read-end : goal.slice_bounds-read-end
slice_bounds-read-end c =
    let s = c in
    let a = s.args in
    omega (arith, s.requires.long, (asked_yes a.cfg a.m a.part a.call.party c.in_default.ensures).1)

pub overflow_add-count : goal.overflow_add-count
overflow_add-count c =
    let s = c in
    omega (arith, sent_room s.requires.part.valid.e_high (c.read-acted.ensures [] [] [] []), c.messages-1.given.0, s.requires.part.few, s.requires.part.valid.n_high)

pub returns : goal.returns
returns c =
    let s = c in
    let a = s.args in
    let n = a.part.count in
    let w = c.read-acted in
    read_acted a.cfg a.m a.part a.call a.messages.now c.acted.result c.in_default.ensures
    s.requires.long w.result _ w.new.sends _ c.acted.ensures (lent_is a.messages.now (80 * n) (80 * a.cfg.n))
    (over_lent (80 * n) (80 * a.cfg.n) w.new.sends a.messages.now)
    c.messages-1.given.0 w.ensures
