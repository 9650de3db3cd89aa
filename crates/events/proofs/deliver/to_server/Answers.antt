use Prim.Native.Nat.{ℕ, ◌*◌}
use mathlib.Core.Path.{sym}
use mathlib.Core.List.{[]}
use native.Mathlib.Omega.{arith}
use lib.ListN.{length-replicate}
use Rattle.laws.proofs.Parts.{lent_is, over_lent, part_fits}
use Rattle.config.proofs.Sizes.{store_small}
use Rattle.config.specs.Config.{store_length}
use Rattle.events.proofs.Lengths.{stores_small}
use Rattle.events.proofs.deliver.Laws.{served, taken_long}
use Rattle.events.proofs.outcome.Laws.{sent_room}
use Rattle.events.proofs.deliver.to_server.Goals as goal

pub overflow_add-long : goal.overflow_add-long
overflow_add-long c = let s = c in omega (arith, s.requires.part.valid.d_high)

pub overflow_mul-long : goal.overflow_mul-long
overflow_mul-long c = let s = c in omega (arith, store_small s.args.cfg s.requires.part.valid)

pub overflow_mul-at : goal.overflow_mul-at
overflow_mul-at c =
    let s = c in
    let a = s.args in
    omega (arith, part_fits a.part.server a.cfg.n (store_length a.cfg) s.requires.part.server, stores_small a.cfg s.requires.part.valid)

pub overflow_add-end : goal.overflow_add-end
overflow_add-end c =
    let s = c in
    let a = s.args in
    omega (arith, part_fits a.part.server a.cfg.n (store_length a.cfg) s.requires.part.server, stores_small a.cfg s.requires.part.valid)

pub slice_bounds-server-end : goal.slice_bounds-server-end
slice_bounds-server-end c = let s = c in sym (taken_long s.requires.handing s.requires.part.fits)

pub slice_bounds-server-end-2 : goal.slice_bounds-server-end-2
slice_bounds-server-end-2 c =
    let s = c in
    let a = s.args in
    omega (arith, part_fits a.part.server a.cfg.n (store_length a.cfg) s.requires.part.server, s.requires.stores_long)

pub settle-requires : goal.settle-requires
settle-requires c = let s = c in sent_room s.requires.part.valid.e_high (c.server-acted.ensures [] [] [])

pub returns : goal.returns
returns c =
    let s = c in
    let a = s.args in
    let long = store_length a.cfg in
    let w = c.server-acted in
    served a.cfg s.requires.part.valid.e_high a.part a.call a.handed a.messages.now a.stores.now s.requires.handing.inside s.requires.handing.taken
    s.requires.handing.kind w.result _ w.new.store _ w.new.answer _ _ c.settle.result (lent_is a.stores.now (a.part.server * long) long)
    (over_lent (a.part.server * long) long w.new.store a.stores.now) (length-replicate {A = ℕ} 80 0) c.answer-2-1.given w.ensures c.settle.ensures
