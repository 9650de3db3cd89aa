use Prim.Native.Nat.{◌*◌}
use native.Mathlib.Omega.{arith}
use Rattle.laws.proofs.Parts.{part_fits}
use Rattle.config.specs.Config.{board_length, elements_length, store_length}
use Rattle.config.proofs.Sizes.{board_small, elements_small, store_small}
use Rattle.events.specs.View.{lent}
use Rattle.events.proofs.Lengths.{all_elements_small, boards_small, stores_small}
use Rattle.boards.proofs.Making.{is_valid, kept_high, one_done, received_high, starts_high, stores_high}
use Rattle.boards.proofs.fresh.one.Goals as goal

pub overflow_mul-v : goal.overflow_mul-v
overflow_mul-v c = let s = c in omega (arith, board_small s.args.cfg (is_valid s.args.cfg s.args.room s.requires.pre.accepted))

pub overflow_mul-at : goal.overflow_mul-at
overflow_mul-at c = let s = c in omega (arith, part_fits s.args.i s.args.room.boards (board_length s.args.cfg) s.requires.place, starts_high s.args.cfg s.args.room s.requires.pre.accepted)

pub overflow_add-to : goal.overflow_add-to
overflow_add-to c = let s = c in omega (arith, part_fits s.args.i s.args.room.boards (board_length s.args.cfg) s.requires.place, starts_high s.args.cfg s.args.room s.requires.pre.accepted)

pub overflow_add-store : goal.overflow_add-store
overflow_add-store c = let s = c in omega (arith, (is_valid s.args.cfg s.args.room s.requires.pre.accepted).d_high)

pub overflow_mul-store : goal.overflow_mul-store
overflow_mul-store c = let s = c in omega (arith, store_small s.args.cfg (is_valid s.args.cfg s.args.room s.requires.pre.accepted))

pub overflow_mul-store-2 : goal.overflow_mul-store-2
overflow_mul-store-2 c = let s = c in omega (arith, stores_small s.args.cfg (is_valid s.args.cfg s.args.room s.requires.pre.accepted))

pub overflow_mul-from_store : goal.overflow_mul-from_store
overflow_mul-from_store c = let s = c in omega (arith, part_fits s.args.i s.args.room.boards (s.args.cfg.n * store_length s.args.cfg) s.requires.place, stores_high s.args.cfg s.args.room s.requires.pre.accepted)

pub overflow_add-to_store : goal.overflow_add-to_store
overflow_add-to_store c = let s = c in omega (arith, part_fits s.args.i s.args.room.boards (s.args.cfg.n * store_length s.args.cfg) s.requires.place, stores_high s.args.cfg s.args.room s.requires.pre.accepted)

pub overflow_mul-kept : goal.overflow_mul-kept
overflow_mul-kept c = let s = c in omega (arith, boards_small s.args.cfg (is_valid s.args.cfg s.args.room s.requires.pre.accepted))

pub overflow_mul-from_kept : goal.overflow_mul-from_kept
overflow_mul-from_kept c = let s = c in omega (arith, part_fits s.args.i s.args.room.boards (s.args.cfg.c * board_length s.args.cfg) s.requires.place, kept_high s.args.cfg s.args.room s.requires.pre.accepted)

pub overflow_add-to_kept : goal.overflow_add-to_kept
overflow_add-to_kept c = let s = c in omega (arith, part_fits s.args.i s.args.room.boards (s.args.cfg.c * board_length s.args.cfg) s.requires.place, kept_high s.args.cfg s.args.room s.requires.pre.accepted)

pub overflow_mul-received : goal.overflow_mul-received
overflow_mul-received c = let s = c in omega (arith, elements_small s.args.cfg (is_valid s.args.cfg s.args.room s.requires.pre.accepted))

pub overflow_mul-received-2 : goal.overflow_mul-received-2
overflow_mul-received-2 c = let s = c in omega (arith, all_elements_small s.args.cfg (is_valid s.args.cfg s.args.room s.requires.pre.accepted))

pub overflow_mul-from_received : goal.overflow_mul-from_received
overflow_mul-from_received c = let s = c in omega (arith, part_fits s.args.i s.args.room.boards (s.args.cfg.c * elements_length s.args.cfg) s.requires.place, received_high s.args.cfg s.args.room s.requires.pre.accepted)

pub overflow_add-to_received : goal.overflow_add-to_received
overflow_add-to_received c = let s = c in omega (arith, part_fits s.args.i s.args.room.boards (s.args.cfg.c * elements_length s.args.cfg) s.requires.place, received_high s.args.cfg s.args.room s.requires.pre.accepted)

pub slice_bounds-make-end : goal.slice_bounds-make-end
slice_bounds-make-end c = let s = c in omega (arith, part_fits s.args.i s.args.room.boards (board_length s.args.cfg) s.requires.place, s.requires.pre.start_long)

pub slice_bounds-make-end-2 : goal.slice_bounds-make-end-2
slice_bounds-make-end-2 c = let s = c in omega (arith, part_fits s.args.i s.args.room.boards (s.args.cfg.n * store_length s.args.cfg) s.requires.place, s.requires.pre.stores)

pub slice_bounds-make-end-3 : goal.slice_bounds-make-end-3
slice_bounds-make-end-3 c = let s = c in omega (arith, part_fits s.args.i s.args.room.boards (s.args.cfg.c * board_length s.args.cfg) s.requires.place, s.requires.pre.boards)

pub slice_bounds-make-end-4 : goal.slice_bounds-make-end-4
slice_bounds-make-end-4 c = let s = c in omega (arith, part_fits s.args.i s.args.room.boards (s.args.cfg.c * elements_length s.args.cfg) s.requires.place, s.requires.pre.elements)

pub returns : goal.returns
returns c =
    let a = c.args in
    let w = c.make-made in
    one_done a.cfg a.room a.i a.start.now (lent a.messages.now a.stores.now a.boards.now a.elements.now) w.result
    w.new.messages w.new.stores w.new.boards w.new.elements w.ensures
