use Prim.Native.Nat.{◌*◌}
use mathlib.Core.List.{[]}
use native.Mathlib.Omega.{arith}
use Rattle.laws.proofs.Parts.{lent_is, over_lent, part_fits}
use Rattle.config.specs.Config.{board_length}
use Rattle.config.proofs.Sizes.{board_small}
use Rattle.events.proofs.Lengths.{boards_small}
use Rattle.events.proofs.begin.Laws.{asked_yes, write_acted, write_refused, write_yes}
use Rattle.events.proofs.outcome.Laws.{sent_room}
use Rattle.events.proofs.begin.write.Goals as goal

pub write_asked-requires : goal.write_asked-requires
write_asked-requires c = let s = c in (s.requires.0.part.valid, s.requires.0.part.few)

pub returns-in-Err : goal.returns-in-Err
returns-in-Err c =
    let a = c.args in
    write_refused a.cfg a.m a.part a.call a.messages.now c.refused.result _ c.refused.ensures c.in-Err.ensures a.board.now a.boards.now

pub overflow_mul-from : goal.overflow_mul-from
overflow_mul-from c = let s = c in omega (arith, s.requires.0.part.few)

pub overflow_mul-end : goal.overflow_mul-end
overflow_mul-end c = let s = c in omega (arith, s.requires.0.part.valid.n_high)

pub overflow_add-end : goal.overflow_add-end
overflow_add-end c = let s = c in omega (arith, s.requires.0.part.few, s.requires.0.part.valid.n_high)

pub overflow_mul-long : goal.overflow_mul-long
overflow_mul-long c = let s = c in omega (arith, board_small s.args.cfg s.requires.0.part.valid)

pub overflow_mul-at : goal.overflow_mul-at
overflow_mul-at c =
    let s = c in
    let a = s.args in
    omega (arith, part_fits a.part.client a.cfg.c (board_length a.cfg) s.requires.0.part.client, boards_small a.cfg s.requires.0.part.valid)

pub overflow_add-to : goal.overflow_add-to
overflow_add-to c =
    let s = c in
    let a = s.args in
    omega (arith, part_fits a.part.client a.cfg.c (board_length a.cfg) s.requires.0.part.client, boards_small a.cfg s.requires.0.part.valid)

pub slice_bounds-write-end : goal.slice_bounds-write-end
slice_bounds-write-end c =
    let s = c in
    let a = s.args in
    omega (arith, part_fits a.part.client a.cfg.c (board_length a.cfg) s.requires.0.part.client, s.requires.1)

pub slice_bounds-write-end-2 : goal.slice_bounds-write-end-2
slice_bounds-write-end-2 c =
    let s = c in
    let a = s.args in
    omega (arith, s.requires.0.long, (asked_yes a.cfg a.m a.part a.call.party (write_yes a.cfg a.m a.part a.call c.in_default.ensures).1).1)

pub overflow_add-count : goal.overflow_add-count
overflow_add-count c =
    let s = c in
    omega (arith, sent_room s.requires.0.part.valid.e_high (c.write-acted.ensures [] [] []), c.messages-1.given.0, s.requires.0.part.few, s.requires.0.part.valid.n_high)

pub returns : goal.returns
returns c =
    let s = c in
    let a = s.args in
    let n = a.part.count in
    let v = board_length a.cfg in
    let w = c.write-acted in
    let asked = write_yes a.cfg a.m a.part a.call c.in_default.ensures in
    write_acted a.cfg a.m a.part a.call a.messages.now c.acted.result asked.1
    s.requires.0.long w.result _ w.new.sends _ c.acted.ensures (lent_is a.messages.now (80 * n) (80 * a.cfg.n))
    (over_lent (80 * n) (80 * a.cfg.n) w.new.sends a.messages.now) c.messages-1.given.0
    asked.0 a.board.now a.boards.now _ w.new.kept _ (lent_is a.boards.now (a.part.client * v) v) (over_lent (a.part.client * v) v w.new.kept a.boards.now)
    w.ensures
