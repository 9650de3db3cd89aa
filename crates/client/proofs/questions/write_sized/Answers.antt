use Prim.Native.Nat.{◌*◌}
use native.Mathlib.Nat.{lt_of_le_of_lt}
use lib.Dec.{lit<}
use borrow.Author.Tests.{eq-eqb, ne_eqb}
use Rattle.config.proofs.Sizes.{board_small}
use Rattle.client.proofs.questions.write_sized.Goals as goal

pub overflow_mul-v : goal.overflow_mul-v
overflow_mul-v c = record { fits = lt_of_le_of_lt (board_small c.args.cfg c.requires) (lit< tt) }

pub returns-then-board-v : goal.returns-then-board-v
returns-then-board-v c = let a = c.args in rw (ne_eqb a.board (a.cfg.k * a.cfg.e) c.if-board-v.true)

pub returns-then-kept-v : goal.returns-then-kept-v
returns-then-kept-v c = let a = c.args in
    rw (eq-eqb a.board (a.cfg.k * a.cfg.e) c.if-board-v.false, ne_eqb a.kept (a.cfg.k * a.cfg.e) c.if-kept-v.true)

pub returns : goal.returns
returns c = let a = c.args in
    rw (eq-eqb a.board (a.cfg.k * a.cfg.e) c.if-board-v.false, eq-eqb a.kept (a.cfg.k * a.cfg.e) c.if-kept-v.false)
