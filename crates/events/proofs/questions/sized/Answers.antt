use native.Mathlib.Omega.{arith}
use borrow.Author.Tests.{eq-eqb, ne_eqb}
use Prim.Native.Nat.{◌*◌}
use Rattle.config.specs.Config.{board_length}
use Rattle.config.proofs.Sizes.{board_small, elements_small, store_small}
use Rattle.config.specs.Config.{store_length}
use Rattle.events.specs.Questions.{sized_by}
use Rattle.events.proofs.Lengths.{all_elements_small, boards_small, stores_small}
use Rattle.events.proofs.questions.sized.Goals as goal

pub overflow_mul-v : goal.overflow_mul-v
overflow_mul-v c = omega (arith, board_small c.args.cfg c.requires.0)

pub returns-then-board-v : goal.returns-then-board-v
unfolding sized_by
returns-then-board-v c =
    let a = c.args in
    rw (ne_eqb a.board (board_length a.cfg) c.if-board-v.true)

pub returns-then-sizes-m : goal.returns-then-sizes-m
unfolding sized_by
returns-then-sizes-m c =
    let a = c.args in
    rw (eq-eqb a.board (board_length a.cfg) c.if-board-v.false, ne_eqb a.sizes.messages (80 * a.m) c.if-sizes-m.true)

pub overflow_mul-store : goal.overflow_mul-store
overflow_mul-store c = omega (arith, store_small c.args.cfg c.requires.0)

pub overflow_mul-cfg : goal.overflow_mul-cfg
overflow_mul-cfg c = omega (arith, stores_small c.args.cfg c.requires.0)

pub returns-then-sizes-cfg : goal.returns-then-sizes-cfg
unfolding sized_by
returns-then-sizes-cfg c =
    let a = c.args in
    rw (eq-eqb a.board (board_length a.cfg) c.if-board-v.false, eq-eqb a.sizes.messages (80 * a.m) c.if-sizes-m.false, ne_eqb a.sizes.stores (a.cfg.n * store_length a.cfg) c.if-sizes-cfg.true)

pub overflow_mul-cfg-2 : goal.overflow_mul-cfg-2
overflow_mul-cfg-2 c = omega (arith, boards_small c.args.cfg c.requires.0)

pub returns-then-sizes-cfg-2 : goal.returns-then-sizes-cfg-2
unfolding sized_by
returns-then-sizes-cfg-2 c =
    let a = c.args in
    rw (eq-eqb a.board (board_length a.cfg) c.if-board-v.false, eq-eqb a.sizes.messages (80 * a.m) c.if-sizes-m.false, eq-eqb a.sizes.stores (a.cfg.n * store_length a.cfg) c.if-sizes-cfg.false, ne_eqb a.sizes.boards (a.cfg.c * board_length a.cfg) c.if-sizes-cfg-2.true)

pub overflow_mul-received : goal.overflow_mul-received
overflow_mul-received c = omega (arith, elements_small c.args.cfg c.requires.0)

pub overflow_mul-result : goal.overflow_mul-result
overflow_mul-result c = omega (arith, all_elements_small c.args.cfg c.requires.0)

pub returns : goal.returns
unfolding sized_by
returns c =
    let a = c.args in
    rw (eq-eqb a.board (board_length a.cfg) c.if-board-v.false, eq-eqb a.sizes.messages (80 * a.m) c.if-sizes-m.false, eq-eqb a.sizes.stores (a.cfg.n * store_length a.cfg) c.if-sizes-cfg.false, eq-eqb a.sizes.boards (a.cfg.c * board_length a.cfg) c.if-sizes-cfg-2.false)
