use native.Mathlib.Nat.{lt_of_le_of_lt}
use lib.Dec.{lit<}
use borrow.Author.Tests.{eq-eqb, ne_eqb}
use Rattle.config.proofs.Sizes.{board_small, elements_small}
use Rattle.client.proofs.questions.step_sized.Goals as goal

pub overflow_mul-v : goal.overflow_mul-v
overflow_mul-v c = record { fits = lt_of_le_of_lt (board_small _ c.requires) (lit< tt) }

pub returns-then-message-ne-RECORD : goal.returns-then-message-ne-RECORD
returns-then-message-ne-RECORD c = rw (ne_eqb _ 80 c.if-message-ne-RECORD.true)

pub returns-then-sizes-v : goal.returns-then-sizes-v
returns-then-sizes-v c = rw (eq-eqb _ 80 c.if-message-ne-RECORD.false, ne_eqb _ _ c.if-sizes-v.true)

pub overflow_mul-cfg : goal.overflow_mul-cfg
overflow_mul-cfg c = record { fits = lt_of_le_of_lt (elements_small _ c.requires) (lit< tt) }

pub returns-then-sizes-cfg : goal.returns-then-sizes-cfg
returns-then-sizes-cfg c = rw (eq-eqb _ 80 c.if-message-ne-RECORD.false, eq-eqb _ _ c.if-sizes-v.false, ne_eqb _ _ c.if-sizes-cfg.true)

pub returns-then-sizes-cfg-2 : goal.returns-then-sizes-cfg-2
returns-then-sizes-cfg-2 c = let b = c in
    rw (eq-eqb _ 80 b.if-message-ne-RECORD.false, eq-eqb _ _ b.if-sizes-v.false, eq-eqb _ _ b.if-sizes-cfg.false, ne_eqb _ _ c.if-sizes-cfg-2.true)

pub returns : goal.returns
returns c = let b = c in
    rw (eq-eqb _ 80 b.if-message-ne-RECORD.false, eq-eqb _ _ b.if-sizes-v.false, eq-eqb _ _ b.if-sizes-cfg.false, eq-eqb _ _ c.if-sizes-cfg-2.false)
