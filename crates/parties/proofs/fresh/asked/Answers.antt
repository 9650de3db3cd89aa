use mathlib.Core.Bool.{◌&&◌}
use mathlib.Core.Path.{refl, sym, ap, ap₂, ◌∙◌}
use native.Mathlib.Omega.{arith}
use borrow.Author.Tests.{eq-eqb, ne_eqb, not-false, not-true}
use lib.Dec.{eqb}
use Rattle.config.specs.Config.{questions}
use Rattle.config.proofs.Exits.{stopped}
use Rattle.config.specs.Config.{board_length, store_length}
use Rattle.config.proofs.Sizes.{board_small, store_small}
use Rattle.config.proofs.Valid.{asked_valid}
use Rattle.parties.specs.Fresh.{fresh_server_questions}
use Rattle.parties.proofs.Making.{eight_no, none_no, six_no}
use Rattle.parties.proofs.fresh.asked.Goals as goal

pub returns-in_err-ask : goal.returns-in_err-ask
unfolding fresh_server_questions
returns-in_err-ask c = stopped c.from_residual.result _ (questions c.args.cfg) _ c.from_residual.ensures.1 c.in_err-ask.ensures

pub overflow_mul-cfg : goal.overflow_mul-cfg
overflow_mul-cfg c = omega (arith, board_small c.args.cfg (asked_valid c.args.cfg c.in_ok-ask.ensures refl))

pub returns-then-start-cfg : goal.returns-then-start-cfg
returns-then-start-cfg c =
    let a = c.args in
    six_no a.cfg a.s a.start a.store c.in_ok-ask.ensures refl
    (ap (λ b. b && eqb a.store (store_length a.cfg)) (ne_eqb a.start (board_length a.cfg) c.if-start-cfg.true))

pub overflow_add-cfg : goal.overflow_add-cfg
overflow_add-cfg c = omega (arith, (asked_valid c.args.cfg c.in_ok-ask.ensures refl).d_high)

pub overflow_mul-cfg-2 : goal.overflow_mul-cfg-2
overflow_mul-cfg-2 c = omega (arith, store_small c.args.cfg (asked_valid c.args.cfg c.in_ok-ask.ensures refl))

pub returns-then-store-cfg : goal.returns-then-store-cfg
returns-then-store-cfg c =
    let a = c.args in
    six_no a.cfg a.s a.start a.store c.in_ok-ask.ensures refl
    (ap₂ ◌&&◌ (eq-eqb a.start (board_length a.cfg) c.if-start-cfg.false) (ne_eqb a.store (store_length a.cfg) c.if-store-cfg.true))

pub returns-then-not-server_exists : goal.returns-then-not-server_exists
returns-then-not-server_exists c =
    let a = c.args in
    eight_no a.cfg a.s a.start a.store c.in_ok-ask.ensures refl
    (ap₂ ◌&&◌ (eq-eqb a.start (board_length a.cfg) c.if-start-cfg.false) (eq-eqb a.store (store_length a.cfg) c.if-store-cfg.false))
    (sym c.server_exists.ensures ∙ not-true _ c.if-not-server_exists.true-raw)

pub returns : goal.returns
returns c =
    let a = c.args in
    none_no a.cfg a.s a.start a.store c.in_ok-ask.ensures refl
    (ap₂ ◌&&◌ (eq-eqb a.start (board_length a.cfg) c.if-start-cfg.false) (eq-eqb a.store (store_length a.cfg) c.if-store-cfg.false))
    (sym c.server_exists.ensures ∙ not-false _ c.if-not-server_exists.false-raw)
