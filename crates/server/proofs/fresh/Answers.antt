use Rattle.std.proofs.Common.{sym, refl, ◌∙◌, arith, rules}
use borrow.Author.Tests.{not-true, not-false}
use Rattle.config.specs.declared.Refusal.TheVariants.{Missing, Shape}
use Rattle.config.specs.Config.{questions}
use Rattle.config.proofs.Questions.{first_no_stop}
use Rattle.config.proofs.Refusals.{refusal_some}
use Rattle.config.proofs.Sizes.{board_small}
use Rattle.config.proofs.Valid.{valid}
use Rattle.server.specs.Calls.{fresh_questions}
use Rattle.server.proofs.Begin.{fresh_element, fresh_number, fresh_store, made_fresh, not_fresh}
use Rattle.server.proofs.fresh.Goals as goal

pub returns-in-Err : goal.returns-in-Err
unfolding fresh_questions
returns-in-Err c =
    let a = c.args in
    let some = refusal_some _ c.in-Err.ensures in
    not_fresh a.cfg a.me _ _ _ c.first.ensures _ _ c.refused.ensures
    (c.in-Err.ensures ∙ sym (first_no_stop (questions a.cfg) _ some.1))

pub returns-then-element-cfg : goal.returns-then-element-cfg
returns-then-element-cfg c =
    let a = c.args in
    not_fresh a.cfg a.me _ _ _ c.first-then-element-cfg.ensures _ Shape c.refused-then-element-cfg.ensures
    (sym (fresh_element a.cfg a.me _ _ (sym c.in_default.ensures) c.if-element-cfg.true))

pub store_length-requires : goal.store_length-requires
store_length-requires c = valid _ (sym c.in_default.ensures)

pub returns-then-store-store_length : goal.returns-then-store-store_length
returns-then-store-store_length c =
    let a = c.args in
    not_fresh a.cfg a.me _ _ _ c.first-then-store-store_length.ensures _ Shape c.refused-then-store-store_length.ensures
    (sym (fresh_store a.cfg a.me _ _ (sym c.in_default.ensures) c.if-element-cfg.false (λ z. c.if-store-store_length.true (z ∙ sym c.store_length.ensures))))

pub returns-then-not-server_within : goal.returns-then-not-server_within
returns-then-not-server_within c =
    let a = c.args in
    not_fresh a.cfg a.me _ _ _ c.first-then-not-server_within.ensures _ Missing c.refused-then-not-server_within.ensures
    (sym (fresh_number a.cfg a.me _ _ (sym c.in_default.ensures) c.if-element-cfg.false (c.if-store-store_length.false ∙ c.store_length.ensures)
    (sym c.server_within.ensures ∙ not-true _ c.if-not-server_within.true-raw)))

pub overflow_mul-cfg : goal.overflow_mul-cfg
overflow_mul-cfg c = omega (arith, board_small c.args.cfg (valid _ (sym c.in_default.ensures)))

pub overflow_cast-cfg : goal.overflow_cast-cfg
overflow_cast-cfg c = omega (arith, board_small c.args.cfg (valid _ (sym c.in_default.ensures)))

pub returns : goal.returns
returns c =
    let a = c.args in
    made_fresh a.cfg a.me _ _ (sym c.in_default.ensures) c.if-element-cfg.false (c.if-store-store_length.false ∙ c.store_length.ensures)
    (sym c.server_within.ensures ∙ not-false _ c.if-not-server_within.false-raw) _ _ (c.copy.ensures.whole (search rules)).1 refl c.first-2.ensures
