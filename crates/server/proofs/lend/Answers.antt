use Rattle.std.proofs.Common.{length, subst, arith}
use Rattle.std.specs.Prelude.{Ok}
use Rattle.tag.proofs.Order.{Small}
use Rattle.server.specs.Calls.{FindPost}
use Rattle.server.proofs.Lending.{lent_at, lent_fits, lent_low, lent_nowhere}
use Rattle.server.proofs.lend.Goals as goal

pub overflow_add-end : goal.overflow_add-end
overflow_add-end c =
    let a = c.args in
    let at = c.in-Ok-Some in
    let small : Small a.tag = omega arith in
    omega (arith, lent_low _ _ _ _ _ (subst (λ x. FindPost a.cfg a.state a.tag (length a.store.now) (Ok x)) at.field-0-is at.ensures) small)

pub slice_bounds-result-end-in-Ok-Some : goal.slice_bounds-result-end-in-Ok-Some
slice_bounds-result-end-in-Ok-Some c =
    let a = c.args in
    let at = c.in-Ok-Some in
    let small : Small a.tag = omega arith in
    lent_fits _ _ _ _ _ (subst (λ x. FindPost a.cfg a.state a.tag (length a.store.now) (Ok x)) at.field-0-is at.ensures) small

pub returns-in-Ok-None : goal.returns-in-Ok-None
returns-in-Ok-None c =
    let a = c.args in
    let at = c.in-Ok-None in
    let small : Small a.tag = omega arith in
    lent_nowhere _ _ _ _ (subst (λ x. FindPost a.cfg a.state a.tag (length a.store.now) (Ok x)) at.field-0-is at.ensures) small

pub returns-in-Ok-Some : goal.returns-in-Ok-Some
returns-in-Ok-Some c =
    let a = c.args in
    let at = c.in-Ok-Some in
    let small : Small a.tag = omega arith in
    lent_at _ _ _ _ _ (subst (λ x. FindPost a.cfg a.state a.tag (length a.store.now) (Ok x)) at.field-0-is at.ensures) small
