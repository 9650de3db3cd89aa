use mathlib.Core.Path.{refl, sym}
use native.Mathlib.Omega.{arith}
use Rattle.config.proofs.Sizes.{board_small, elements_small, lengths_none, lengths_valid, sends_small, store_small}
use Rattle.config.proofs.Refusals.{refusal_low}
use Rattle.config.proofs.Valid.{asked_valid}
use Rattle.config.proofs.Config.lengths.Goals as goal

pub returns-in_default : goal.returns-in_default
returns-in_default c =
    let a = c.args in
    sym (lengths_none a.self a.m (λ z. omega (arith, refusal_low c.in_default.field-0, c.in_default.ensures, z)))

pub overflow_mul-result : goal.overflow_mul-result
overflow_mul-result c =
    let v = asked_valid c.args.self c.in-Ok.ensures refl in
    omega (arith, board_small _ v)

pub overflow_add-result : goal.overflow_add-result
overflow_add-result c = omega (arith, (asked_valid c.args.self c.in-Ok.ensures refl).d_high)

pub overflow_mul-result-2 : goal.overflow_mul-result-2
overflow_mul-result-2 c =
    let v = asked_valid c.args.self c.in-Ok.ensures refl in
    omega (arith, store_small _ v)

pub overflow_mul-result-3 : goal.overflow_mul-result-3
overflow_mul-result-3 c =
    let v = asked_valid c.args.self c.in-Ok.ensures refl in
    omega (arith, sends_small _ v)

pub overflow_mul-result-4 : goal.overflow_mul-result-4
overflow_mul-result-4 c =
    let v = asked_valid c.args.self c.in-Ok.ensures refl in
    omega (arith, elements_small _ v)

pub returns : goal.returns
returns c =
    let a = c.args in
    let v = asked_valid a.self c.in-Ok.ensures refl in
    rw (lengths_valid a.self v a.m, c.messages_length.ensures)
