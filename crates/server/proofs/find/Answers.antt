use Rattle.std.proofs.Common.{◌*◌, ◌≤◌, sym, mul-le-mul, arith, rules}
use Rattle.std.proofs.lemmas.Result.{err_from_is_err_and}
use Rattle.laws.proofs.Parts.{part_fits}
use Rattle.server.specs.View.{tag_at}
use Rattle.server.proofs.Asked.{state_holds}
use Rattle.server.proofs.Limits.{state_eight}
use Rattle.server.proofs.Keep.{from_zero}
use Rattle.server.proofs.Lending.{found_at, found_no, found_nowhere}
use Rattle.server.proofs.find.Goals as goal

pub returns-in_err-ask : goal.returns-in_err-ask
returns-in_err-ask c =
    let p = err_from_is_err_and c.from_residual.result c.from_residual.ensures.1 in
    rw (p.1, p.2) (found_no _ _ _ _ c.in_err-ask.ensures)

pub place_of-place-requires : goal.place_of-place-requires
place_of-place-requires c =
    let a = c.args in
    let held = state_holds a.cfg a.state a.long (sym c.in_ok-ask.ensures) in
    (search rules, state_eight a.cfg a.state held.1 held.0)

pub returns-then-count-place : goal.returns-then-count-place
returns-then-count-place c =
    let a = c.args in
    found_nowhere a.cfg a.state a.tag a.long c.in_ok-ask.ensures _
    (from_zero a.tag (tag_at a.state.tags) a.state.count _ c.place_of-place.ensures) c.if-count-place.true

pub overflow_mul-result : goal.overflow_mul-result
overflow_mul-result c =
    let a = c.args in
    let held = state_holds a.cfg a.state a.long (sym c.in_ok-ask.ensures) in
    let m : a.state.count * a.cfg.e ≤ 8 * 64 = mul-le-mul (state_eight a.cfg a.state held.1 held.0) held.0.e_high in
    omega (arith, part_fits _ a.state.count a.cfg.e c.if-count-place.false)

pub returns : goal.returns
returns c =
    let a = c.args in
    found_at a.cfg a.state a.tag a.long c.in_ok-ask.ensures _
    (from_zero a.tag (tag_at a.state.tags) a.state.count _ c.place_of-place.ensures) c.if-count-place.false
