use mathlib.Core.Path.{◌≡◌, refl, sym, ap, ◌∙◌}
use mathlib.Core.Bool.{true}
use borrow.Author.Tests.{not-true, not-false}
use lib.ListN.{length}
use Rattle.std.proofs.lemmas.Result.{err_from_is_err_and}
use Rattle.config.specs.Config.{Valid}
use Rattle.config.specs.Questions.{first_no}
use Rattle.record.specs.Calls.{with_element}
use Rattle.record.specs.Record.{message_of, well_formed}
use Rattle.record.proofs.Callers.{its_message, read_well_formed}
use Rattle.client.specs.Questions.{is_for}
use Rattle.client.specs.State.{state_within}
use Rattle.client.specs.inner.Questions.{sized}
use Rattle.client.proofs.Asked.{others, passed, short, stopped}
use Rattle.client.proofs.Receiving.{ill_formed, message_length}
use Rattle.client.proofs.questions.receive.Goals as goal
use Rattle.client.proofs.questions.receive.Goals.{Else-not-step_sized}

-- questions 1 to 5, 21 and 6 are answered yes
module _ (c : Else-not-step_sized) where
  sound : Valid c.args.cfg × (state_within c.args.cfg c.args.x ≡ true)
  sound = passed _ _ c.in_ok-ask.ensures

  whole : sized c.args.cfg (length c.args.message.now) c.args.sizes ≡ true
  whole = sym c.step_sized.ensures ∙ not-false _ c.if-not-step_sized.false-raw

  long : length c.args.message.now ≡ 80
  long = message_length c.args.cfg c.args.x c.args.message.now c.args.sizes whole

pub returns-in_err-ask : goal.returns-in_err-ask
unfolding first_no
returns-in_err-ask c =
    let p = err_from_is_err_and c.from_residual.result c.from_residual.ensures.1 in
    rw (p.1, p.2) (λ awaits. stopped _ _ _ c.in_err-ask.ensures _ _)

pub step_sized-requires : goal.step_sized-requires
unfolding first_no
step_sized-requires c = (passed _ _ c.in_ok-ask.ensures).0

pub returns-then-not-step_sized : goal.returns-then-not-step_sized
unfolding first_no
returns-then-not-step_sized c awaits =
    short _ _ c.in_ok-ask.ensures (sym c.step_sized.ensures ∙ not-true _ c.if-not-step_sized.true-raw) _

pub returns-in_err-h : goal.returns-in_err-h
unfolding first_no
returns-in_err-h c =
    let k = (goal.at.returns-in_err-h c).Else-not-step_sized in
    let p = err_from_is_err_and c.from_residual-in_err-h.result c.from_residual-in_err-h.ensures.1 in
    let ill = ill_formed _ _ (sound k).0 (long k) _ c.in_err-h.ensures.number in
    rw (p.1, p.2) (λ awaits. others _ _ c.in_ok-ask.ensures (whole k) _ (ill.1 ∙ rw ill.0))

pub returns-then-not-is_for : goal.returns-then-not-is_for
unfolding first_no with_element
returns-then-not-is_for c =
    let k = (goal.at.returns-then-not-is_for c).Else-not-step_sized in
    let m : with_element c.args.cfg c.in_ok-h.h c.args.message.now ≡ message_of c.args.cfg c.args.message.now = its_message _ _ _ c.in_ok-h.ensures _ refl in
    let f : is_for c.args.x (message_of c.args.cfg c.args.message.now) ≡ c.is_for.result = ap (is_for c.args.x) (sym m) ∙ sym c.is_for.ensures in
    let w : well_formed c.args.cfg c.args.message.now ≡ true = read_well_formed _ _ (sound k).0 (long k) (sym c.in_ok-h.ensures.number) in
    λ awaits. others _ _ c.in_ok-ask.ensures (whole k) _ (rw (w, f ∙ not-true _ c.if-not-is_for.true-raw))

pub returns : goal.returns
unfolding first_no with_element
returns c =
    let k = (goal.at.returns c).Else-not-step_sized in
    let m : with_element c.args.cfg c.in_ok-h.h c.args.message.now ≡ message_of c.args.cfg c.args.message.now = its_message _ _ _ c.in_ok-h.ensures _ refl in
    let f : is_for c.args.x (message_of c.args.cfg c.args.message.now) ≡ c.is_for.result = ap (is_for c.args.x) (sym m) ∙ sym c.is_for.ensures in (
      record {
        valid = (sound k).0;
        within = (sound k).1;
        lengths = whole k;
        well-formed = read_well_formed _ _ (sound k).0 (long k) (sym c.in_ok-h.ensures.number);
        for_me = f ∙ not-false _ c.if-not-is_for.false-raw;
      },
      m,
    )
