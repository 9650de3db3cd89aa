use mathlib.Core.Path.{◌≡◌, refl, sym, ◌∙◌}
use mathlib.Core.Bool.{true, false}
use mathlib.Core.List.{[]}
use borrow.Author.Tests.{eq-eqb, ne_eqb}
use Rattle.config.specs.declared.Config.{Config}
use Rattle.config.specs.declared.Refusal.{Refusal}
use Rattle.config.specs.declared.Refusal.TheVariants.{UpOrDown}
use Rattle.config.specs.Questions.{first_no}
use Rattle.config.specs.Refusal.{refusal_number}
use Rattle.config.proofs.Questions.{first_no_no, first_no_yes}
use Rattle.config.proofs.Refusals.{refusal_some}
use Rattle.protocol.specs.Client.{is_up}
use Rattle.client.specs.declared.Moved.{Moved}
use Rattle.client.specs.declared.Phase.{Phase}
use Rattle.client.specs.declared.Phase.TheVariants.{Idle, Asking, PreWriting, FinalisingWrite, FinalisingRead, Down}
use Rattle.client.specs.declared.State.{State}
use Rattle.client.specs.Calls.{CrashPost}
use Rattle.client.specs.Questions.{crash_questions}
use Rattle.client.specs.State.{bare, phase_of, view}
use Rattle.client.specs.inner.Outcome.{RefusedPost}
use Rattle.client.proofs.Asked.{others, stopped}
use Rattle.client.proofs.crash.Goals as goal

module _ (cfg : Config) (x : State) where
  up : (p : Phase) → x.phase ≡ p → (x.phase ≡ Down → ⊥) → is_up (bare cfg x).phase ≡ true
  unfolding view is_up phase_of
  up Idle e h = rw e
  up (Asking writes best counted) e h = rw e
  up (PreWriting tag counted) e h = rw e
  up (FinalisingWrite tag counted) e h = rw e
  up (FinalisingRead tag counted sent) e h = rw e
  up Down e h = absurd (h e)

  down : x.phase ≡ Down → is_up (bare cfg x).phase ≡ false
  unfolding view is_up phase_of
  down e = rw e

  refused : (why : Refusal) {r : Moved} → refusal_number why ≡ first_no (crash_questions cfg x) → RefusedPost x (refusal_number why) r → CrashPost cfg x r
  refused why e h =
      record {
        number = h.verdict ∙ e;
        state = h.state ∙ rw (ne_eqb (first_no (crash_questions cfg x)) 0 (refusal_some why e).1);
        sent = h.sent;
        nothing = h.ended;
      }

pub returns-in-Err : goal.returns-in-Err
returns-in-Err c = refused _ _ _ (stopped _ _ _ c.in-Err.ensures true _) c.refused.ensures

pub returns-in_default-phase : goal.returns-in_default-phase
unfolding first_no
returns-in_default-phase c =
    let a = c.args in
    let none = others _ _ c.in_default.ensures refl _ (sym (first_no_yes 9 _ [] (up a.cfg a.state _ refl c.in_default-phase.not-Down))) in
    rw (c.accepted.ensures, c.in_phase.ensures)
    (record { number = none; state = rw (eq-eqb _ 0 (sym none)); sent = refl; nothing = refl })

pub returns : goal.returns
returns c =
    let a = c.args in
    refused _ _ UpOrDown (others _ _ c.in_default.ensures refl _ (sym (first_no_no 9 _ [] (down a.cfg a.state c.in-Down.is)))) c.refused-2.ensures
