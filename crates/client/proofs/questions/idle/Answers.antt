use mathlib.Core.Path.{◌≡◌, refl}
use mathlib.Core.List.{[], ◌∷◌}
use borrow.Author.Tests.{lt-ltb, le-ltb}
use denote.Enum.Declared.{tag_of}
use types.Run.{OneOf, miss}
use Rattle.config.specs.declared.Config.{Config}
use Rattle.config.specs.Questions.{first_no}
use Rattle.protocol.specs.Client.{begin_questions, is_idle, is_up}
use Rattle.client.specs.declared.Phase.{Phase}
use Rattle.client.specs.declared.Phase.TheVariants.{Idle, Asking, PreWriting, FinalisingWrite, FinalisingRead, Down}
use Rattle.client.specs.declared.State.{State}
use Rattle.client.specs.State.{bare, phase_of, view}
use Rattle.client.specs.contracts.Phase as phase
use borrow.Enum.Refused.{opened}
use Rattle.client.proofs.questions.idle.Goals as goal

-- neither idle nor down
busy : (cfg : Config) (x : State) (p : Phase) → x.phase ≡ p → OneOf (1 ∷ 2 ∷ 3 ∷ 4 ∷ []) (tag_of phase.the_type p) → 10 ≡ first_no (begin_questions (bare cfg x))
unfolding first_no begin_questions view is_up is_idle phase_of
busy cfg x Idle e h = absurd (miss (1 ∷ 2 ∷ 3 ∷ 4 ∷ []) 0 tt h)
busy cfg x (Asking writes best counted) e h = rw e
busy cfg x (PreWriting tag counted) e h = rw e
busy cfg x (FinalisingWrite tag counted) e h = rw e
busy cfg x (FinalisingRead tag counted sent) e h = rw e
busy cfg x Down e h = absurd (miss (1 ∷ 2 ∷ 3 ∷ 4 ∷ []) 5 tt h)

pub returns-then-x-lt-HIGHEST_NUMBER : goal.returns-then-x-lt-HIGHEST_NUMBER
unfolding first_no begin_questions view is_up is_idle phase_of
returns-then-x-lt-HIGHEST_NUMBER c cfg = rw (c.in-Idle.is, lt-ltb _ _ c.if-x-lt-HIGHEST_NUMBER.true)

pub returns-else-x-lt-HIGHEST_NUMBER : goal.returns-else-x-lt-HIGHEST_NUMBER
unfolding first_no begin_questions view is_up is_idle phase_of
returns-else-x-lt-HIGHEST_NUMBER c cfg = rw (c.in-Idle.is, le-ltb _ _ c.if-x-lt-HIGHEST_NUMBER.false)

pub returns-in-Down : goal.returns-in-Down
unfolding first_no begin_questions view is_up is_idle phase_of
returns-in-Down c cfg = rw c.in-Down.is

pub returns-in_default : goal.returns-in_default
unfolding first_no begin_questions view is_up is_idle phase_of
returns-in_default c cfg = busy cfg c.args.x _ refl (opened c.in_default.in_default-own.keys3)
