use mathlib.Core.Path.{◌≡◌, sym, ap, ◌∙◌}
use mathlib.Core.Bool.{Bool, true, false}
use borrow.Author.Tests.{not-true, not-false}
use Rattle.config.specs.declared.Config.{Config}
use Rattle.config.specs.Number.{client_number}
use Rattle.config.specs.Questions.{within as inside}
use Rattle.client.specs.declared.State.{State}
use Rattle.client.specs.State.{lengths_within, phase_within, state_within}
use Rattle.client.proofs.questions.within.Goals as goal
use Rattle.client.proofs.questions.within.Goals.{After-client_exists}

module _ (cfg : Config) (x : State) where
  no-client : inside 1 cfg.c (client_number x.me) ≡ false → false ≡ state_within cfg x
  unfolding state_within
  no-client e = rw e

  module _ (there : inside 1 cfg.c (client_number x.me) ≡ true) where
    no-phase : phase_within cfg x.phase ≡ false → false ≡ state_within cfg x
    unfolding state_within
    no-phase e = rw (there, e)

    the-lengths : phase_within cfg x.phase ≡ true → lengths_within cfg x.phase x.length x.lengths ≡ state_within cfg x
    unfolding state_within
    the-lengths e = rw (there, e)

-- the client of the state's own number exists, or does not
asked : (c : After-client_exists) (b : Bool) → c.client_exists.result ≡ b
    → inside 1 c.args.cfg.c (client_number c.args.x.me) ≡ b
asked c b e = sym (ap (inside 1 c.args.cfg.c) c.number.ensures) ∙ sym c.client_exists.ensures ∙ e

pub returns-then-not-client_exists : goal.returns-then-not-client_exists
returns-then-not-client_exists c = no-client c.args.cfg c.args.x (asked (goal.at.returns-then-not-client_exists c).After-client_exists false (not-true _ c.if-not-client_exists.true-raw))

pub returns-then-not-phase_within : goal.returns-then-not-phase_within
returns-then-not-phase_within c = no-phase c.args.cfg c.args.x (asked (goal.at.returns-then-not-phase_within c).After-client_exists true (not-false _ c.if-not-client_exists.false-raw))
    (sym c.phase_within.ensures ∙ not-true _ c.if-not-phase_within.true-raw)

pub returns : goal.returns
returns c = c.lengths_within.ensures ∙ the-lengths c.args.cfg c.args.x (asked (goal.at.returns c).After-client_exists true (not-false _ c.if-not-client_exists.false-raw))
    (sym c.phase_within.ensures ∙ not-false _ c.if-not-phase_within.false-raw)
