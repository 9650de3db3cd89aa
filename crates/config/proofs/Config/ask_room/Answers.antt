use mathlib.Core.Path.{refl, sym, ap, ap₂, ◌∙◌}
use mathlib.Core.Bool.{◌&&◌}
use mathlib.Core.List.{[], ◌∷◌}
use borrow.Author.Tests.{not-true, not-false}
use lib.Dec.{leb}
use Rattle.config.specs.Questions.{ask, first_no}
use Rattle.config.specs.Room.{most_boards, room_questions, room_within, shares_sum}
use Rattle.config.specs.Config.{rig_questions}
use Rattle.config.proofs.Exits.{stopped}
use Rattle.config.proofs.Questions.{rig_later, first_no_no, first_no_yes, within_high}
use Rattle.config.proofs.Config.ask_room.Goals as goal

pub returns-in_err-ask_rig : goal.returns-in_err-ask_rig
unfolding room_questions
returns-in_err-ask_rig c =
    let a = c.args in
    let x = c.from_residual in
    stopped x.result _ (rig_questions a.self a.room.m) (ask 22 (room_within a.room) ∷ []) x.ensures.1 c.in_err-ask_rig.ensures

pub returns-then-not-within : goal.returns-then-not-within
unfolding room_questions room_within
returns-then-not-within c =
    let a = c.args in
    let room = a.room in
    rig_later a.self room.m c.in_ok-ask_rig.ensures refl (ask 22 (room_within room) ∷ [])
    (sym (first_no_no 22 (room_within room) []
    (ap (λ b. b && leb (shares_sum room) room.m) (sym c.within.ensures ∙ not-true _ c.if-not-within.true-raw))))

pub shares_fit-requires : goal.shares_fit-requires
shares_fit-requires c =
    let room = c.args.room in
    within_high 1 most_boards room.boards (sym c.within.ensures ∙ not-false _ c.if-not-within.false-raw)

pub returns-then-not-shares_fit : goal.returns-then-not-shares_fit
unfolding room_questions room_within
returns-then-not-shares_fit c =
    let a = c.args in
    let room = a.room in
    rig_later a.self room.m c.in_ok-ask_rig.ensures refl
    (ask 22 (room_within room) ∷ [])
    (sym (first_no_no 22 (room_within room) []
    (ap₂ ◌&&◌ (sym c.within.ensures ∙ not-false _ c.if-not-within.false-raw)
    (sym c.shares_fit.ensures ∙ not-true _ c.if-not-shares_fit.true-raw))))

pub returns : goal.returns
unfolding room_questions room_within first_no
returns c =
    let a = c.args in
    let room = a.room in
    rig_later a.self room.m c.in_ok-ask_rig.ensures refl
    (ask 22 (room_within room) ∷ [])
    (sym (first_no_yes 22 (room_within room) []
    (ap₂ ◌&&◌ (sym c.within.ensures ∙ not-false _ c.if-not-within.false-raw)
    (sym c.shares_fit.ensures ∙ not-false _ c.if-not-shares_fit.false-raw))))
