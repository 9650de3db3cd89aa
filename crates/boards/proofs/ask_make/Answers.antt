-- `boards::ask_make` meets its contract. Assumes nothing.
use Prim.Native.Nat.{◌*◌}
use mathlib.Core.Path.{refl, sym, ap, ap₂, ◌∙◌}
use mathlib.Core.Bool.{◌&&◌}
use native.Mathlib.Omega.{arith}
use borrow.Author.Tests.{eq-eqb, ne_eqb, not-false, not-true}
use Rattle.config.specs.Room.{room_questions}
use Rattle.config.proofs.Exits.{stopped}
use Rattle.config.specs.Config.{board_length}
use Rattle.config.proofs.Rooms.{room_early}
use Rattle.config.proofs.Sizes.{board_small}
use Rattle.boards.specs.Questions.{same_sizes, sized_by}
use Rattle.boards.proofs.Making.{is_valid, lengths_due, room_six_no, room_six_yes, starts_high}
use Rattle.boards.proofs.ask_make.Goals as goal

pub returns-in_err-ask_room : goal.returns-in_err-ask_room
returns-in_err-ask_room c = let a = c.args in stopped c.from_residual.result _ (room_questions a.cfg a.room) _ c.from_residual.ensures.1 c.in_err-ask_room.ensures

pub overflow_mul-cfg : goal.overflow_mul-cfg
overflow_mul-cfg c =
    let a = c.args in
    omega (arith, board_small a.cfg (is_valid a.cfg a.room (sym c.in_ok-ask_room.ensures)))

pub overflow_mul-room : goal.overflow_mul-room
overflow_mul-room c = let a = c.args in omega (arith, starts_high a.cfg a.room (sym c.in_ok-ask_room.ensures))

pub returns-then-start-room : goal.returns-then-start-room
returns-then-start-room c =
    let a = c.args in
    room_six_no a.cfg a.room c.in_ok-ask_room.ensures refl _
    (ap (λ t. t && sized_by a.cfg a.room a.sizes) (ne_eqb a.start (a.room.boards * board_length a.cfg) c.if-start-room.true))

pub returns-then-not-sized : goal.returns-then-not-sized
returns-then-not-sized c =
    let a = c.args in
    let asked = c.in_ok-ask_room.ensures in
    let none = refl in
    room_six_no a.cfg a.room asked none _
    (ap₂ ◌&&◌ (eq-eqb a.start (a.room.boards * board_length a.cfg) c.if-start-room.false)
    (sym (c.sized.ensures ∙ ap (same_sizes a.sizes) (c.lengths.ensures ∙ lengths_due a.cfg a.room (sym asked ∙ none))) ∙ not-true _ c.if-not-sized.true-raw))

pub returns : goal.returns
returns c =
    let a = c.args in
    let asked = c.in_ok-ask_room.ensures in
    let none = refl in
    room_six_yes a.cfg a.room asked none _
    (ap₂ ◌&&◌ (eq-eqb a.start (a.room.boards * board_length a.cfg) c.if-start-room.false)
    (sym (c.sized.ensures ∙ ap (same_sizes a.sizes) (c.lengths.ensures ∙ lengths_due a.cfg a.room (sym asked ∙ none))) ∙ not-false _ c.if-not-sized.false-raw))
