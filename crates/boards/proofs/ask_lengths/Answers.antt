use mathlib.Core.Path.{sym, ap, ◌∙◌}
use native.Mathlib.Omega.{arith}
use borrow.Author.Tests.{eq-eqb, ne_eqb, not-false, not-true}
use Rattle.config.specs.Room.{room_questions}
use Rattle.config.proofs.Exits.{stopped}
use Rattle.config.specs.Config.{board_length}
use Rattle.config.proofs.Rooms.{room_early, room_valid}
use Rattle.config.proofs.Sizes.{board_small}
use Rattle.boards.specs.Questions.{same_sizes}
use Rattle.boards.specs.inner.Questions.{all_long}
use Rattle.boards.proofs.Asked.{no-board, six_no, six_yes}
use Rattle.boards.proofs.Due.{due_is}
use Rattle.boards.proofs.ask_lengths.Goals as goal

pub returns-in_err-ask_room : goal.returns-in_err-ask_room
returns-in_err-ask_room c =
    let a = c.args in
    stopped c.from_residual.result _ (room_questions a.cfg a.room) _ c.from_residual.ensures.1 c.in_err-ask_room.ensures

pub returns-then-not-exists : goal.returns-then-not-exists
returns-then-not-exists c =
    let a = c.args in
    let first = sym c.in_ok-ask_room.ensures in
    no-board a.cfg a.room a.call first (all_long a.cfg a.room a.board a.read a.sizes) (sym c.exists.ensures ∙ not-true _ c.if-not-exists.true-raw)

pub overflow_mul-v : goal.overflow_mul-v
overflow_mul-v c =
    let a = c.args in
    let first = sym c.in_ok-ask_room.ensures in
    omega (arith, board_small a.cfg (room_valid a.cfg a.room first))

pub returns-then-board-v : goal.returns-then-board-v
returns-then-board-v c =
    let a = c.args in
    let first = sym c.in_ok-ask_room.ensures in
    six_no a.cfg a.room a.call first (all_long a.cfg a.room a.board a.read a.sizes)
    (sym c.exists.ensures ∙ not-false _ c.if-not-exists.false-raw)
    (rw (ne_eqb a.board (board_length a.cfg) c.if-board-v.true))

pub returns-then-read-v : goal.returns-then-read-v
returns-then-read-v c =
    let a = c.args in
    let first = sym c.in_ok-ask_room.ensures in
    six_no a.cfg a.room a.call first (all_long a.cfg a.room a.board a.read a.sizes)
    (sym c.exists.ensures ∙ not-false _ c.if-not-exists.false-raw)
    (rw (eq-eqb a.board (board_length a.cfg) c.if-board-v.false, ne_eqb a.read (board_length a.cfg) c.if-read-v.true))

pub returns-then-not-sized : goal.returns-then-not-sized
returns-then-not-sized c =
    let b = c in
    let a = b.args in
    let first = sym b.in_ok-ask_room.ensures in
    let long = ap (same_sizes a.sizes) (due_is a.cfg a.room first ∙ sym b.lengths.ensures) ∙ sym b.sized.ensures ∙ not-true _ c.if-not-sized.true-raw in
    six_no a.cfg a.room a.call first (all_long a.cfg a.room a.board a.read a.sizes)
    (sym b.exists.ensures ∙ not-false _ b.if-not-exists.false-raw)
    (rw (eq-eqb a.board (board_length a.cfg) b.if-board-v.false, eq-eqb a.read (board_length a.cfg) b.if-read-v.false) long)

pub returns : goal.returns
returns c =
    let b = c in
    let a = b.args in
    let first = sym b.in_ok-ask_room.ensures in
    let long = ap (same_sizes a.sizes) (due_is a.cfg a.room first ∙ sym b.lengths.ensures) ∙ sym b.sized.ensures ∙ not-false _ c.if-not-sized.false-raw in
    six_yes a.cfg a.room a.call first (all_long a.cfg a.room a.board a.read a.sizes)
    (sym b.exists.ensures ∙ not-false _ b.if-not-exists.false-raw)
    (rw (eq-eqb a.board (board_length a.cfg) b.if-board-v.false, eq-eqb a.read (board_length a.cfg) b.if-read-v.false) long)
