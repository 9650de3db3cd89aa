-- `lines::several::event` meets its contract. Assumes nothing.
use Rattle.std.proofs.Common.{ℕ, ◌≤◌, replicate, sym, refl, ◌∙◌, arith, length-take-le, rules}
use borrow.Author.Tests.{not-false, not-true}
use Rattle.lines.proofs.Events.{board_few}
use Rattle.lines.proofs.Saying.{as_it_was, bytes_on_there, called_on_there, room_there, was_said, whole_there}
use Rattle.lines.proofs.several.event.Goals as goal
use Rattle.lines.proofs.several.event.Goals.{After-board_length-v}

-- a board has at most 1,024 bytes
few : (c : After-board_length-v) → c.board_length-v.result ≤ 1024
few c = let a = c.args in omega (arith, c.board_length-v.ensures, board_few a.cfg a.room.m)

pub can_say-requires : goal.can_say-requires
can_say-requires c = few (goal.at.can_say-requires c).After-board_length-v

pub returns-then-not-can_say : goal.returns-then-not-can_say
returns-then-not-can_say c =
    let a = c.args in
    as_it_was c.board_length-v.result a.at a.input.now a.used a.output.now c.can_say.ensures a.cfg a.room c.board_length-v.ensures (not-true _ c.if-not-can_say.true-raw)

pub called_on-call-requires : goal.called_on-call-requires
called_on-call-requires c =
    let a = c.args in
    whole_there c.board_length-v.result a.at a.input.now a.used a.output.now c.can_say.ensures (not-false _ c.if-not-can_say.false-raw)

pub board_on-board-requires : goal.board_on-board-requires
board_on-board-requires c =
    let a = c.args in
    whole_there c.board_length-v.result a.at a.input.now a.used a.output.now c.can_say.ensures (not-false _ c.if-not-can_say.false-raw)

pub slice_bounds-space-end : goal.slice_bounds-space-end
slice_bounds-space-end c = few (goal.at.slice_bounds-space-end c).After-board_length-v

pub slice_bounds-read-end : goal.slice_bounds-read-end
slice_bounds-read-end c = sym (length-take-le c.board_length-v.result _ (few (goal.at.slice_bounds-read-end c).After-board_length-v))

pub line-requires : goal.line-requires
line-requires c =
    let a = c.args in
    let e = c.event-turn in
    let v = c in
    omega (
      arith,
      room_there v.board_length-v.result a.at a.input.now a.used a.output.now c.can_say.ensures (not-false _ c.if-not-can_say.false-raw),
      e.auto.read,
      length-take-le {A = ℕ} v.board_length-v.result (replicate 1024 0) (few (goal.at.line-requires c).After-board_length-v),
    )

pub returns : goal.returns
returns c =
    let a = c.args in
    let e = c.event-turn in
    let v = c in
    let head = c.called_on-call in
    let bytes = c.board_on-board in
    was_said v.board_length-v.result a.at a.input.now a.used a.output.now c.can_say.ensures a.cfg a.room v.board_length-v.ensures (not-false _ c.if-not-can_say.false-raw)
    (record {
      call = head.result;
      board = bytes.result.now;
      read = _;
      read' = _;
      turn = e.result;
      calls = called_on_there a.input.now a.at v.board_length-v.ensures bytes.ensures head.ensures;
      handed = bytes_on_there a.input.now a.at v.board_length-v.ensures bytes.ensures;
      reads = length-take-le v.board_length-v.result _ (few (goal.at.returns c).After-board_length-v) ∙ v.board_length-v.ensures;
      turned = e.ensures;
      left = refl;
      says = c.line.ensures.0;
    })
