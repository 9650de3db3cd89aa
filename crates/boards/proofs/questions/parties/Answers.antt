-- The boards passed are within their limits. Assumes nothing.
use Prim.Native.Nat.{ℕ, ◌<◌}
use mathlib.Core.Path.{◌≡◌, refl, sym, ap, ap₂, ◌∙◌}
use mathlib.Core.Bool.{◌&&◌}
use mathlib.Core.Option.{some}
use native.Mathlib.Omega.{arith}
use borrow.Author.Tests.{not-true, not-false}
use lib.ListN.{length, get_or}
use Rattle.laws.specs.Below.{all_below}
use Rattle.laws.proofs.Below.{below_next, below_no}
use Rattle.config.specs.declared.Config.{Config}
use Rattle.config.specs.declared.Room.{Room}
use Rattle.config.proofs.Rooms.{boards_high, room_five, room_is}
use Rattle.events.specs.declared.Rig as one
use Rattle.events.specs.Questions.{rig_within as one_within}
use Rattle.boards.specs.declared.OneBoard.{OneBoard}
use Rattle.boards.specs.declared.Rig.{Rig}
use Rattle.boards.specs.Questions.{board_within, up_alike}
use Rattle.boards.specs.View.{rig_with}
use Rattle.boards.proofs.OneOf.{read_at}
use Rattle.boards.proofs.Owned.{board_places}
use Rattle.boards.proofs.questions.parties.Goals as goal

-- what is asked of the board read from a place
board-read : (cfg : Config) (room : Room) (r : Rig) (i : ℕ) (d e : OneBoard) → i < 8 → length r.boards ≡ 8
    → (one_within cfg room.m (rig_with (some (get_or r.boards i d)) r.count)
    && up_alike cfg (rig_with (some (get_or r.boards i d)) r.count) (rig_with (some (get_or r.boards 0 e)) r.count))
    ≡ board_within cfg room r i
unfolding board_within
board-read cfg room r i d e low eight =
    ap₂ (λ (x y : one.Rig). one_within cfg room.m x && up_alike cfg x y) (read_at r i d r.count (omega (arith, low, eight))) (read_at r 0 e r.count (omega (arith, eight)))

pub loop-i-init : goal.loop-i-init
unfolding all_below
loop-i-init c = refl

pub offset_bounds-rig-i : goal.offset_bounds-rig-i
offset_bounds-rig-i c = let s = c in omega (arith, c.loop-i-test.true, boards_high s.args.room (room_is s.args.cfg s.args.room s.requires))

pub bounds-rig-i : goal.bounds-rig-i
bounds-rig-i c = let s = c in omega (arith, c.loop-i-test.true, boards_high s.args.room (room_is s.args.cfg s.args.room s.requires))

pub board-requires : goal.board-requires
board-requires c = let s = c in room_five s.args.cfg s.args.room s.requires

pub returns-then-not-board : goal.returns-then-not-board
returns-then-not-board c =
    let s = c in
    let a = s.args in
    let i = c.loop-i.i in
    let below = c.loop-i-test.true in
    let read = board-read a.cfg a.room a.rig i _ _ (omega (arith, below, boards_high a.room (room_is a.cfg a.room s.requires))) (board_places a.rig _ s.well_formed.1.1.0) in
    sym (below_no a.room.boards (board_within a.cfg a.room a.rig) i below (sym read ∙ sym c.board.ensures ∙ not-true _ c.if-not-board.true-raw))

pub loop-i-preserved : goal.loop-i-preserved
loop-i-preserved c =
    let s = c in
    let a = s.args in
    let l = c.loop-i in
    let below = c.loop-i-test.true in
    let read = board-read a.cfg a.room a.rig l.i _ _ (omega (arith, below, boards_high a.room (room_is a.cfg a.room s.requires))) (board_places a.rig _ s.well_formed.1.1.0) in
    below_next l.i (board_within a.cfg a.room a.rig) l.invariant (sym read ∙ sym c.board.ensures ∙ not-false _ c.if-not-board.false-raw)

pub returns : goal.returns
returns c =
    let a = c.args in
    let l = c.loop-i in
    let end : l.i ≡ a.room.boards = omega arith in
    sym l.invariant ∙ ap (λ n. all_below n (board_within a.cfg a.room a.rig)) end
