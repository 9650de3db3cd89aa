use Prim.Native.Nat.{◌+◌}
use mathlib.Core.Bool.{◌&&◌}
use mathlib.Core.Path.{sym, ap, ◌∙◌}
use native.Mathlib.Omega.{arith}
use borrow.Author.Tests.{not-true, not-false}
use lib.Dec.{leb}
use lib.ListN.{take}
use lib.Seq.{length-take-le}
use Rattle.config.specs.Room.{fits_room, kept_free, owners_within}
use Rattle.config.proofs.Rooms.{boards_high, room_total, shares_high}
use Rattle.boards.proofs.Kept.{kept_most}
use Rattle.boards.proofs.questions.flight.Goals as goal

pub returns-then-not-within : goal.returns-then-not-within
unfolding owners_within
returns-then-not-within c =
    let a = c.args in
    ap (λ b. b && fits_room a.room (take a.count a.owners.now)) (sym (not-true _ c.if-not-within.true-raw) ∙ c.within.ensures)

pub kept_free-requires : goal.kept_free-requires
kept_free-requires c =
    let s = c in
    (boards_high s.args.room s.requires.0.0, omega (arith, shares_high s.args.room s.requires.0.0, s.requires.0.1))

pub overflow_add-result : goal.overflow_add-result
overflow_add-result c =
    let s = c in
    let room = s.args.room in
    omega (
      arith,
      c.kept_free.ensures,
      kept_most room 0 (take s.args.count s.args.owners.now),
      shares_high room s.requires.0.0,
      s.requires.0.1,
      s.requires.1,
    )

pub returns : goal.returns
unfolding owners_within
returns c =
    let s = c in
    let a = s.args in
    let os = take a.count a.owners.now in
    let inside = sym c.within.ensures ∙ not-false _ c.if-not-within.false-raw in
    ap (λ n. leb (a.count + n) a.room.m) c.kept_free.ensures
    ∙ ap (λ n. leb (n + kept_free a.room 0 os) a.room.m) (sym (length-take-le a.count a.owners.now s.requires.2))
    ∙ sym (room_total a.room os s.requires.0.0 inside)
    ∙ ap (λ b. b && fits_room a.room os) (sym inside)
