-- `boards::ask` meets its contract. Assumes nothing.
use Prim.Native.Nat.{ℕ, ◌≤◌, ◌<◌}
use mathlib.Core.Path.{◌≡◌, refl, sym, ap, ap₂, ◌∙◌}
use mathlib.Core.Bool.{Bool, true, false, ◌&&◌}
use mathlib.Core.Option.{Option, none, some}
use mathlib.Core.List.{List}
use native.Mathlib.Omega.{arith}
use borrow.Author.Tests.{lt-leb, not-false, not-true}
use lib.Dec.{eqb, leb}
use lib.ListN.{take, get_elem?}
use Rattle.laws.proofs.Below.{below_no}
use Rattle.laws.proofs.Bools.{and_right}
use Rattle.config.proofs.Exits.{exits}
use Rattle.config.proofs.Refusals.{refusal_some}
use Rattle.config.specs.declared.Config.{Config}
use Rattle.config.specs.declared.Room.{Room}
use Rattle.config.specs.Config.{board_length}
use Rattle.config.specs.Room.{fits_room, owners_within}
use Rattle.config.proofs.Rooms.{boards_low, room_is, room_most}
use Rattle.events.specs.Questions as one
use Rattle.boards.specs.declared.OneBoard.{OneBoard}
use Rattle.boards.specs.declared.Rig.{Rig}
use Rattle.boards.specs.declared.Sizes.{Sizes}
use Rattle.boards.specs.Questions.{due, board_within, parties_within, rig_within, sized_by, up_alike}
use Rattle.boards.specs.View.{rig_at, rig_with}
use Rattle.boards.specs.inner.Questions.{all_long}
use Rattle.boards.proofs.Asked.{all_yes, six_no, six_part, six_yes}
use Rattle.boards.proofs.EachSize.{sizes_are}
use Rattle.boards.proofs.ask.Goals as goal

-- a board's rig has all the records in flight
count_at : (o : Option OneBoard) (n : ℕ) → (rig_with o n).count ≡ n
unfolding rig_with
count_at none n = refl
count_at (some x) n = refl

-- one of three that is answered no, and all that are answered yes
last-no : (p o h : Bool) → (o && h) ≡ false → (p && o && h) ≡ false
last-no true o h e = e
last-no false o h e = refl

three-yes : (p o h : Bool) → p ≡ true → (o && h) ≡ true → (p && o && h) ≡ true
three-yes true o h y e = e
three-yes false o h y e = y

module _ (cfg : Config) (room : Room) (r : Rig) (owners : List ℕ) where
  abbrev within : Bool
  within = owners_within room (take r.count owners)

  abbrev fits : Bool
  fits = fits_room room (take r.count owners)

  parties-no : parties_within cfg room r ≡ false → rig_within cfg room r owners ≡ false
  unfolding rig_within
  parties-no e = ap (λ b. b && within && fits) e

  flight-no : (within && fits) ≡ false → rig_within cfg room r owners ≡ false
  unfolding rig_within
  flight-no e = last-no (parties_within cfg room r) within fits e

  all-within : parties_within cfg room r ≡ true → (within && fits) ≡ true → rig_within cfg room r owners ≡ true
  unfolding rig_within
  all-within p e = three-yes (parties_within cfg room r) within fits p e

  -- with more records in flight than M no board is within its limits
  too_many : 1 ≤ room.boards → room.m < r.count → rig_within cfg room r owners ≡ false
  unfolding board_within one.rig_within
  too_many low h =
      let x = rig_at r 0 in
      let past : leb x.count room.m ≡ false = ap (λ n. leb n room.m) (count_at (get_elem? r.boards 0) r.count) ∙ lt-leb r.count room.m h in
      parties-no (below_no room.boards (board_within cfg room r) 0 low (ap (λ b. b && one.parties_within cfg x && up_alike cfg x x) past))

-- the owners' buffer has M bytes
owners-long : (cfg : Config) (room : Room) (board read : ℕ) (x : Sizes) → all_long cfg room board read x ≡ true → x.owners ≡ room.m
owners-long cfg room board read x h =
    (sizes_are x (due cfg room) (and_right (eqb board (board_length cfg) && eqb read (board_length cfg)) (sized_by cfg room x) h)).owners

pub returns-in_err-ask_lengths : goal.returns-in_err-ask_lengths
returns-in_err-ask_lengths c =
    let a = c.args in
    let long = all_long a.cfg a.room a.board a.read a.sizes in
    exits c.from_residual.result _ c.from_residual.ensures.1
    ∙ six_part a.cfg a.room a.call _ long (rig_within a.cfg a.room a.rig a.owners.now) c.in_err-ask_lengths.ensures (refusal_some _ c.in_err-ask_lengths.ensures).0

pub returns-then-room-rig : goal.returns-then-room-rig
returns-then-room-rig c =
    let b = c in
    let a = b.args in
    let long = all_long a.cfg a.room a.board a.read a.sizes in
    let yes = all_yes a.cfg a.room a.call 0 long b.in_ok-ask_lengths.ensures refl in
    six_no a.cfg a.room a.call yes.0 (long && rig_within a.cfg a.room a.rig a.owners.now) yes.1
    (ap₂ ◌&&◌ yes.2 (too_many a.cfg a.room a.rig a.owners.now (boards_low a.room (room_is a.cfg a.room yes.0)) c.if-room-rig.true))

pub flight-requires : goal.flight-requires
flight-requires c =
    let b = c in
    let s = b in
    let a = s.args in
    let long = all_long a.cfg a.room a.board a.read a.sizes in
    let yes = all_yes a.cfg a.room a.call 0 long b.in_ok-ask_lengths.ensures refl in
    let few : a.rig.count ≤ a.room.m = omega (arith, c.if-room-rig.false) in
    ((room_is a.cfg a.room yes.0, (room_most a.cfg a.room yes.0).1), few, omega (arith, few, s.requires, owners-long a.cfg a.room a.board a.read a.sizes yes.2))

pub returns-then-not-flight : goal.returns-then-not-flight
returns-then-not-flight c =
    let b = c in
    let a = b.args in
    let long = all_long a.cfg a.room a.board a.read a.sizes in
    let yes = all_yes a.cfg a.room a.call 0 long b.in_ok-ask_lengths.ensures refl in
    six_no a.cfg a.room a.call yes.0 (long && rig_within a.cfg a.room a.rig a.owners.now) yes.1
    (ap₂ ◌&&◌ yes.2 (flight-no a.cfg a.room a.rig a.owners.now (sym c.flight.ensures ∙ not-true _ c.if-not-flight.true-raw)))

pub parties-requires : goal.parties-requires
parties-requires c =
    let b = c in
    let a = b.args in
    let long = all_long a.cfg a.room a.board a.read a.sizes in
    (all_yes a.cfg a.room a.call 0 long b.in_ok-ask_lengths.ensures refl).0

pub returns-then-not-parties : goal.returns-then-not-parties
returns-then-not-parties c =
    let b = c in
    let a = b.args in
    let long = all_long a.cfg a.room a.board a.read a.sizes in
    let yes = all_yes a.cfg a.room a.call 0 long b.in_ok-ask_lengths.ensures refl in
    six_no a.cfg a.room a.call yes.0 (long && rig_within a.cfg a.room a.rig a.owners.now) yes.1
    (ap₂ ◌&&◌ yes.2 (parties-no a.cfg a.room a.rig a.owners.now (sym c.parties.ensures ∙ not-true _ c.if-not-parties.true-raw)))

pub returns : goal.returns
returns c =
    let b = c in
    let a = b.args in
    let long = all_long a.cfg a.room a.board a.read a.sizes in
    let yes = all_yes a.cfg a.room a.call 0 long b.in_ok-ask_lengths.ensures refl in
    six_yes a.cfg a.room a.call yes.0 (long && rig_within a.cfg a.room a.rig a.owners.now) yes.1
    (ap₂ ◌&&◌ yes.2
    (all-within a.cfg a.room a.rig a.owners.now (sym c.parties.ensures ∙ not-false _ c.if-not-parties.false-raw)
    (sym c.flight.ensures ∙ not-false _ c.if-not-flight.false-raw)))
