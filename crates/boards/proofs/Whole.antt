-- A rig of several boards that passes questions 1 to 6, 21 and 22: the lengths of its buffers and of each board's parts, what is asked of each
-- board, and that "a party is down on all boards or none". Assumes nothing.
use Prim.Native.Nat.{ℕ, ◌+◌, ◌-◌, ◌*◌, ◌≤◌, ◌<◌}
use mathlib.Core.Path.{◌≡◌, refl, sym, ap, ap₂, subst, ◌∙◌}
use mathlib.Core.Bool.{true, false, ◌&&◌}
use mathlib.Core.Option.{Option, none, some}
use mathlib.Core.List.{List}
use native.Mathlib.Omega.{arith}
use borrow.Author.Tests.{eq-eqb, leb-true}
use lib.Dec.{leb}
use lib.ListN.{length, take, get_elem?, length-map}
use lib.Seq.{length-take-le}
use Rattle.laws.proofs.Below.{below_at}
use Rattle.laws.proofs.Bools.{and_left, and_right}
use Rattle.laws.proofs.Parts.{part_length}
use Rattle.config.specs.declared.Config.{Config}
use Rattle.config.specs.declared.Room.{Room}
use Rattle.config.specs.Config.{board_length, elements_length, record_length, store_length}
use Rattle.config.specs.Questions.{first_no, within}
use Rattle.config.specs.Room.{fits_room, owners_within, room_questions}
use Rattle.config.proofs.Questions.{within_high, within_low, within_true}
use Rattle.config.proofs.Rooms.{boards_low, room_is}
use Rattle.record.specs.Record.{message_of}
use Rattle.flight.proofs.Laws.{length_records}
use Rattle.protocol.specs.Boards.{BoardNetwork}
use Rattle.protocol.specs.Network.{no_parties}
use Rattle.protocol.proofs.Together.{SameUp, Together}
use Rattle.events.specs.Questions as one
use Rattle.events.specs.View.{parties_of}
use Rattle.boards.specs.declared.OneBoard.{OneBoard}
use Rattle.boards.specs.declared.Rig.{Rig}
use Rattle.boards.specs.View.{Lent, flight, lent_at, owners_of, parties_on, rig_at, rig_with, view}
use Rattle.boards.specs.Questions.{board_within, due, parties_within, rig_within, sized, sizes, up_alike}
use Rattle.boards.proofs.EachSize.{SameSizes, sizes_are}
use Rattle.boards.proofs.UpAlike.{alike_up}

-- the lengths of the buffers
module _ (cfg : Config) (room : Room) (l : Lent) (h : sized cfg room l ≡ true) where
  abbrev pub long : SameSizes (sizes l) (due cfg room)
  long = sizes_are (sizes l) (due cfg room) h

  -- a board's parts have the lengths of a rig of one board
  pub one-sized : (i : ℕ) → i < room.boards → one.sized cfg room.m (lent_at cfg l i) ≡ true
  unfolding one.sized_by
  one-sized i low =
      ap₂ ◌&&◌
      (ap₂ ◌&&◌
      (ap₂ ◌&&◌ (eq-eqb (length l.messages) (record_length * room.m) long.messages)
      (eq-eqb _ (cfg.n * store_length cfg) (part_length (cfg.n * store_length cfg) i room.boards l.stores low long.stores)))
      (eq-eqb _ (cfg.c * board_length cfg) (part_length (cfg.c * board_length cfg) i room.boards l.boards low long.boards)))
      (eq-eqb _ (cfg.c * elements_length cfg) (part_length (cfg.c * elements_length cfg) i room.boards l.elements low long.elements))

-- the parties of a board that there is are those of its place; of another there are none
module _ (cfg : Config) (room : Room) (r : Rig) (l : Lent) where
  pub parties_there : (b : ℕ) → within 1 room.boards b ≡ true → (view cfg room r l).parties b ≡ parties_of cfg (rig_at r (b - 1)) (lent_at cfg l (b - 1))
  unfolding view parties_on
  parties_there b e = rw e

  pub parties_at : (i : ℕ) → i < room.boards → (view cfg room r l).parties (i + 1) ≡ parties_of cfg (rig_at r i) (lent_at cfg l i)
  parties_at i low =
      let here : i + 1 - 1 ≡ i = omega arith in
      parties_there (i + 1) (within_true 1 room.boards (i + 1) (omega arith) (omega (arith, low))) ∙ ap (λ j. parties_of cfg (rig_at r j) (lent_at cfg l j)) here

  pub parties_none : (b : ℕ) → within 1 room.boards b ≡ false → (view cfg room r l).parties b ≡ no_parties
  unfolding view parties_on
  parties_none b e = rw e

-- as many are seen in flight as the rig counts
pub many : (cfg : Config) (room : Room) (r : Rig) (l : Lent) → length (view cfg room r l).in_flight ≡ r.count
unfolding view
many cfg room r l = length-map (flight r l) (message_of cfg) ∙ length_records r.count l.messages

-- and so with one board's parties
pub count_is : (o : Option OneBoard) (k : ℕ) → (rig_with o k).count ≡ k
unfolding rig_with
count_is none k = refl
count_is (some x) k = refl

module _ (cfg : Config) (room : Room) (accepted : first_no (room_questions cfg room) ≡ 0) (r : Rig) (l : Lent) (size : sized cfg room l ≡ true)
    (whole : rig_within cfg room r l.owners ≡ true) where
  abbrev n : BoardNetwork
  n = view cfg room r l

  abbrev os : List ℕ
  os = take r.count l.owners

  all_parties : parties_within cfg room r ≡ true
  unfolding rig_within
  all_parties =
      and_left (parties_within cfg room r) (owners_within room os)
      (and_left (parties_within cfg room r && owners_within room os) (fits_room room os) whole)

  owners-in : owners_within room os ≡ true
  unfolding rig_within
  owners-in =
      and_right (parties_within cfg room r) (owners_within room os)
      (and_left (parties_within cfg room r && owners_within room os) (fits_room room os) whole)

  roomy : fits_room room os ≡ true
  unfolding rig_within
  roomy = and_right (parties_within cfg room r && owners_within room os) (fits_room room os) whole

  some_board : 0 < room.boards
  some_board = omega (arith, boards_low room (room_is cfg room accepted))

  first_there : within 1 room.boards 1 ≡ true
  first_there = within_true 1 room.boards 1 (omega arith) (omega (arith, some_board))

  one-within : (i : ℕ) → i < room.boards → one.rig_within cfg room.m (rig_at r i) ≡ true
  unfolding board_within
  one-within i low =
      and_left (one.rig_within cfg room.m (rig_at r i)) (up_alike cfg (rig_at r i) (rig_at r 0))
      (below_at room.boards (board_within cfg room r) all_parties i low)

  one_parties : (i : ℕ) → i < room.boards → one.parties_within cfg (rig_at r i) ≡ true
  unfolding one.rig_within
  one_parties i low = and_right (leb (rig_at r i).count room.m) (one.parties_within cfg (rig_at r i)) (one-within i low)

  one_alike : (i : ℕ) → i < room.boards → up_alike cfg (rig_at r i) (rig_at r 0) ≡ true
  unfolding board_within
  one_alike i low =
      and_right (one.rig_within cfg room.m (rig_at r i)) (up_alike cfg (rig_at r i) (rig_at r 0))
      (below_at room.boards (board_within cfg room r) all_parties i low)

  few : r.count ≤ room.m
  unfolding one.rig_within
  few =
      let x = rig_at r 0 in
      omega (
        arith,
        count_is (get_elem? r.boards 0) r.count,
        leb-true x.count room.m (and_left (leb x.count room.m) (one.parties_within cfg x) (one-within 0 some_board)),
      )

  up_first : (b : ℕ) → within 1 room.boards b ≡ true → SameUp (n.parties b) (parties_of cfg (rig_at r 0) (lent_at cfg l 0))
  up_first b e =
      subst (λ p. SameUp p (parties_of cfg (rig_at r 0) (lent_at cfg l 0))) (sym (parties_there cfg room r l b e))
      (alike_up cfg (rig_at r (b - 1)) (rig_at r 0) (lent_at cfg l (b - 1)) (lent_at cfg l 0)
      (one_alike (b - 1) (omega (arith, within_low 1 room.boards b e, within_high 1 room.boards b e))))

  many_owners : length n.owners ≡ r.count
  unfolding view
  many_owners = length-take-le r.count l.owners (omega (arith, few, (long cfg room l size).owners))

  tied : Together room n
  tied =
      record {
        lengths = many_owners ∙ sym (many cfg room r l);
        up = λ b c eb ec. record {
          servers = λ s. (up_first b eb).servers s ∙ sym ((up_first c ec).servers s);
          clients = λ d. (up_first b eb).clients d ∙ sym ((up_first c ec).clients d);
        };
      }

-- questions 1 to 5 and 21, 22 of the configuration, and 6 of the rig and of the buffers lent to it are answered yes, and what that shows
pub record Passed (cfg : Config) (room : Room) (r : Rig) (l : Lent) : Type 0 where
  pub accepted : first_no (room_questions cfg room) ≡ 0
  pub sized : sized cfg room l ≡ true
  pub rig : rig_within cfg room r l.owners ≡ true
  -- there is a first board
  pub first : 0 < room.boards
  pub first_exists : within 1 room.boards 1 ≡ true
  -- of each board what is asked of a rig of one board
  pub within : (i : ℕ) → i < room.boards → one.rig_within cfg room.m (rig_at r i) ≡ true
  pub parties : (i : ℕ) → i < room.boards → one.parties_within cfg (rig_at r i) ≡ true
  pub sized_at : (i : ℕ) → i < room.boards → one.sized cfg room.m (lent_at cfg l i) ≡ true
  -- of the messages
  pub few : r.count ≤ room.m
  pub owners : owners_within room (owners_of r l) ≡ true
  pub roomy : fits_room room (owners_of r l) ≡ true
  -- "a party is down on all boards or none", and each message has its board beside it
  pub together : Together room (view cfg room r l)

pub passed : (cfg : Config) (room : Room) (r : Rig) (l : Lent) → first_no (room_questions cfg room) ≡ 0 → sized cfg room l ≡ true
    → rig_within cfg room r l.owners ≡ true → Passed cfg room r l
passed cfg room r l accepted size whole =
    record {
      accepted = accepted;
      sized = size;
      rig = whole;
      first = some_board cfg room accepted r l size whole;
      first_exists = first_there cfg room accepted r l size whole;
      within = one-within cfg room accepted r l size whole;
      parties = one_parties cfg room accepted r l size whole;
      sized_at = one-sized cfg room l size;
      few = few cfg room accepted r l size whole;
      owners = owners-in cfg room accepted r l size whole;
      roomy = roomy cfg room accepted r l size whole;
      together = tied cfg room accepted r l size whole;
    }
