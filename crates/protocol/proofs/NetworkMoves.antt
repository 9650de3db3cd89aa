-- A move of a network, where each message has its board beside it: for the board that is named it is that board's own move, and the other boards
-- stay as they are; a crash, or a restart, is one of every board.
use Prim.Native.Nat.{ℕ, ◌+◌, ◌-◌}
use mathlib.Core.Path.{◌≡◌, refl, sym, ap, ap₂, subst, ◌∙◌}
use mathlib.Core.Bool.{true, false, cond, false≢true}
use mathlib.Core.Option.{some}
use mathlib.Core.List.{List, [], ◌++◌, append_assoc, append-nil}
use native.Mathlib.Nat.{add-zero}
use native.Mathlib.Omega.{arith}
use lib.ListN.{length, get_elem?, replicate, length-append, length-drop, length-replicate, length-take}
use Rattle.laws.specs.Lists.{to_list, without}
use Rattle.laws.specs.Owners.{own, count_of, place_of}
use Rattle.laws.proofs.Owners.{count_append, count_none, count_without_other, own_all, own_append, own_at, own_none, own_without, own_without_other}
use Rattle.config.specs.declared.Config.{Config}
use Rattle.config.specs.declared.Room.{Room}
use Rattle.config.specs.Questions.{within}
use Rattle.config.specs.Room.{owners_within}
use Rattle.tag.specs.declared.Tag.{Tag}
use Rattle.record.specs.Message.{Message}
use Rattle.protocol.specs.Board.{Call, nothing_ended}
use Rattle.protocol.specs.Parties as parties
use Rattle.protocol.specs.Parties.{quiet}
use Rattle.protocol.specs.Rig as rig
use Rattle.protocol.specs.Rig.{Code, Turn, begin_write, begin_read, crash_client, crash_server, deliver_at, double, doubled, handOver, leaves, lose, restart_server}
use Rattle.protocol.specs.Network.{Network, NetworkTurn, among_all, board_move, names_board, network_move, on_each, owners_after, owners_kept, placed, rig_of, turned_on, turned_on_each}
use Rattle.protocol.proofs.Basics.{upd_other, upd_same}
use Rattle.config.proofs.OwnersWithin.{added_within, append_within, without_within}

-- ---- what stays of a list, and what is added

-- as `owners_kept`, of any list
unfoldable kept : {A : Type 0} → ℕ → List A → Code → List A
kept p xs begin_write = xs
kept p xs begin_read = xs
kept p xs handOver = without p xs
kept p xs lose = without p xs
kept p xs double = xs
kept p xs crash_server = xs
kept p xs crash_client = xs
kept p xs restart_server = xs

owners-kept : (p : ℕ) (os : List ℕ) (w : Code) → owners_kept p os w ≡ kept p os w
unfolding kept owners_kept
owners-kept p os begin_write = refl
owners-kept p os begin_read = refl
owners-kept p os handOver = refl
owners-kept p os lose = refl
owners-kept p os double = refl
owners-kept p os crash_server = refl
owners-kept p os crash_client = refl
owners-kept p os restart_server = refl

-- as long without one place if they were as long with it
without_long : {A B : Type 0} (p : ℕ) (xs : List A) (ys : List B) → length xs ≡ length ys → length (without p xs) ≡ length (without p ys)
unfolding without
without_long p xs ys same =
    simp (length-append, length-take, length-drop, same)

kept_long : {A B : Type 0} (p : ℕ) (xs : List A) (ys : List B) → length xs ≡ length ys → (w : Code) → length (kept p xs w) ≡ length (kept p ys w)
unfolding kept
kept_long p xs ys same begin_write = same
kept_long p xs ys same begin_read = same
kept_long p xs ys same handOver = without_long p xs ys same
kept_long p xs ys same lose = without_long p xs ys same
kept_long p xs ys same double = same
kept_long p xs ys same crash_server = same
kept_long p xs ys same crash_client = same
kept_long p xs ys same restart_server = same

module _ {A : Type 0} (b i : ℕ) (os : List ℕ) (xs : List A) (same : length os ≡ length xs) where
  -- what stays of b's things, where the one at position i of b's is named
  own_kept : (w : Code) → own b (kept (place_of b i os) os w) (kept (place_of b i os) xs w) ≡ kept i (own b os xs) w
  unfolding kept
  own_kept begin_write = refl
  own_kept begin_read = refl
  own_kept handOver = own_without b i os xs same
  own_kept lose = own_without b i os xs same
  own_kept double = refl
  own_kept crash_server = refl
  own_kept crash_client = refl
  own_kept restart_server = refl

  -- another's stay
  own_kept_other : (o : ℕ) → (o ≡ b → ⊥) → (w : Code) → own o (kept (place_of b i os) os w) (kept (place_of b i os) xs w) ≡ own o os xs
  unfolding kept
  own_kept_other o other begin_write = refl
  own_kept_other o other begin_read = refl
  own_kept_other o other handOver = own_without_other b o other i os xs same
  own_kept_other o other lose = own_without_other b o other i os xs same
  own_kept_other o other double = refl
  own_kept_other o other crash_server = refl
  own_kept_other o other crash_client = refl
  own_kept_other o other restart_server = refl

count_kept_other : (b i : ℕ) (os : List ℕ) (o : ℕ) → (o ≡ b → ⊥) → (w : Code) → count_of o (kept (place_of b i os) os w) ≡ count_of o os
unfolding kept
count_kept_other b i os o other begin_write = refl
count_kept_other b i os o other begin_read = refl
count_kept_other b i os o other handOver = count_without_other b o other i os
count_kept_other b i os o other lose = count_without_other b o other i os
count_kept_other b i os o other double = refl
count_kept_other b i os o other crash_server = refl
count_kept_other b i os o other crash_client = refl
count_kept_other b i os o other restart_server = refl

kept_within : (room : Room) (p : ℕ) (os : List ℕ) → owners_within room os ≡ true → (w : Code) → owners_within room (kept p os w) ≡ true
unfolding kept
kept_within room p os h begin_write = h
kept_within room p os h begin_read = h
kept_within room p os h handOver = without_within room p os h
kept_within room p os h lose = without_within room p os h
kept_within room p os h double = h
kept_within room p os h crash_server = h
kept_within room p os h crash_client = h
kept_within room p os h restart_server = h

-- the owners after an event that adds so many
added_owners : {A : Type 0} (b p : ℕ) (os : List ℕ) (xs added : List A) → length os ≡ length xs → (w : Code)
    → owners_after b p os (length (kept p xs w ++ added)) w ≡ kept p os w ++ replicate (length added) b
unfolding owners_after
added_owners b p os xs added same w =
    let long = kept_long p os xs same w in
    let more : length (kept p xs w) + length added - length (kept p os w) ≡ length added = omega arith in
    rw (owners-kept p os w, length-append (kept p xs w) added, more)

-- an event that names no board is a crash or a restart
pub every_elim : (P : Code → Type 0) → P crash_server → P crash_client → P restart_server → (w : Code) → names_board (some w) ≡ false → P w
unfolding names_board
every_elim P x y z begin_write h = absurd (false≢true (sym h))
every_elim P x y z begin_read h = absurd (false≢true (sym h))
every_elim P x y z handOver h = absurd (false≢true (sym h))
every_elim P x y z lose h = absurd (false≢true (sym h))
every_elim P x y z double h = absurd (false≢true (sym h))
every_elim P x y z crash_server h = x
every_elim P x y z crash_client h = y
every_elim P x y z restart_server h = z

-- ---- a board's event, with the messages of all in flight

module _ {Value Element : Type 0} (key : Tag → ℕ) (encode : Value → ℕ → Element) (decode : List (ℕ × Element) → Value) (cfg : Config) where
  module _ (n : Network Value Element) (b : ℕ) (a : Call Value) where
    abbrev place : ℕ
    place = place_of b a.position n.owners

    abbrev among : Code → Turn Value Element
    among w = rig.move key encode decode cfg (among_all b n) (placed b n a) w

    abbrev alone : Code → Turn Value Element
    alone w = rig.move key encode decode cfg (rig_of b n) a w

    -- what the event adds at the end, and that the board by itself adds the same and does the same
    record Shape (w : Code) : Type 0 where
      added : List (Message Element)
      flight : (among w).rig.in_flight ≡ kept place n.in_flight w ++ added
      own_flight : (alone w).rig.in_flight ≡ kept a.position (own b n.owners n.in_flight) w ++ added
      parties : (among w).rig.parties ≡ (alone w).rig.parties
      answer : (among w).answer ≡ (alone w).answer

    shape : length n.owners ≡ length n.in_flight → (w : Code) → Shape w
    unfolding rig.move leaves kept among_all rig_of placed doubled quiet parties.crash_server parties.crash_client parties.restart_server
    shape same begin_write = record { added = _; flight = refl; own_flight = refl; parties = refl; answer = refl }
    shape same begin_read = record { added = _; flight = refl; own_flight = refl; parties = refl; answer = refl }
    shape same handOver =
        let at = own_at b a.position n.owners n.in_flight same in
        record {
          added = (deliver_at key encode decode cfg (n.parties b) (get_elem? n.in_flight place)).sends;
          flight = refl;
          own_flight =
              ap (λ o. without a.position (own b n.owners n.in_flight) ++ (deliver_at key encode decode cfg (n.parties b) o).sends) (sym at);
          parties = ap (λ o. (deliver_at key encode decode cfg (n.parties b) o).parties) at;
          answer = ap (λ o. (deliver_at key encode decode cfg (n.parties b) o).answer) at;
        }
    shape same lose = record { added = []; flight = refl; own_flight = refl; parties = refl; answer = refl }
    shape same double =
        let at = own_at b a.position n.owners n.in_flight same in
        record {
          added = to_list (get_elem? n.in_flight place) ++ [];
          flight = append_assoc n.in_flight (to_list (get_elem? n.in_flight place)) [];
          own_flight =
              append_assoc (own b n.owners n.in_flight) (to_list (get_elem? (own b n.owners n.in_flight) a.position)) []
              ∙ ap (λ o. own b n.owners n.in_flight ++ (to_list o ++ [])) (sym at);
          parties = refl;
          answer = refl;
        }
    shape same crash_server = record { added = []; flight = refl; own_flight = refl; parties = refl; answer = refl }
    shape same crash_client = record { added = []; flight = refl; own_flight = refl; parties = refl; answer = refl }
    shape same restart_server = record { added = []; flight = refl; own_flight = refl; parties = refl; answer = refl }

    module _ (same : length n.owners ≡ length n.in_flight) (w : Code) where
      abbrev left : NetworkTurn Value Element
      left = board_move key encode decode cfg n b a w

      -- the messages and their boards afterwards
      owners_are : left.network.owners ≡ kept place n.owners w ++ replicate (length (shape same w).added) b
      unfolding board_move turned_on
      owners_are =
          ap (λ ms. owners_after b place n.owners (length ms) w) (shape same w).flight
          ∙ added_owners b place n.owners n.in_flight (shape same w).added same w

      flight_is : left.network.in_flight ≡ kept place n.in_flight w ++ (shape same w).added
      unfolding board_move turned_on
      flight_is = (shape same w).flight

      own-flight : own b left.network.owners left.network.in_flight ≡ (alone w).rig.in_flight
      own-flight =
          let added = (shape same w).added in
          ap₂ (own b) owners_are flight_is
          ∙ own_append b _ _ _ added (kept_long place n.owners n.in_flight same w)
          ∙ ap₂ ◌++◌ (own_kept b a.position n.owners n.in_flight same w) (own_all b added)
          ∙ sym (shape same w).own_flight

      -- for its board, it is that board's own event
      board_own : rig_of b left.network ≡ (alone w).rig
      unfolding rig_of board_move turned_on
      board_own = λ i. record {
        parties = (upd_same n.parties b (among w).rig.parties ∙ (shape same w).parties) i;
        in_flight = own-flight i;
      }

      board_answer : left.answer ≡ (alone w).answer
      unfolding board_move turned_on
      board_answer = (shape same w).answer

      -- the other boards stay: no message of one board reaches a party of another
      board_other : (o : ℕ) → (o ≡ b → ⊥) → rig_of o left.network ≡ rig_of o n
      board_other o other = unfold rig_of board_move turned_on in λ i. record {
        parties = upd_other n.parties b (among w).rig.parties o other i;
        in_flight = other_flight i;
      }
        where
          other_flight : own o left.network.owners left.network.in_flight ≡ own o n.owners n.in_flight
          other_flight =
              let added = (shape same w).added in
              ap₂ (own o) owners_are flight_is
              ∙ own_append o _ _ _ added (kept_long place n.owners n.in_flight same w)
              ∙ ap₂ ◌++◌ (own_kept_other b a.position n.owners n.in_flight same o other w) (own_none o b other (length added) added)
              ∙ append-nil _

      -- each message still has its board beside it
      board_lengths : length left.network.owners ≡ length left.network.in_flight
      board_lengths =
          let added = (shape same w).added in
          ap length owners_are
          ∙ length-append (kept place n.owners w) (replicate (length added) b)
          ∙ ap₂ ◌+◌ (kept_long place n.owners n.in_flight same w) (length-replicate (length added) b)
          ∙ sym (ap length flight_is ∙ length-append (kept place n.in_flight w) added)

      -- and of another board there are as many as before
      board_counts : (o : ℕ) → (o ≡ b → ⊥) → count_of o left.network.owners ≡ count_of o n.owners
      board_counts o other =
          let added = (shape same w).added in
          ap (count_of o) owners_are
          ∙ count_append o _ (replicate (length added) b)
          ∙ ap₂ ◌+◌ (count_kept_other b a.position n.owners o other w) (count_none o b other (length added))
          ∙ add-zero (count_of o n.owners)

      -- each one's board is one that there is
      board-within : (room : Room) → within 1 room.boards b ≡ true → owners_within room n.owners ≡ true → owners_within room left.network.owners ≡ true
      board-within room exists h =
          let count = length (shape same w).added in
          subst (λ os. owners_within room os ≡ true) (sym owners_are)
          (append_within room (kept place n.owners w) (replicate count b) (kept_within room place n.owners h w) (added_within room count b exists))

  -- ---- the moves of a network

  -- an event that names a board is that board's
  pub named_move : (room : Room) (n : Network Value Element) (b : ℕ) (a : Call Value) (w : Code) → names_board (some w) ≡ true
      → network_move key encode decode cfg room n b a w ≡ board_move key encode decode cfg n b a w
  unfolding network_move names_board
  named_move room n b a begin_write named = refl
  named_move room n b a begin_read named = refl
  named_move room n b a handOver named = refl
  named_move room n b a lose named = refl
  named_move room n b a double named = refl
  named_move room n b a crash_server named = absurd (false≢true named)
  named_move room n b a crash_client named = absurd (false≢true named)
  named_move room n b a restart_server named = absurd (false≢true named)

  module _ (room : Room) (n : Network Value Element) (same : length n.owners ≡ length n.in_flight) (b : ℕ) (a : Call Value) (w : Code) where
    abbrev after : NetworkTurn Value Element
    after = network_move key encode decode cfg room n b a w

    module _ (named : names_board (some w) ≡ true) where
      -- a move among the messages of all is the board's own move
      pub own_move : rig_of b after.network ≡ (rig.move key encode decode cfg (rig_of b n) a w).rig
      own_move = ap (λ t. rig_of b t.network) (named_move room n b a w named) ∙ board_own n b a same w

      pub own_answer : after.answer ≡ (rig.move key encode decode cfg (rig_of b n) a w).answer
      own_answer = ap (λ t. t.answer) (named_move room n b a w named) ∙ board_answer n b a same w

      -- it reaches no party and no message of another board
      pub other_stays : (o : ℕ) → (o ≡ b → ⊥) → rig_of o after.network ≡ rig_of o n
      other_stays o other = ap (λ t. rig_of o t.network) (named_move room n b a w named) ∙ board_other n b a same w o other

      -- each message has its board beside it
      pub lengths_stay : length after.network.owners ≡ length after.network.in_flight
      lengths_stay = rw (named_move room n b a w named) (board_lengths n b a same w)

      -- of another board as many messages are in flight as before
      pub counts_stay : (o : ℕ) → (o ≡ b → ⊥) → count_of o after.network.owners ≡ count_of o n.owners
      counts_stay o other = ap (λ t. count_of o t.network.owners) (named_move room n b a w named) ∙ board_counts n b a same w o other

      -- each message's board is one that there is
      pub owners_stay_within : within 1 room.boards b ≡ true → owners_within room n.owners ≡ true → owners_within room after.network.owners ≡ true
      owners_stay_within exists h = rw (named_move room n b a w named) (board-within n b a same w room exists h)

  -- ---- a crash, or a restart, is one on each board that there is

  module _ (room : Room) (n : Network Value Element) (b : ℕ) (a : Call Value) where
    abbrev moved : Code → NetworkTurn Value Element
    moved w = network_move key encode decode cfg room n b a w

    pub every_move : (o : ℕ) → within 1 room.boards o ≡ true → (w : Code) → names_board (some w) ≡ false
        → rig_of o (moved w).network ≡ (rig.move key encode decode cfg (rig_of o n) a w).rig
    unfolding network_move turned_on_each on_each rig_of rig.move leaves parties.crash_server parties.crash_client parties.restart_server quiet
    every_move o exists = every_elim (λ w. rig_of o (moved w).network ≡ (rig.move key encode decode cfg (rig_of o n) a w).rig)
        (λ i. record {
          parties = cond (exists i) (parties.crash_server (n.parties o) a.party).parties (n.parties o);
          in_flight = sym (append-nil (own o n.owners n.in_flight)) i;
        })
        (λ i. record {
          parties = cond (exists i) (parties.crash_client (n.parties o) a.party).parties (n.parties o);
          in_flight = sym (append-nil (own o n.owners n.in_flight)) i;
        })
        (λ i. record {
          parties = cond (exists i) (parties.restart_server (n.parties o) a.party).parties (n.parties o);
          in_flight = sym (append-nil (own o n.owners n.in_flight)) i;
        })

    -- it ends nothing
    pub every_answer : (w : Code) → names_board (some w) ≡ false → (moved w).answer ≡ nothing_ended
    unfolding network_move turned_on_each
    every_answer = every_elim (λ w. (moved w).answer ≡ nothing_ended) refl refl refl

    pub every_own_answer : (o : ℕ) (w : Code) → names_board (some w) ≡ false → (rig.move key encode decode cfg (rig_of o n) a w).answer ≡ nothing_ended
    unfolding rig.move leaves parties.crash_server parties.crash_client parties.restart_server quiet
    every_own_answer o = every_elim (λ w. (rig.move key encode decode cfg (rig_of o n) a w).answer ≡ nothing_ended) refl refl refl

    -- no message comes or goes
    pub every_owners : (w : Code) → names_board (some w) ≡ false → (moved w).network.owners ≡ n.owners
    unfolding network_move turned_on_each on_each
    every_owners = every_elim (λ w. (moved w).network.owners ≡ n.owners) refl refl refl

    pub every_flight : (w : Code) → names_board (some w) ≡ false → (moved w).network.in_flight ≡ n.in_flight
    unfolding network_move turned_on_each on_each
    every_flight = every_elim (λ w. (moved w).network.in_flight ≡ n.in_flight) refl refl refl
