-- A fresh rig of several boards. In order: how great the buffers are; the rig that a refused making of one board gives; what the questions
-- show; one board's parts as the code lends them; one board more; the rig. Assumes nothing.
use Rattle.std.proofs.Common.{Result, Ok, Err}
use Prim.Native.Nat.{ℕ, ◌+◌, ◌-◌, ◌*◌, ◌≤◌, ◌<◌, min}
use mathlib.Core.Path.{◌≡◌, refl, sym, ap, ap₂, subst, fun_ext, ◌∙◌}
use mathlib.Core.Bool.{Bool, true, false, cond, ◌&&◌}
use mathlib.Core.List.{List, [], ◌∷◌, ◌++◌}
use native.Mathlib.Nat.{mul-le-mul}
use native.Mathlib.Omega.{arith}
use native.Mathlib.Decide.{ℕ_discrete}
use borrow.Author.Tests.{eq-eqb, eqb-true, le-leb}
use lib.Dec.{eqb, leb}
use lib.ListN.{length, take, drop, get_elem?, length-set}
use Rattle.laws.specs.Parts.{part}
use Rattle.laws.proofs.Below.{below_all}
use Rattle.laws.proofs.Bools.{and_left, and_right}
use Rattle.laws.proofs.Parts.{lent_is, over_lent, over_length, part_fits, part_length, part_other, part_own}
use Rattle.config.specs.declared.Config.{Config}
use Rattle.config.specs.declared.Room.{Room}
use Rattle.config.specs.Refusal.{refusal_number, verdict_number}
use Rattle.config.specs.Config.{Valid, board_length, elements_length, least, record_length, rig_questions, store_length}
use Rattle.config.specs.declared.Refusal.{Refusal}
use Rattle.config.proofs.Refusals.{refusal_some}
use Rattle.config.specs.Questions.{ask, first_no, last_question, numbered, within}
use Rattle.config.specs.Refusal.{passing15, verdict_number}
use Rattle.config.specs.Room.{fits_room, owners_within, room_questions}
use Rattle.config.proofs.Refusals.{verdict_given}
use Rattle.config.proofs.Questions.{Given, first_no_given, first_no_no, first_no_yes, last_all, last_yes, rig_questions_numbered, within_high, within_low}
use Rattle.config.proofs.OwnersWithin.{none_within}
use Rattle.config.proofs.Rooms.{none_room, boards_high, boards_low, room_five, room_is, room_later, room_valid, room_questions_numbered}
use Rattle.config.proofs.Sizes.{board_small}
use Rattle.flight.specs.Flight.{records}
use Rattle.protocol.specs.Boards.{Board, BoardParties, fresh_network, fresh_parties, starting_board}
use Rattle.protocol.specs.Network as network
use Rattle.protocol.specs.Network.{no_parties}
use Rattle.protocol.specs.Parties as protocol
use Rattle.protocol.specs.Rig as protocolRig
use Rattle.protocol.proofs.Together.{SameUp}
use Rattle.rig.specs.declared.Made.{Made as OneMade}
use Rattle.events.specs.declared.Rig as one
use Rattle.events.specs.View as oneView
use Rattle.events.specs.View.{Lent as OneLent, lent as one_lent, messages_of, parties_of}
use Rattle.events.specs.Questions as oneQuestions
use Rattle.events.specs.Questions.{parties_within as one_passes, rig_within as one_within, sized as one_sized}
use Rattle.events.proofs.Lengths as oneLengths
use Rattle.events.proofs.Lengths.{all_elements_small, boards_small, stores_small}
use Rattle.rig.specs.Calls as oneCalls
use Rattle.rig.specs.Calls.{MakePost as OneMakePost, make_no as one_make_no}
use Rattle.boards.specs.declared.Rig.{Rig}
use Rattle.boards.specs.View.{Lent, parties_on, rig_at, rig_with, view}
use Rattle.boards.specs.Questions.{board_within, due, lengths_of, parties_within, rig_within, sized, sized_by, up_alike}
use Rattle.boards.specs.Calls.{MakePost, least_rig, make_no, make_questions, start_of}
use Rattle.boards.specs.inner.Fresh.{FreshAt, FreshPost, FreshPre, OneFreshPost, parts_at, parts_back}
use Rattle.boards.specs.inner.Named.{bare}
use Rattle.boards.specs.inner.Outcome.{put_at}
use Rattle.boards.specs.inner.Questions.{Accepted}
use Rattle.boards.proofs.EachSize.{sizes_are}
use Rattle.boards.proofs.OneOf.{counting, put_other, put_there, same_parties}
use Rattle.boards.proofs.UpAlike.{up-alike}
use Rattle.boards.proofs.Whole.{count_is}

-- ---- how great the buffers are

module _ (cfg : Config) (room : Room) (all : Accepted cfg room) where
  pub is_valid : Valid cfg
  is_valid = room_valid cfg room all

  pub some_boards : 1 ≤ room.boards
  some_boards = boards_low room (room_is cfg room all)

  pub few_boards : room.boards ≤ 8
  few_boards = boards_high room (room_is cfg room all)

  pub starts_high : room.boards * board_length cfg ≤ 8192
  starts_high = mul-le-mul few_boards (board_small cfg is_valid)

  pub stores_high : room.boards * (cfg.n * store_length cfg) ≤ 65536
  stores_high = mul-le-mul few_boards (stores_small cfg is_valid)

  pub kept_high : room.boards * (cfg.c * board_length cfg) ≤ 131072
  kept_high = mul-le-mul few_boards (boards_small cfg is_valid)

  pub received_high : room.boards * (cfg.c * elements_length cfg) ≤ 131072
  received_high = mul-le-mul few_boards (all_elements_small cfg is_valid)

-- ---- the rig that a refused making of one board gives

-- no message may be in flight: 5 is answered no
pub least_refused : (start : List ℕ) (l : OneLent) → one_make_no least 0 start l ≡ 0 → ⊥
unfolding oneCalls.make_questions rig_questions first_no
least_refused start l h = omega (arith, h)

-- ---- what the questions show

-- 1 to 5, 21 and 22 were asked and none is answered no: the refusal is 6, or none
module _ (cfg : Config) (room : Room) {asked : ℕ} (e : asked ≡ first_no (room_questions cfg room)) (none_yet : asked ≡ 0) (holds : Bool) where
  pub room_six_no : holds ≡ false → 6 ≡ first_no (room_questions cfg room ++ ask 6 holds ∷ [])
  room_six_no h = room_later cfg room e none_yet (ask 6 holds ∷ []) (sym (first_no_no 6 holds [] h))

  pub room_six_yes : holds ≡ true → 0 ≡ first_no (room_questions cfg room ++ ask 6 holds ∷ [])
  unfolding first_no
  room_six_yes h = room_later cfg room e none_yet (ask 6 holds ∷ []) (sym (first_no_yes 6 holds [] h))

-- the lengths that are due
pub lengths_due : (cfg : Config) (room : Room) → Accepted cfg room → lengths_of cfg room ≡ due cfg room
lengths_due cfg room h = rw (eq-eqb (first_no (room_questions cfg room)) 0 h)

-- ---- one board's parts, as the code lends them and puts them back

-- the lengths of its parts
abbrev wide : Config → ℕ
wide cfg = cfg.n * store_length cfg

abbrev kept : Config → ℕ
kept cfg = cfg.c * board_length cfg

abbrev received : Config → ℕ
received cfg = cfg.c * elements_length cfg

module _ (cfg : Config) (room : Room) (i : ℕ) (start : List ℕ) (l : OneLent) where
  abbrev lent_part : ℕ → List ℕ → List ℕ
  lent_part w buffer = take (i * w + w - i * w) (drop (i * w) buffer)

  abbrev put_part : ℕ → List ℕ → List ℕ → List ℕ
  put_part w xs buffer = take (i * w) buffer ++ (xs ++ drop (i * w + w - i * w) (drop (i * w) buffer))

  pub one_done : (made : OneMade) (ms ss bs es : List ℕ)
      → OneMakePost cfg room.m (lent_part (board_length cfg) start) (one_lent l.messages (lent_part (wide cfg) l.stores) (lent_part (kept cfg) l.boards) (lent_part (received cfg) l.elements)) made (one_lent ms ss bs es)
      → OneFreshPost cfg room i start l made.rig (one_lent ms (put_part (wide cfg) ss l.stores) (put_part (kept cfg) bs l.boards) (put_part (received cfg) es l.elements))
  one_done made ms ss bs es h =
      record {
        made = made;
        after = one_lent ms ss bs es;
        post =
            subst (λ z. OneMakePost cfg room.m z (parts_at cfg i l) made (one_lent ms ss bs es)) (lent_is start (i * board_length cfg) (board_length cfg))
            (subst (λ z. OneMakePost cfg room.m (lent_part (board_length cfg) start) z made (one_lent ms ss bs es))
            (λ j. one_lent l.messages (lent_is l.stores (i * wide cfg) (wide cfg) j) (lent_is l.boards (i * kept cfg) (kept cfg) j) (lent_is l.elements (i * received cfg) (received cfg) j)) h);
        is = refl;
        back =
            λ j. one_lent ms (over_lent (i * wide cfg) (wide cfg) ss l.stores j) (over_lent (i * kept cfg) (kept cfg) bs l.boards j) (over_lent (i * received cfg) (received cfg) es l.elements j);
      }

-- ---- one board more

-- the boards of the places below i are fresh
pub record FreshBelow (cfg : Config) (room : Room) (start : List ℕ) (l₀ l : OneLent) (r : Rig) (i : ℕ) : Type 0 where
  pub fresh : (j : ℕ) → j < i → FreshAt cfg start r l j
  pub nothing : r.count ≡ 0
  pub places : length r.boards ≡ 8
  pub messages : length l.messages ≡ length l₀.messages
  pub stores : length l.stores ≡ length l₀.stores
  pub boards : length l.boards ≡ length l₀.boards
  pub elements : length l.elements ≡ length l₀.elements

-- the lengths are as they were
pub still_sized : {cfg : Config} {room : Room} {start : List ℕ} {l₀ l : OneLent} {r : Rig} {i : ℕ} → FreshPre cfg room start l₀
    → FreshBelow cfg room start l₀ l r i → FreshPre cfg room start l
still_sized pre h =
    record {
      accepted = pre.accepted;
      start_long = pre.start_long;
      messages = h.messages ∙ pre.messages;
      stores = h.stores ∙ pre.stores;
      boards = h.boards ∙ pre.boards;
      elements = h.elements ∙ pre.elements;
    }

module _ (cfg : Config) (room : Room) (start : List ℕ) (l₀ l : OneLent) (pre₀ : FreshPre cfg room start l₀) (r : Rig) (i : ℕ)
    (below : FreshBelow cfg room start l₀ l r i) (low : i < room.boards) (x : one.Rig) (made : OneMade) (a : OneLent)
    (post : OneMakePost cfg room.m (part (board_length cfg) i start) (parts_at cfg i l) made a) (is : x ≡ made.rig) where
  pre : FreshPre cfg room start l
  pre = still_sized pre₀ below

  parts_sized : one_sized cfg room.m (parts_at cfg i l) ≡ true
  unfolding oneQuestions.sized_by
  parts_sized =
      ap₂ ◌&&◌
      (ap₂ ◌&&◌
      (ap₂ ◌&&◌ (eq-eqb (length l.messages) (record_length * room.m) pre.messages)
      (eq-eqb _ (wide cfg) (part_length (wide cfg) i room.boards l.stores low pre.stores)))
      (eq-eqb _ (kept cfg) (part_length (kept cfg) i room.boards l.boards low pre.boards)))
      (eq-eqb _ (received cfg) (part_length (received cfg) i room.boards l.elements low pre.elements))

  -- no question of the one board is answered no
  passed : one_make_no cfg room.m (part (board_length cfg) i start) (parts_at cfg i l) ≡ 0
  unfolding oneCalls.make_questions
  passed =
      last_yes (rig_questions cfg room.m) 6 _ (rig_questions_numbered cfg room.m) (room_five cfg room pre.accepted)
      (ap₂ ◌&&◌ (eq-eqb _ (board_length cfg) (part_length (board_length cfg) i room.boards start low pre.start_long)) parts_sized)

  left_sized : one_sized cfg room.m a ≡ true
  left_sized = post.lengths ∙ parts_sized

  messages_long : length a.messages ≡ length l.messages
  messages_long = oneLengths.messages_are cfg room.m _ _ _ _ left_sized ∙ sym pre.messages

  stores_long : length a.stores ≡ wide cfg
  stores_long = oneLengths.stores_are cfg room.m _ _ _ _ left_sized

  boards_long : length a.boards ≡ kept cfg
  boards_long = oneLengths.boards_are cfg room.m _ _ _ _ left_sized

  elements_long : length a.elements ≡ received cfg
  elements_long = oneLengths.elements_are cfg room.m _ _ _ _ left_sized

  stores_fit : i * wide cfg + wide cfg ≤ length l.stores
  stores_fit = omega (arith, part_fits i room.boards (wide cfg) low, pre.stores)

  boards_fit : i * kept cfg + kept cfg ≤ length l.boards
  boards_fit = omega (arith, part_fits i room.boards (kept cfg) low, pre.boards)

  elements_fit : i * received cfg + received cfg ≤ length l.elements
  elements_fit = omega (arith, part_fits i room.boards (received cfg) low, pre.elements)

  abbrev r' : Rig
  r' = put_at r i x 0

  abbrev l' : OneLent
  l' = parts_back cfg i a l

  -- the one that is made
  made_parties : parties_of cfg x a ≡ fresh_parties cfg (starting_board cfg (part (board_length cfg) i start))
  unfolding oneView.view protocolRig.fresh_rig
  made_parties = ap (λ z. parties_of cfg z a) is ∙ ap (λ z. z.parties) (post.seen passed)

  made_passes : one_passes cfg x ≡ true
  unfolding oneQuestions.rig_within
  made_passes = ap (λ z. one_passes cfg z) is ∙ and_right (leb made.rig.count room.m) (one_passes cfg made.rig) (post.within passed)

  own_parts : parts_at cfg i l' ≡ a
  own_parts =
      λ j. one_lent a.messages
      (part_own (wide cfg) i a.stores l.stores stores_long stores_fit j)
      (part_own (kept cfg) i a.boards l.boards boards_long boards_fit j)
      (part_own (received cfg) i a.elements l.elements elements_long elements_fit j)

  own_rig : rig_at r' i ≡ counting x 0
  own_rig = put_there r i x 0 (omega (arith, low, below.places, few_boards cfg room pre.accepted))

  fresh_own : FreshAt cfg start r' l' i
  fresh_own =
      record {
        seen = ap₂ (parties_of cfg) own_rig own_parts ∙ same_parties cfg x 0 a a.messages ∙ made_parties;
        within = ap (λ z. one_passes cfg z) own_rig ∙ made_passes;
      }

  -- the others
  fresh_other : (j : ℕ) → (j ≡ i → ⊥) → FreshAt cfg start r l j → FreshAt cfg start r' l' j
  fresh_other j ne h =
      let rig : rig_at r' j ≡ rig_at r j = put_other r i x 0 j ne ∙ ap (rig_with (get_elem? r.boards j)) (sym below.nothing) in
      let ss = part_other (wide cfg) i a.stores l.stores stores_long stores_fit j ne in
      let bs = part_other (kept cfg) i a.boards l.boards boards_long boards_fit j ne in
      let es = part_other (received cfg) i a.elements l.elements elements_long elements_fit j ne in
      record {
        seen =
            (λ k. parties_of cfg (rig k) (one_lent a.messages (ss k) (bs k) (es k)))
            ∙ same_parties cfg (rig_at r j) (rig_at r j).count (parts_at cfg j l) a.messages
            ∙ h.seen;
        within = ap (λ z. one_passes cfg z) rig ∙ h.within;
      }

  fresh_each : (j : ℕ) → j < i + 1 → FreshAt cfg start r' l' j
  fresh_each j h = elim (ℕ_discrete j i) as (λ _. FreshAt cfg start r' l' j) [
    | yes e ↦ subst (FreshAt cfg start r' l') (sym e) fresh_own
    | no n ↦ fresh_other j n (below.fresh j (omega (arith, h, n)))
  ]

  put_more : FreshBelow cfg room start l₀ l' r' (i + 1)
  put_more =
      record {
        fresh = fresh_each;
        nothing = refl;
        places = length-set r.boards i _ ∙ below.places;
        messages = messages_long ∙ below.messages;
        stores = over_length (i * wide cfg) (wide cfg) a.stores l.stores stores_long stores_fit ∙ below.stores;
        boards = over_length (i * kept cfg) (kept cfg) a.boards l.boards boards_long boards_fit ∙ below.boards;
        elements = over_length (i * received cfg) (received cfg) a.elements l.elements elements_long elements_fit ∙ below.elements;
      }

pub fresh_more : (cfg : Config) (room : Room) (start : List ℕ) (l₀ l : OneLent) (r : Rig) (i : ℕ) (x : one.Rig) (r' : Rig) (l' : OneLent)
    → FreshPre cfg room start l₀ → FreshBelow cfg room start l₀ l r i → i < room.boards → OneFreshPost cfg room i start l x l' → r' ≡ put_at r i x 0
    → FreshBelow cfg room start l₀ l' r' (i + 1)
fresh_more cfg room start l₀ l r i x r' l' pre below low post put =
    subst (λ z. FreshBelow cfg room start l₀ l' z (i + 1)) (sym put)
    (subst (λ z. FreshBelow cfg room start l₀ z (put_at r i x 0) (i + 1)) (sym post.back)
    (put_more cfg room start l₀ l pre r i below low x post.made post.after post.post post.is))

-- ---- the rig

-- all fresh parties are up
all_up : (cfg : Config) (x y : Board) → SameUp (fresh_parties cfg x) (fresh_parties cfg y)
unfolding protocol.fresh_parties
all_up cfg x y = record { servers = λ s. refl; clients = λ c. refl }

module _ (cfg : Config) (room : Room) (start : List ℕ) (l : Lent) (got : ℕ) (asked : got ≡ make_no cfg room start l) where
  -- a making that is refused
  pub make_refused : (why : Refusal) → refusal_number why ≡ got → (r : Rig) → r ≡ least_rig
      → MakePost cfg room start l (record { verdict = Err why; rig = r }) l
  make_refused why e r least =
      let some = (refusal_some why (e ∙ asked)).1 in
      record {
        number = e ∙ asked;
        seen = λ z. absurd (some z);
        within = λ z. absurd (some z);
        lengths = refl;
        held = λ _. refl;
        refused = λ _. least;
      }

  -- one that is not
  module _ (none_no : got ≡ 0) where
    abbrev passes : make_no cfg room start l ≡ 0
    passes = sym asked ∙ none_no

    abbrev start_is : Bool
    start_is = eqb (length start) (room.boards * board_length cfg)

    all_yes : Accepted cfg room × ((start_is && sized cfg room l) ≡ true)
    unfolding make_questions
    all_yes = last_all (room_questions cfg room) 6 (start_is && sized cfg room l) (room_questions_numbered cfg room) (omega arith) passes

    lent-sized : sized cfg room l ≡ true
    lent-sized = and_right start_is (sized cfg room l) all_yes.1

    pub making : FreshPre cfg room start (bare l)
    making =
        record {
          accepted = all_yes.0;
          start_long = eqb-true (length start) (room.boards * board_length cfg) (and_left start_is (sized cfg room l) all_yes.1);
          messages = (sizes_are _ (due cfg room) lent-sized).messages;
          stores = (sizes_are _ (due cfg room) lent-sized).stores;
          boards = (sizes_are _ (due cfg room) lent-sized).boards;
          elements = (sizes_are _ (due cfg room) lent-sized).elements;
        }

    module _ (ms ss bs es : List ℕ) (r : Rig) (post : FreshPost cfg room start (bare l) r (one_lent ms ss bs es)) where
      abbrev left : Lent
      left = record { messages = ms; owners = l.owners; stores = ss; boards = bs; elements = es }

      board_seen : (b : ℕ) (t : Bool) → within 1 room.boards b ≡ t
          → parties_on cfg room r left b ≡ cond t (fresh_parties cfg (start_of cfg start b)) no_parties
      unfolding parties_on
      board_seen b false h = rw h
      board_seen b true h =
          rw h (post.each (b - 1) (omega (arith, within_low 1 room.boards b h, within_high 1 room.boards b h))).seen

      sees : view cfg room r left ≡ fresh_network cfg room (start_of cfg start)
      unfolding view network.fresh_network records
      sees =
          ap₂ (λ (p : ℕ → BoardParties) (n : ℕ). record { parties = p; in_flight = messages_of cfg (records n ms); owners = take n l.owners })
          (fun_ext (λ b. board_seen b (within 1 room.boards b) refl)) post.nothing

      board_passes : (i : ℕ) → i < room.boards → one_within cfg room.m (rig_at r i) ≡ true
      unfolding oneQuestions.rig_within
      board_passes i h =
          ap₂ ◌&&◌ (le-leb (rig_at r i).count room.m (omega (arith, count_is (get_elem? r.boards i) r.count, post.nothing))) (post.each i h).within

      board_alike : (i : ℕ) → i < room.boards → up_alike cfg (rig_at r i) (rig_at r 0) ≡ true
      board_alike i h =
          let here = (post.each i h).seen in
          let first = (post.each 0 (omega (arith, some_boards cfg room all_yes.0))).seen in
          up-alike cfg (rig_at r i) (rig_at r 0) (parts_at cfg i (one_lent ms ss bs es)) (parts_at cfg 0 (one_lent ms ss bs es))
          (subst (λ p. SameUp p (parties_of cfg (rig_at r 0) (parts_at cfg 0 (one_lent ms ss bs es)))) (sym here)
          (subst (SameUp (fresh_parties cfg (starting_board cfg (part (board_length cfg) i start)))) (sym first) (all_up cfg _ _)))

      boards_pass : parties_within cfg room r ≡ true
      unfolding board_within
      boards_pass = below_all room.boards (board_within cfg room r) (λ i h. ap₂ ◌&&◌ (board_passes i h) (board_alike i h))

      stands : rig_within cfg room r l.owners ≡ true
      unfolding rig_within
      stands =
          ap (λ (n : ℕ). parties_within cfg room r && owners_within room (take n l.owners) && fits_room room (take n l.owners)) post.nothing
          ∙ ap₂ ◌&&◌ (ap₂ ◌&&◌ boards_pass (none_within room)) (none_room room)

      pub make_done : MakePost cfg room start l (record { verdict = (Ok tt); rig = r }) left
      make_done =
          record {
            number = sym passes;
            seen = λ _. sees;
            within = λ _. stands;
            lengths =
                λ j. sized_by cfg room
                (record { messages = post.messages j; owners = length l.owners; stores = post.stores j; boards = post.boards j; elements = post.elements j });
            held = λ n. absurd (n passes);
            refused = λ n. absurd (n passes);
          }
