-- Boards that share the messages in flight. In order: questions 1 to 5, 21 and 22; what 22 tells of a room; the boards of messages, and how
-- many each has; whether there is room for messages, by their number and by the places kept free; a board whose messages change. Assumes
-- nothing.
use mathlib.Core.Path.{◌≡◌, refl, sym, ap, ◌∙◌}
use mathlib.Core.Bool.{Bool, true, false, cond}
use mathlib.Core.List.{List, [], ◌∷◌, ◌++◌}
use Prim.Native.Nat.{ℕ, suc, ◌+◌, ◌-◌, ◌≤◌}
use native.Mathlib.Omega.{arith}
use borrow.Author.Tests.{eq-eqb, eqb-false, le-leb, leb-false, leb-true, ne_eqb}
use lib.Dec.{eqb, leb}
use lib.ListN.{length, get_or}
use Rattle.laws.specs.Below.{all_below, sum_below}
use Rattle.laws.specs.Owners.{count_of}
use Rattle.laws.proofs.Below.{below_all, below_at, sum_both, sum_but, sum_le, sum_same, sum_zero}
use Rattle.laws.proofs.Bools.{and_left, and_right}
use Rattle.laws.proofs.OwnersScan.{count_other, count_own}
use Rattle.config.specs.declared.Config.{Config}
use Rattle.config.specs.declared.Room.{Room}
use Rattle.config.specs.Config.{Valid, most_messages, rig_questions}
use Rattle.config.specs.Questions.{Question, first_no, numbered, within}
use Rattle.config.specs.Room.{beyond, fits_room, kept_free, most_boards, owners_within, room_questions, room_within, share_of, shares_sum}
use Rattle.config.proofs.Questions.{last_all, passes, rig_questions_numbered, stops, within_high, within_low}
use Rattle.config.proofs.Valid.{rig_most, rig_valid}

-- ---- questions 1 to 5, 21 and 22

pub room_questions_numbered : (cfg : Config) (room : Room) → numbered (room_questions cfg room) ≡ true
unfolding numbered rig_questions room_questions
room_questions_numbered cfg room = refl

-- `asked` is what `Config::ask_room` gave, and others follow: one of these is answered no
pub room_early : (cfg : Config) (room : Room) {asked : ℕ} → asked ≡ first_no (room_questions cfg room) → (asked ≡ 0 → ⊥)
    → (rest : List Question) → asked ≡ first_no (room_questions cfg room ++ rest)
room_early cfg room {asked} e some rest = stops (room_questions cfg room) rest asked e some

-- none is
pub room_later : (cfg : Config) (room : Room) {asked n : ℕ} → asked ≡ first_no (room_questions cfg room) → asked ≡ 0 → (rest : List Question)
    → n ≡ first_no rest → n ≡ first_no (room_questions cfg room ++ rest)
room_later cfg room {asked} {n} e none rest h = passes (room_questions cfg room) rest asked n (room_questions_numbered cfg room) e none h

-- where all are answered yes, those before 22 are, and 22 is
pub room_five : (cfg : Config) (room : Room) → first_no (room_questions cfg room) ≡ 0 → first_no (rig_questions cfg room.m) ≡ 0
unfolding room_questions
room_five cfg room h = (last_all (rig_questions cfg room.m) 22 (room_within room) (rig_questions_numbered cfg room.m) (omega arith) h).0

pub room_is : (cfg : Config) (room : Room) → first_no (room_questions cfg room) ≡ 0 → room_within room ≡ true
unfolding room_questions
room_is cfg room h = (last_all (rig_questions cfg room.m) 22 (room_within room) (rig_questions_numbered cfg room.m) (omega arith) h).1

pub room_valid : (cfg : Config) (room : Room) → first_no (room_questions cfg room) ≡ 0 → Valid cfg
room_valid cfg room h = rig_valid cfg room.m refl (room_five cfg room h)

pub room_most : (cfg : Config) (room : Room) → first_no (room_questions cfg room) ≡ 0 → (1 ≤ room.m) × (room.m ≤ most_messages)
room_most cfg room h = rig_most cfg room.m refl (room_five cfg room h)

-- ---- what 22 tells of a room

boards_within : (room : Room) → room_within room ≡ true → within 1 most_boards room.boards ≡ true
unfolding room_within
boards_within room = and_left (within 1 most_boards room.boards) (leb (shares_sum room) room.m)

pub boards_low : (room : Room) → room_within room ≡ true → 1 ≤ room.boards
boards_low room h = within_low 1 most_boards room.boards (boards_within room h)

pub boards_high : (room : Room) → room_within room ≡ true → room.boards ≤ most_boards
boards_high room h = within_high 1 most_boards room.boards (boards_within room h)

pub shares_high : (room : Room) → room_within room ≡ true → shares_sum room ≤ room.m
unfolding room_within
shares_high room h =
    leb-true (shares_sum room) room.m (and_right (within 1 most_boards room.boards) (leb (shares_sum room) room.m) h)

-- ---- the boards of messages

-- the first's, and those of the others
first_within : (n o : ℕ) (os : List ℕ) → all_below (length (o ∷ os)) (λ i. within 1 n (get_or (o ∷ os) i 0)) ≡ true → within 1 n o ≡ true
first_within n o os h = below_at (length (o ∷ os)) (λ i. within 1 n (get_or (o ∷ os) i 0)) h 0 (omega arith)

rest_within : (n o : ℕ) (os : List ℕ) → all_below (length (o ∷ os)) (λ i. within 1 n (get_or (o ∷ os) i 0)) ≡ true
    → all_below (length os) (λ i. within 1 n (get_or os i 0)) ≡ true
rest_within n o os h =
    below_all (length os) (λ i. within 1 n (get_or os i 0))
    (λ i l. below_at (length (o ∷ os)) (λ j. within 1 n (get_or (o ∷ os) j 0)) h (suc i) (omega (arith, l)))

-- n boards' messages are all of them
counts : (n : ℕ) (os : List ℕ) → all_below (length os) (λ i. within 1 n (get_or os i 0)) ≡ true
    → sum_below n (λ i. count_of (i + 1) os) ≡ length os
unfolding count_of
counts n [] h = sum_zero n
counts n (o ∷ os) h =
    let w = first_within n o os h in
    let low = within_low 1 n o w in
    let own : o ≡ o - 1 + 1 = omega (arith, low) in
    omega (
      arith,
      counts n os (rest_within n o os h),
      sum_but n (λ i. count_of (i + 1) (o ∷ os)) (λ i. count_of (i + 1) os) (o - 1) (omega (arith, low, within_high 1 n o w))
          (λ i l ne. count_other (i + 1) o os (λ e. ne (omega (arith, e)))),
      count_own (o - 1 + 1) o os own,
    )

pub counts_sum : (room : Room) (os : List ℕ) → owners_within room os ≡ true → sum_below room.boards (λ i. count_of (i + 1) os) ≡ length os
unfolding owners_within
counts_sum room os h = counts room.boards os h

-- ---- whether there is room

-- of the board of place i: its share, how many it has, how many of these are beyond the share, and how many it lacks to it
abbrev share : Room → ℕ → ℕ
share room i = share_of room (i + 1)

abbrev has : List ℕ → ℕ → ℕ
has os i = count_of (i + 1) os

abbrev over : Room → List ℕ → ℕ → ℕ
over room os i = has os i - share room i

abbrev lack : Room → List ℕ → ℕ → ℕ
lack room os i = share room i - has os i

-- what is kept free at place i, but for b
abbrev kept : Room → ℕ → List ℕ → ℕ → ℕ
kept room b os i = cond (eqb (i + 1) b) 0 (lack room os i)

kept_all : (room : Room) (os : List ℕ) (i : ℕ) → kept room 0 os i ≡ lack room os i
kept_all room os i = rw (ne_eqb (i + 1) 0 (λ e. omega (arith, e)))

kept_other : (room : Room) (b : ℕ) (os : List ℕ) (i : ℕ) → (i + 1 ≡ b → ⊥) → kept room b os i ≡ lack room os i
kept_other room b os i ne = rw (ne_eqb (i + 1) b ne)

kept_own : (room : Room) (b : ℕ) (os : List ℕ) (i : ℕ) → i + 1 ≡ b → kept room b os i ≡ 0
kept_own room b os i e = rw (eq-eqb (i + 1) b e)

-- the messages beyond the shares with the shares are the messages with what is kept free
balance : (room : Room) (os : List ℕ) → owners_within room os ≡ true → beyond room os + shares_sum room ≡ length os + kept_free room 0 os
unfolding beyond shares_sum kept_free
balance room os h =
    let n = room.boards in
    omega (
      arith,
      sum_both n (over room os) (share room),
      sum_same n (λ i. over room os i + share room i) (λ i. has os i + lack room os i) (λ i l. omega arith),
      sum_both n (has os) (lack room os),
      counts_sum room os h,
      sum_same n (kept room 0 os) (lack room os) (λ i l. kept_all room os i),
    )

-- two tests that follow from each other
leb_same : (a b c d : ℕ) → (a ≤ b → c ≤ d) → (c ≤ d → a ≤ b) → leb a b ≡ leb c d
leb_same a b c d f g = go (leb a b) (leb c d) refl refl
  where
    go : (s t : Bool) → leb a b ≡ s → leb c d ≡ t → s ≡ t
    go true true x y = refl
    go false false x y = refl
    go true false x y = absurd (omega (arith, leb-false c d y, f (leb-true a b x)))
    go false true x y = absurd (omega (arith, leb-false a b x, g (leb-true c d y)))

-- there is room exactly if the messages with what is kept free are at most M
pub room_total : (room : Room) (os : List ℕ) → room_within room ≡ true → owners_within room os ≡ true
    → fits_room room os ≡ leb (length os + kept_free room 0 os) room.m
unfolding fits_room
room_total room os r h =
    let all = balance room os h in
    let most = shares_high room r in
    leb_same (beyond room os) (room.m - shares_sum room) (length os + kept_free room 0 os) room.m
    (λ a. omega (arith, a, all, most)) (λ a. omega (arith, a, all, most))

-- with nothing in flight there is
pub none_room : (room : Room) → fits_room room [] ≡ true
unfolding fits_room beyond count_of
none_room room =
    le-leb (beyond room []) (room.m - shares_sum room)
    (omega (arith, sum_same room.boards (λ i. 0 - share_of room (i + 1)) (λ i. 0) (λ i l. omega arith), sum_zero room.boards))

-- all but b's is no more
pub free_le : (room : Room) (b : ℕ) (os : List ℕ) → kept_free room b os ≤ kept_free room 0 os
unfolding kept_free
free_le room b os = sum_le room.boards (kept room b os) (kept room 0 os) (λ i l. go i (eqb (i + 1) b) refl)
  where
    go : (i : ℕ) (t : Bool) → eqb (i + 1) b ≡ t → kept room b os i ≤ kept room 0 os i
    go i true e = rw e (omega arith)
    go i false e = rw e (omega (arith, kept_all room os i))

-- where there is room, the messages leave free what is kept
pub room_free : (room : Room) (b : ℕ) (os : List ℕ) → room_within room ≡ true → owners_within room os ≡ true → fits_room room os ≡ true
    → length os + kept_free room b os ≤ room.m
room_free room b os r h e =
    omega (arith, leb-true (length os + kept_free room 0 os) room.m (sym (room_total room os r h) ∙ e), free_le room b os)

pub room_left : (room : Room) (b : ℕ) (os : List ℕ) → room_within room ≡ true → owners_within room os ≡ true → fits_room room os ≡ true
    → length os ≤ room.m - kept_free room b os
room_left room b os r h e = omega (arith, room_free room b os r h e)

-- ---- a board whose messages change

-- what is kept free is what is kept but for b, and what b lacks
kept_split : (room : Room) (b : ℕ) (os : List ℕ) → within 1 room.boards b ≡ true
    → kept_free room 0 os ≡ kept_free room b os + (share_of room b - count_of b os)
unfolding kept_free
kept_split room b os w =
    let n = room.boards in
    let low = within_low 1 n b w in
    let j = b - 1 in
    let here : j + 1 ≡ b = omega (arith, low) in
    omega (
      arith,
      sum_but n (kept room 0 os) (kept room b os) j (omega (arith, low, within_high 1 n b w))
          (λ i l ne. kept_all room os i ∙ sym (kept_other room b os i (λ e. ne (omega (arith, e))))),
      kept_own room b os j here,
      kept_all room os j,
      ap (λ k. share_of room k - count_of k os) here,
    )

module _ (room : Room) (b : ℕ) (os os' : List ℕ)
    (r : room_within room ≡ true) (w : within 1 room.boards b ≡ true)
    (h : owners_within room os ≡ true) (h' : owners_within room os' ≡ true)
    (others : (o : ℕ) → (o ≡ b → ⊥) → count_of o os' ≡ count_of o os) where
  -- for the others as much is kept free
  kept_same : kept_free room b os' ≡ kept_free room b os
  unfolding kept_free
  kept_same = sum_same room.boards (kept room b os') (kept room b os) (λ i l. go i (eqb (i + 1) b) refl)
    where
      go : (i : ℕ) (t : Bool) → eqb (i + 1) b ≡ t → kept room b os' i ≡ kept room b os i
      go i true e = rw e
      go i false e = rw (e, others (i + 1) (eqb-false (i + 1) b e))

  -- there are so many more as b has more
  lengths : length os' + count_of b os ≡ length os + count_of b os'
  lengths =
      let n = room.boards in
      let low = within_low 1 n b w in
      let j = b - 1 in
      let here : j + 1 ≡ b = omega (arith, low) in
      omega (
        arith,
        sum_but n (has os') (has os) j (omega (arith, low, within_high 1 n b w)) (λ i l ne. others (i + 1) (λ e. ne (omega (arith, e)))),
        counts_sum room os h,
        counts_sum room os' h',
        ap (λ k. count_of k os) here,
        ap (λ k. count_of k os') here,
      )

  module _ (e : fits_room room os ≡ true) where
    -- the messages there are, with what is kept free
    fits : length os + kept_free room b os + (share_of room b - count_of b os) ≤ room.m
    fits =
        omega (
          arith,
          leb-true (length os + kept_free room 0 os) room.m (sym (room_total room os r h) ∙ e),
          kept_split room b os w,
        )

    -- there is room exactly if the messages are at most M less what is kept free for the others
    pub room_limit : fits_room room os' ≡ leb (length os') (room.m - kept_free room b os)
    room_limit =
        let split = kept_split room b os' w in
        room_total room os' r h'
        ∙ leb_same (length os' + kept_free room 0 os') room.m (length os') (room.m - kept_free room b os)
        (λ a. omega (arith, a, split, kept_same))
        (λ a. omega (arith, a, split, kept_same, lengths, fits))

    -- b within its share always has room
    pub within_share : count_of b os' ≤ share_of room b → fits_room room os' ≡ true
    within_share few =
        room_total room os' r h'
        ∙ le-leb (length os' + kept_free room 0 os') room.m (omega (arith, few, kept_split room b os' w, kept_same, lengths, fits))
