-- The teeth of the definition: histories that no order fits, and histories that one fits. Boards are numbers here, the starting board is 0.
use Prim.Native.Nat.{ℕ, zero, suc, ◌<◌}
use mathlib.Core.Path.{◌≡◌, refl, sym}
use mathlib.Core.Logic.{◌⊎◌, inl, inr}
use mathlib.Core.List.{List, [], ◌∷◌, Memᴰ}
use native.Mathlib.Omega.{arith}
use Rattle.tag.specs.declared.Tag.{Tag}
use Rattle.protocol.specs.Board.{Answer, Event, refused, nothing_ended, written_by, spent_by, read_by, history, after, Shown, MustStand, StandsFirst, Fits}
use Rattle.protocol.proofs.Evaluate.{computed}
use Rattle.protocol.proofs.Refute.{first_one, held, carried, fits_one, fits_two}

abbrev tag : ℕ → ℕ → Tag
tag z c = record { number = z; client = c }

abbrev event : ℕ → ℕ → ℕ → Answer ℕ → Event ℕ
event code party board answer = record { call = record { code = code; party = party; position = 0; board = board }; answer = answer }

-- client c begins to write v; client c begins to read; a message is handed over, with this answer
abbrev begins_write : ℕ → ℕ → Event ℕ
begins_write c v = event 1 c v nothing_ended

abbrev begins_read : ℕ → Event ℕ
begins_read c = event 2 c 0 nothing_ended

abbrev hands_over : Answer ℕ → Event ℕ
hands_over answer = event 3 0 0 answer

-- no order fits the history of these events
abbrev pub NoOrder : List (Event ℕ) → Type 0
NoOrder events = (order : List ℕ) → Fits (history events) 0 order → ⊥

-- some order does
abbrev pub SomeOrder : List (Event ℕ) → Type 0
SomeOrder events = (order : List ℕ) × Fits (history events) 0 order

-- A stale read: 5 is written, and then 0 is read.
abbrev pub stale : List (Event ℕ)
stale =
    begins_write 1 5 ∷ hands_over (written_by 1 (tag 1 1)) ∷ begins_read 2 ∷ hands_over (read_by 2 (tag 0 0) 0) ∷ []

pub stale_has_none : NoOrder stale
unfolding computed
stale_has_none order fits =
    let first = fits.in_time 0 2 (fits.ended 0 tt) (fits.ended 2 tt) (omega arith) in
    let z = carried (history stale) (λ (s : ℕ). s ≡ 5) order 0 0 2 (λ s h. refl) kept first fits.shown in
    omega (arith, z.1, z.2)
  where
    kept : (p : ℕ) → StandsFirst 0 p order → (s : ℕ) → s ≡ 5 → after (history stale p) s ≡ 5
    kept zero h s e = refl
    kept (suc zero) h s e = e
    kept (suc (suc zero)) h s e = e
    kept (suc (suc (suc zero))) h s e = e
    kept (suc (suc (suc (suc p)))) h s e = e

-- A reader that always shows the starting board, though 5 is written, and then 6.
abbrev pub stuck : List (Event ℕ)
stuck =
    begins_write 1 5 ∷
    hands_over (written_by 1 (tag 1 1)) ∷
    begins_read 2 ∷
    hands_over (read_by 2 (tag 0 0) 0) ∷
    begins_write 1 6 ∷ hands_over (written_by 1 (tag 2 1)) ∷ begins_read 2 ∷ hands_over (read_by 2 (tag 0 0) 0) ∷ []

pub stuck_has_none : NoOrder stuck
unfolding computed
stuck_has_none order fits =
    let first = fits.in_time 4 6 (fits.ended 4 tt) (fits.ended 6 tt) (omega arith) in
    let z = carried (history stuck) (λ (s : ℕ). 0 < s) order 0 4 6 (λ s h. omega arith) kept first fits.shown in
    omega (arith, z.1, z.2)
  where
    kept : (p : ℕ) → StandsFirst 4 p order → (s : ℕ) → 0 < s → 0 < after (history stuck p) s
    kept zero h s e = omega arith
    kept (suc zero) h s e = e
    kept (suc (suc zero)) h s e = e
    kept (suc (suc (suc zero))) h s e = e
    kept (suc (suc (suc (suc zero)))) h s e = omega arith
    kept (suc (suc (suc (suc (suc zero))))) h s e = e
    kept (suc (suc (suc (suc (suc (suc zero)))))) h s e = e
    kept (suc (suc (suc (suc (suc (suc (suc zero))))))) h s e = e
    kept (suc (suc (suc (suc (suc (suc (suc (suc p)))))))) h s e = e

-- A read that works once and then repeats itself: 5 is written and read, 6 is written, and then 5 is read again.
abbrev pub repeating : List (Event ℕ)
repeating =
    begins_write 1 5 ∷
    hands_over (written_by 1 (tag 1 1)) ∷
    begins_read 2 ∷
    hands_over (read_by 2 (tag 1 1) 5) ∷
    begins_write 1 6 ∷ hands_over (written_by 1 (tag 2 1)) ∷ begins_read 2 ∷ hands_over (read_by 2 (tag 1 1) 5) ∷ []

pub repeating_has_none : NoOrder repeating
unfolding computed
repeating_has_none order fits =
    let first = fits.in_time 4 6 (fits.ended 4 tt) (fits.ended 6 tt) (omega arith) in
    let z = carried (history repeating) (λ (s : ℕ). s ≡ 6) order 0 4 6 (λ s h. refl) kept first fits.shown in
    omega (arith, z.1, z.2)
  where
    kept : (p : ℕ) → StandsFirst 4 p order → (s : ℕ) → s ≡ 6 → after (history repeating p) s ≡ 6
    kept zero h s e = absurd (first_one 4 0 order fits.once h (fits.in_time 0 4 (fits.ended 0 tt) (fits.ended 4 tt) (omega arith)))
    kept (suc zero) h s e = e
    kept (suc (suc zero)) h s e = e
    kept (suc (suc (suc zero))) h s e = e
    kept (suc (suc (suc (suc zero)))) h s e = refl
    kept (suc (suc (suc (suc (suc zero))))) h s e = e
    kept (suc (suc (suc (suc (suc (suc zero)))))) h s e = e
    kept (suc (suc (suc (suc (suc (suc (suc zero))))))) h s e = e
    kept (suc (suc (suc (suc (suc (suc (suc (suc p)))))))) h s e = e

-- Two reads in the wrong order: 5 is being written, a read shows it, and a later one shows 0.
abbrev pub backwards : List (Event ℕ)
backwards =
    begins_write 1 5 ∷
    begins_read 2 ∷ hands_over (read_by 2 (tag 1 1) 5) ∷ begins_read 2 ∷ hands_over (read_by 2 (tag 0 0) 0) ∷ []

pub backwards_has_none : NoOrder backwards
unfolding computed
backwards_has_none order fits =
    let first = fits.in_time 1 3 (fits.ended 1 tt) (fits.ended 3 tt) (omega arith) in
    let z = carried (history backwards) (λ (s : ℕ). s ≡ 5) order 0 1 3 (λ s h. sym h) kept first fits.shown in
    omega (arith, z.1, z.2)
  where
    kept : (p : ℕ) → StandsFirst 1 p order → (s : ℕ) → s ≡ 5 → after (history backwards p) s ≡ 5
    kept zero h s e = refl
    kept (suc zero) h s e = e
    kept (suc (suc zero)) h s e = e
    kept (suc (suc (suc zero))) h s e = e
    kept (suc (suc (suc (suc zero)))) h s e = e
    kept (suc (suc (suc (suc (suc p))))) h s e = e

-- A read that shows the bytes of a spent write: 5 is not written, and is read.
abbrev pub spent_shown : List (Event ℕ)
spent_shown =
    begins_write 1 5 ∷ hands_over (spent_by 1) ∷ begins_read 2 ∷ hands_over (read_by 2 (tag 1 1) 5) ∷ []

pub spent_shown_has_none : NoOrder spent_shown
unfolding computed
spent_shown_has_none order fits =
    let z = held (history spent_shown) (λ (s : ℕ). s ≡ 0) order 0 refl kept fits.shown 2 (fits.ended 2 tt) in
    omega (arith, z.1, z.2)
  where
    kept : (p : ℕ) → Memᴰ p order → (s : ℕ) → s ≡ 0 → after (history spent_shown p) s ≡ 0
    kept zero h s e = e
    kept (suc zero) h s e = e
    kept (suc (suc zero)) h s e = e
    kept (suc (suc (suc zero))) h s e = e
    kept (suc (suc (suc (suc p)))) h s e = e

-- A read that shows the bytes of a refused write: 7 is not begun, and is read.
abbrev pub refused_shown : List (Event ℕ)
refused_shown = event 1 1 7 (refused 10) ∷ begins_read 2 ∷ hands_over (read_by 2 (tag 1 1) 7) ∷ []

pub refused_shown_has_none : NoOrder refused_shown
unfolding computed
refused_shown_has_none order fits =
    let z = held (history refused_shown) (λ (s : ℕ). s ≡ 0) order 0 refl kept fits.shown 1 (fits.ended 1 tt) in
    omega (arith, z.1, z.2)
  where
    kept : (p : ℕ) → Memᴰ p order → (s : ℕ) → s ≡ 0 → after (history refused_shown p) s ≡ 0
    kept zero h s e = e
    kept (suc zero) h s e = e
    kept (suc (suc zero)) h s e = e
    kept (suc (suc (suc p))) h s e = e

-- A write that ends as a read, of the very bytes that it writes.
abbrev pub write_as_read : List (Event ℕ)
write_as_read = begins_write 1 5 ∷ hands_over (read_by 1 (tag 1 1) 5) ∷ []

pub write_as_read_has_none : NoOrder write_as_read
unfolding computed
write_as_read_has_none order fits = fits.nothing_else 0 (fits.ended 0 tt)

-- A read that ends as a write.
abbrev pub read_as_write : List (Event ℕ)
read_as_write = begins_read 1 ∷ hands_over (written_by 1 (tag 1 1)) ∷ []

pub read_as_write_has_none : NoOrder read_as_write
unfolding computed
read_as_write_has_none order fits = fits.nothing_else 0 (fits.ended 0 tt)

-- A write, and then a read of what was written.
abbrev pub plain : List (Event ℕ)
plain =
    begins_write 1 5 ∷ hands_over (written_by 1 (tag 1 1)) ∷ begins_read 2 ∷ hands_over (read_by 2 (tag 1 1) 5) ∷ []

pub plain_has_one : SomeOrder plain
unfolding computed Shown
plain_has_one =
    (0 ∷ 2 ∷ [], fits_two (history plain) 0 0 2 (λ e. omega arith) all tt tt (λ e. omega arith) (λ e. omega arith) (λ e. omega arith) (tt, (refl, tt)))
  where
    all : (p : ℕ) → MustStand (history plain p) → (p ≡ 0) ⊎ (p ≡ 2)
    all zero m = inl refl
    all (suc zero) m = absurd m
    all (suc (suc zero)) m = inr refl
    all (suc (suc (suc zero))) m = absurd m
    all (suc (suc (suc (suc p)))) m = absurd m

-- An unended write that a read saw: it stands in the order, before the read.
abbrev pub seen : List (Event ℕ)
seen = begins_write 1 5 ∷ begins_read 2 ∷ hands_over (read_by 2 (tag 1 1) 5) ∷ []

pub seen_has_one : SomeOrder seen
unfolding computed Shown
seen_has_one =
    (0 ∷ 1 ∷ [], fits_two (history seen) 0 0 1 (λ e. omega arith) all tt tt (λ e. e) (λ e. omega arith) (λ e. omega arith) (tt, (refl, tt)))
  where
    all : (p : ℕ) → MustStand (history seen p) → (p ≡ 0) ⊎ (p ≡ 1)
    all zero m = absurd m
    all (suc zero) m = inr refl
    all (suc (suc zero)) m = absurd m
    all (suc (suc (suc p))) m = absurd m

-- An unended write that no read saw: it is left out.
abbrev pub unseen : List (Event ℕ)
unseen = begins_write 1 5 ∷ begins_read 2 ∷ hands_over (read_by 2 (tag 0 0) 0) ∷ []

pub unseen_has_one : SomeOrder unseen
unfolding computed Shown
unseen_has_one = (1 ∷ [], fits_one (history unseen) 0 1 all tt (λ e. omega arith) (refl, tt))
  where
    all : (p : ℕ) → MustStand (history unseen p) → p ≡ 1
    all zero m = absurd m
    all (suc zero) m = refl
    all (suc (suc zero)) m = absurd m
    all (suc (suc (suc p))) m = absurd m

-- A read that began before the write ended may show the old board: it stands before the write.
abbrev pub overlapping : List (Event ℕ)
overlapping =
    begins_write 1 5 ∷ begins_read 2 ∷ hands_over (written_by 1 (tag 1 1)) ∷ hands_over (read_by 2 (tag 0 0) 0) ∷ []

pub overlapping_has_one : SomeOrder overlapping
unfolding computed Shown
overlapping_has_one =
    (1 ∷ 0 ∷ [], fits_two (history overlapping) 0 1 0 (λ e. omega arith) all tt tt (λ e. omega arith) (λ e. omega arith) (λ e. omega arith) (refl, (tt, tt)))
  where
    all : (p : ℕ) → MustStand (history overlapping p) → (p ≡ 1) ⊎ (p ≡ 0)
    all zero m = inr refl
    all (suc zero) m = inl refl
    all (suc (suc zero)) m = absurd m
    all (suc (suc (suc zero))) m = absurd m
    all (suc (suc (suc (suc p)))) m = absurd m

-- A refused write begins nothing, and a spent one is left out.
abbrev pub without_writes : List (Event ℕ)
without_writes =
    event 1 1 7 (refused 10) ∷
    begins_write 1 5 ∷ hands_over (spent_by 1) ∷ begins_read 2 ∷ hands_over (read_by 2 (tag 0 0) 0) ∷ []

pub without_writes_has_one : SomeOrder without_writes
unfolding computed Shown
without_writes_has_one = (3 ∷ [], fits_one (history without_writes) 0 3 all tt (λ e. omega arith) (refl, tt))
  where
    all : (p : ℕ) → MustStand (history without_writes p) → p ≡ 3
    all zero m = absurd m
    all (suc zero) m = absurd m
    all (suc (suc zero)) m = absurd m
    all (suc (suc (suc zero))) m = refl
    all (suc (suc (suc (suc zero)))) m = absurd m
    all (suc (suc (suc (suc (suc p))))) m = absurd m
