-- The teeth of the single board with lengths: "A read must return the length of the nearest write and that many of its bytes, zeros
-- after, and the starting board has length V". V is 1 here, and the starting board is one byte, 0. Each byte below is 0 too: a length is all
-- that tells these boards apart.
use Prim.Native.Nat.{ℕ, zero, suc}
use mathlib.Core.Path.{◌≡◌, refl, ap, ◌∙◌}
use mathlib.Core.Logic.{◌⊎◌, inl, inr}
use mathlib.Core.List.{List, [], ◌∷◌, Memᴰ}
use native.Mathlib.Omega.{arith}
use Rattle.tag.specs.declared.Tag.{Tag}
use Rattle.protocol.specs.Board.{nothing_ended, written_by, read_by, history, after, Shown, MustStand, StandsFirst, Fits}
use Rattle.protocol.specs.Boards.{Board, BoardAnswer, BoardAtomic, BoardEvent, starting_board}
use Rattle.protocol.proofs.Evaluate.{computed}
use Rattle.protocol.proofs.Example.{config}
use Rattle.protocol.proofs.Refute.{held, carried, fits_one, fits_two}

abbrev tag : ℕ → ℕ → Tag
tag z c = record { number = z; client = c }

-- the byte 0, with a length
abbrev zero_of : ℕ → Board
zero_of n = record { length = n; bytes = 0 ∷ [] }

abbrev start : Board
start = starting_board config (0 ∷ [])

abbrev event : ℕ → ℕ → Board → BoardAnswer → BoardEvent
event code party board answer = record { call = record { code = code; party = party; position = 0; board = board }; answer = answer }

-- client 1 writes with this length, and then client 2 reads with that
abbrev wrote_and_read : ℕ → ℕ → List BoardEvent
wrote_and_read n m =
    event 1 1 (zero_of n) nothing_ended ∷
    event 3 0 start (written_by 1 (tag 1 1)) ∷
    event 2 2 start nothing_ended ∷ event 3 0 start (read_by 2 (tag 1 1) (zero_of m)) ∷ []

-- client 2 reads with this length, and nothing is written
abbrev read_only : ℕ → List BoardEvent
read_only n = event 2 2 start nothing_ended ∷ event 3 0 start (read_by 2 (tag 0 0) (zero_of n)) ∷ []

-- no order fits the history of these events
abbrev pub NoOrder : List BoardEvent → Type 0
NoOrder events = (order : List ℕ) → Fits (history events) start order → ⊥

-- and then the single board does not give them
pub not_atomic : (events : List BoardEvent) → NoOrder events → BoardAtomic config start events → ⊥
not_atomic events none a = none a.order a.fits

-- some order does
abbrev pub SomeOrder : List BoardEvent → Type 0
SomeOrder events = (order : List ℕ) × Fits (history events) start order

-- A write of length n, and then a read of another length.
other_length : (n m : ℕ) → (m ≡ n → ⊥) → NoOrder (wrote_and_read n m)
unfolding computed
other_length n m other order fits =
    let first = fits.in_time 0 2 (fits.ended 0 tt) (fits.ended 2 tt) (omega arith) in
    let z = carried (history (wrote_and_read n m)) (λ (s : Board). s.length ≡ n) order start 0 2 (λ s h. refl) kept first fits.shown in
    other (ap (λ (s : Board). s.length) z.2 ∙ z.1)
  where
    kept : (p : ℕ) → StandsFirst 0 p order → (s : Board) → s.length ≡ n → (after (history (wrote_and_read n m) p) s).length ≡ n
    kept zero h s e = refl
    kept (suc zero) h s e = e
    kept (suc (suc zero)) h s e = e
    kept (suc (suc (suc zero))) h s e = e
    kept (suc (suc (suc (suc p)))) h s e = e

-- a write of byte 0 with length 1, and then a read of length 0
pub shortened_has_none : NoOrder (wrote_and_read 1 0)
shortened_has_none = other_length 1 0 (λ e. omega (arith, e))

-- a write of length 0, and then a read of byte 0 with length 1
pub lengthened_has_none : NoOrder (wrote_and_read 0 1)
lengthened_has_none = other_length 0 1 (λ e. omega (arith, e))

-- the starting board has length V, and a read of length 0 does not show it
pub unwritten_has_none : NoOrder (read_only 0)
unfolding computed
unwritten_has_none order fits =
    let z = held (history (read_only 0)) (λ (s : Board). s.length ≡ 1) order start refl kept fits.shown 0 (fits.ended 0 tt) in
    let e : ◌≡◌ {A = ℕ} 0 z.0.length = ap (λ (s : Board). s.length) z.2 in
    omega (arith, z.1, e)
  where
    kept : (p : ℕ) → Memᴰ p order → (s : Board) → s.length ≡ 1 → (after (history (read_only 0) p) s).length ≡ 1
    kept zero h s e = e
    kept (suc zero) h s e = e
    kept (suc (suc p)) h s e = e

-- A write, and then a read of its length.
same_length : (n : ℕ) → SomeOrder (wrote_and_read n n)
unfolding computed Shown
same_length n =
    (0 ∷ 2 ∷ [], fits_two (history (wrote_and_read n n)) start 0 2 (λ e. omega arith) all tt tt (λ e. omega arith) (λ e. omega arith) (λ e. omega arith) (tt, (refl, tt)))
  where
    all : (p : ℕ) → MustStand (history (wrote_and_read n n) p) → (p ≡ 0) ⊎ (p ≡ 2)
    all zero m = inl refl
    all (suc zero) m = absurd m
    all (suc (suc zero)) m = inr refl
    all (suc (suc (suc zero))) m = absurd m
    all (suc (suc (suc (suc p)))) m = absurd m

-- of length 0, and of length 1
pub empty_has_one : SomeOrder (wrote_and_read 0 0)
empty_has_one = same_length 0

pub full_has_one : SomeOrder (wrote_and_read 1 1)
full_has_one = same_length 1

-- and the starting board, where nothing is written
pub unwritten_has_one : SomeOrder (read_only 1)
unfolding computed Shown
unwritten_has_one = (0 ∷ [], fits_one (history (read_only 1)) start 0 all tt (λ e. omega arith) (refl, tt))
  where
    all : (p : ℕ) → MustStand (history (read_only 1) p) → p ≡ 0
    all zero m = refl
    all (suc zero) m = absurd m
    all (suc (suc p)) m = absurd m
