-- Bytes with zeros after so many of them, and the boards made of them. Assumes nothing.
use Prim.Native.Nat.{ℕ, zero, suc, ◌-◌, ◌≤◌, ◌<◌}
use mathlib.Core.Path.{◌≡◌, refl, sym, ap, ap₂, ◌∙◌}
use mathlib.Core.Bool.{true}
use mathlib.Core.Option.{Option, some}
use mathlib.Core.List.{List, [], ◌∷◌, ◌++◌, append-nil}
use native.Mathlib.Omega.{arith}
use borrow.Author.Tests.{leb-true}
use lib.ListN.{length, get_or, take, set, replicate, length-append, length-replicate, length-take, length-set}
use lib.Seq.{take_all}
use Rattle.laws.specs.Bytes.{Bytes}
use Rattle.config.specs.declared.Config.{Config}
use Rattle.config.specs.Config.{board_length}
use Rattle.protocol.specs.Rig as rig
use Rattle.protocol.specs.Rig.{Code, begin_write}
use Rattle.protocol.specs.Boards.{Board, BoardCall, Filled, IsBoard, board_of, cut, starting_board, write_fits}

pub length_cut : (n : ℕ) (bs : List ℕ) → length (cut n bs) ≡ length bs
unfolding cut
length_cut n bs =
    length-append (take n bs) (replicate (length bs - n) 0)
    ∙ omega (arith, length-take n bs, length-replicate {A = ℕ} (length bs - n) 0)

-- all of them
pub cut_all : (n : ℕ) (bs : List ℕ) → length bs ≤ n → cut n bs ≡ bs
unfolding cut
cut_all n bs h =
    let none : length bs - n ≡ 0 = omega arith in
    rw (none, take_all n bs h) (append-nil bs)

-- byte by byte
pub cut_next : (n b : ℕ) (bs : List ℕ) → cut (suc n) (b ∷ bs) ≡ b ∷ cut n bs
unfolding cut
cut_next n b bs =
    let less : length (b ∷ bs) - suc n ≡ length bs - n = omega arith in
    ap (λ (m : ℕ). take (suc n) (b ∷ bs) ++ replicate m 0) less

pub cut_none : (bs : List ℕ) → cut 0 bs ≡ replicate (length bs) 0
unfolding cut
cut_none bs =
    let whole : length bs - 0 ≡ length bs = omega arith in
    ap (λ (m : ℕ). replicate m 0) whole

-- a second time nothing changes
pub cut_again : (n : ℕ) (bs : List ℕ) → cut n (cut n bs) ≡ cut n bs
cut_again zero bs = cut_none (cut 0 bs) ∙ ap (λ (m : ℕ). replicate m 0) (length_cut 0 bs) ∙ sym (cut_none bs)
cut_again (suc n) [] = cut_all (suc n) (cut (suc n) []) (omega (arith, length_cut (suc n) []))
cut_again (suc n) (b ∷ bs) = rw (cut_next n b bs, cut_next n b (cut n bs), cut_again n bs)

replicate_zero : (n i : ℕ) → ◌≡◌ {A = ℕ} (get_or (replicate n 0) i 0) 0
replicate_zero zero i = refl
replicate_zero (suc n) zero = refl
replicate_zero (suc n) (suc i) = replicate_zero n i

-- past the length they are 0, and before it what they were
pub cut_past : (n : ℕ) (bs : List ℕ) (i : ℕ) → n ≤ i → get_or (cut n bs) i 0 ≡ 0
cut_past zero bs i h = ap (λ (l : List ℕ). get_or l i 0) (cut_none bs) ∙ replicate_zero (length bs) i
cut_past (suc n) [] i h = ap (λ (l : List ℕ). get_or l i 0) (cut_all (suc n) [] (omega arith))
cut_past (suc n) (b ∷ bs) zero h = absurd (omega arith)
cut_past (suc n) (b ∷ bs) (suc i) h = ap (λ (l : List ℕ). get_or l (suc i) 0) (cut_next n b bs) ∙ cut_past n bs i (omega arith)

pub cut_bytes : (n : ℕ) (bs : List ℕ) → Bytes bs → Bytes (cut n bs)
cut_bytes zero bs h i = rw (cut_past 0 bs i (omega arith)) (omega arith)
cut_bytes (suc n) [] h i = rw (cut_all (suc n) [] (omega arith)) (h i)
cut_bytes (suc n) (b ∷ bs) h zero = rw (cut_next n b bs) (h 0)
cut_bytes (suc n) (b ∷ bs) h (suc i) = rw (cut_next n b bs) (cut_bytes n bs (λ j. h (suc j)) i)

-- what is past the length does not count
pub cut_set : (n : ℕ) (bs : List ℕ) (i b : ℕ) → n ≤ i → cut n (set bs i b) ≡ cut n bs
cut_set zero bs i b h = cut_none (set bs i b) ∙ ap (λ (m : ℕ). replicate m 0) (length-set bs i b) ∙ sym (cut_none bs)
cut_set (suc n) [] i b h = refl
cut_set (suc n) (x ∷ bs) zero b h = absurd (omega arith)
cut_set (suc n) (x ∷ bs) (suc i) b h =
    cut_next n x (set bs i b) ∙ ap (λ (l : List ℕ). x ∷ l) (cut_set n bs i b (omega arith)) ∙ sym (cut_next n x bs)

-- where all past the length is zero, nothing is cut
pub cut_is : (n : ℕ) (bs : List ℕ) → ((j : ℕ) → n ≤ j → j < length bs → ◌≡◌ {A = ℕ} (get_or bs j 0) 0) → cut n bs ≡ bs
cut_is n [] h = cut_all n [] (omega arith)
cut_is zero (b ∷ bs) h =
    cut_none (b ∷ bs)
    ∙ ap₂ {A = ℕ} (λ (x : ℕ) (l : List ℕ). x ∷ l) (sym (h 0 (omega arith) (omega arith)))
    (sym (cut_none bs) ∙ cut_is zero bs (λ j lo hi. h (suc j) (omega arith) (omega (arith, hi))))
cut_is (suc n) (b ∷ bs) h =
    cut_next n b bs ∙ ap (λ (l : List ℕ). b ∷ l) (cut_is n bs (λ j lo hi. h (suc j) (omega (arith, lo)) (omega (arith, hi))))

-- of every length and all bytes: bytes, zeros past the length
pub filled : (n : ℕ) (bs : List ℕ) → Bytes bs → Filled (board_of n bs)
filled n bs h = record { bytes = cut_bytes n bs h; zeros = cut_again n bs }

-- and a board with zeros past its length is that of its length and its bytes
pub filled_is : (v : Board) → Filled v → board_of v.length v.bytes ≡ v
filled_is v f = λ i. record { length = v.length; bytes = f.zeros i }

-- ---- boards of a configuration

-- a starting board of V bytes is one
pub start_board : (cfg : Config) (bs : List ℕ) → Bytes bs → length bs ≡ board_length cfg → IsBoard cfg (starting_board cfg bs)
start_board cfg bs bytes whole =
    record { whole = whole; fits = omega arith; filled = record { bytes = bytes; zeros = cut_all (board_length cfg) bs (omega (arith, whole)) } }

-- and the board of a write that no question refuses: "19, is the write's length at most V"
pub write_board : (cfg : Config) (a : BoardCall) (w : Option Code) → write_fits cfg a w ≡ true → length a.board.bytes ≡ board_length cfg → Filled a.board
    → w ≡ some begin_write → IsBoard cfg a.board
unfolding rig.write_fits
write_board cfg a w fits whole filled is =
    record { whole = whole; fits = leb-true a.board.length (board_length cfg) (sym (ap (write_fits cfg a) is) ∙ fits); filled = filled }
