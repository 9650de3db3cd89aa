-- Unpacking what was packed gives a server's state back. Assumes nothing.
use mathlib.Core.Path.{◌≡◌, refl, ◌∙◌, ap₂}
use mathlib.Core.Bool.{Bool, true, false, cond}
use mathlib.Core.List.{List, ◌++◌}
use Prim.Native.Nat.{ℕ, ◌+◌, ◌*◌, ◌≤◌, ◌<◌}
use native.Mathlib.Omega.{arith}
use lib.Dec.{eqb, leb}
use lib.ListN.{get_or}
use Rattle.tag.specs.declared.Tag.{Tag}
use Rattle.laws.specs.Bytes.{joined, tabulate}
use Rattle.laws.proofs.Bytes.{tabulate_cong}
use Rattle.tag.specs.Tag.{start}
use Rattle.record.specs.Record.{four_bytes, highest_number, little_endian, little_two, two_bytes}
use Rattle.record.proofs.Laws.{four_number}
use Rattle.std.proofs.Common.{Option, None, Some}
use Rattle.server.specs.declared.State.{State}
use Rattle.server.specs.View.{stored_length, tag_at}
use Rattle.states.specs.Bytes.{empty_row, length_from, tag_from, tag_row}
use Rattle.states.specs.Servers.{floor_flag, floor_row, head_row, packed, state_of, stored_at, stored_row, tidy}
use Rattle.states.proofs.Bytes.{length_back, tag_back}
use Rattle.states.proofs.Rows.{part_byte}
use Rattle.states.proofs.servers.Packed.{first, first_long, stored_wide}

-- a floor's tag has a number of four bytes
abbrev pub FloorFits : Option Tag → Type 0
FloorFits None = Unit
FloorFits (Some t) = t.number ≤ highest_number

-- what a state that the code holds is: the numbers of its tags have four bytes, and its lengths two
pub record Fitting (s : State) : Type 0 where
  pub highest : s.highest.number ≤ highest_number
  pub floor : FloorFits s.floor
  pub tags : (i : ℕ) → (tag_at s.tags i).number ≤ highest_number
  pub lengths : (i : ℕ) → stored_length s.lengths i < 65536

floor_back : (f : Option Tag) (rest : List ℕ) → FloorFits f → cond (eqb (floor_flag f) 1) (Some (tag_from (floor_row f ++ rest) 0)) None ≡ f
unfolding floor_row tag_row four_bytes two_bytes
floor_back None rest h = refl
floor_back (Some t) rest h = λ i. Some (record { number = four_number t.number h i; client = t.client })

module _ (s : State) (fits : Fitting s) where
  -- a stored tag's row gives the tag and its length, if it is in use
  row_tag : (i : ℕ) → tag_from (stored_row s i) 0 ≡ cond (leb s.count i) start (tag_at s.tags i)
  unfolding stored_row
  row_tag i = go (leb s.count i)
    where
      go : (b : Bool) → tag_from (cond b empty_row (tag_row (tag_at s.tags i) (stored_length s.lengths i))) 0 ≡ cond b start (tag_at s.tags i)
      go true = refl
      go false = tag_back (tag_at s.tags i) (stored_length s.lengths i) (fits.tags i)

  row_length : (i : ℕ) → length_from (stored_row s i) 5 ≡ cond (leb s.count i) 0 (stored_length s.lengths i)
  unfolding stored_row
  row_length i = go (leb s.count i)
    where
      go : (b : Bool) → length_from (cond b empty_row (tag_row (tag_at s.tags i) (stored_length s.lengths i))) 5 ≡ cond b 0 (stored_length s.lengths i)
      go true = refl
      go false = length_back (tag_at s.tags i) (stored_length s.lengths i) (fits.lengths i)

  -- byte j of the row of the stored tag at place i
  byte : (i j at : ℕ) → i < 8 → j < 8 → at ≡ 24 + (i * 8 + j) → get_or (packed s) at 0 ≡ get_or (stored_row s i) j 0
  unfolding packed head_row tag_row four_bytes two_bytes
  byte = part_byte 8 8 (stored_row s) (stored_wide s) (first s) 24 (first_long s)

  stored_tag : (i : ℕ) → i < 8 → tag_from (packed s) (stored_at i) ≡ tag_from (stored_row s i) 0
  stored_tag i h = λ t.
      record {
        number =
            little_endian (byte i 0 (stored_at i) h (omega arith) (omega arith) t) (byte i 1 (stored_at i + 1) h (omega arith) (omega arith) t)
            (byte i 2 (stored_at i + 2) h (omega arith) (omega arith) t) (byte i 3 (stored_at i + 3) h (omega arith) (omega arith) t);
        client = byte i 4 (stored_at i + 4) h (omega arith) (omega arith) t;
      }

  stored-length : (i : ℕ) → i < 8 → length_from (packed s) (stored_at i + 5) ≡ length_from (stored_row s i) 5
  stored-length i h = ap₂ (λ (a b : ℕ). little_two a b) (byte i 5 (stored_at i + 5) h (omega arith) (omega arith)) (byte i 6 (stored_at i + 5 + 1) h (omega arith) (omega arith))

  highest_back : tag_from (packed s) 8 ≡ s.highest
  unfolding packed head_row tag_row four_bytes two_bytes
  highest_back = λ i. record { number = four_number s.highest.number fits.highest i; client = s.highest.client }

  tags_back : tabulate 8 (λ i. tag_from (packed s) (stored_at i)) ≡ tabulate 8 (λ i. cond (leb s.count i) start (tag_at s.tags i))
  tags_back = tabulate_cong 8 _ _ (λ i h. stored_tag i h ∙ row_tag i)

  lengths_back : tabulate 8 (λ i. length_from (packed s) (stored_at i + 5)) ≡ tabulate 8 (λ i. cond (leb s.count i) 0 (stored_length s.lengths i))
  lengths_back = tabulate_cong 8 _ _ (λ i h. stored-length i h ∙ row_length i)

  pub back : state_of (packed s) ≡ tidy s
  unfolding state_of tidy packed head_row tag_row four_bytes two_bytes
  back =
      let floor : cond (eqb (get_or (packed s) 2 0) 1) (Some (tag_from (packed s) 16)) None ≡ s.floor = floor_back s.floor (joined (tabulate 8 (stored_row s))) fits.floor in
      λ i. record { me = s.me; count = s.count; highest = highest_back i; floor = floor i; tags = tags_back i; lengths = lengths_back i }
