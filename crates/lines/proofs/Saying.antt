-- One event of several boards: whether it can be run and said, and what is left where it can't. Assumes nothing.
use Rattle.std.proofs.Common.{◌≡◌, ℕ, ◌+◌, ◌≤◌, Bool, true, false, ◌&&◌, leb, List, length, sym, refl, ap, ◌∙◌, true≢false, arith, leb-true}
use mathlib.Core.Bool.{false≢true}
use Rattle.laws.proofs.Bools.{and_left, and_right}
use Rattle.config.specs.declared.Config.{Config}
use Rattle.config.specs.declared.Room.{Room}
use Rattle.boards.specs.declared.Call.{Call}
use Rattle.boards.specs.declared.Rig.{Rig}
use Rattle.boards.specs.Calls.{called}
use Rattle.boards.specs.View.{Lent}
use Rattle.lines.specs.declared.several.Said.{Said}
use Rattle.lines.specs.Block.{line_room}
use Rattle.lines.specs.Event.{bytes_on_at, call_on_at, event_on_length}
use Rattle.lines.specs.Several.{Line, SaidPost, board_bytes, can_say}

-- the call of the record at a place, from its head and its board
pub called_on_there : {a : Call} {board : List ℕ} (input : List ℕ) {v w : ℕ} (at : ℕ) → v ≡ w → board ≡ bytes_on_at v at input
    → called a (bytes_on_at v at input) ≡ call_on_at v at input → called a board ≡ call_on_at w at input
called_on_there {a} {board} input at same its head = ap (called a) its ∙ head ∙ ap (λ (u : ℕ). call_on_at u at input) same

-- its bytes
pub bytes_on_there : {board : List ℕ} (input : List ℕ) {v w : ℕ} (at : ℕ) → v ≡ w → board ≡ bytes_on_at v at input → board ≡ bytes_on_at w at input
bytes_on_there input at same its = its ∙ ap (λ (u : ℕ). bytes_on_at u at input) same

-- whether a board of v bytes has a record and room for its line
abbrev test : ℕ → ℕ → List ℕ → ℕ → List ℕ → Bool
test v at input used out = leb (at + event_on_length v) (length input) && leb (used + line_room v) (length out)

module _ (v at : ℕ) (input : List ℕ) (used : ℕ) (out : List ℕ) {can : Bool} (told : can ≡ test v at input used out) where
  module _ (can-be : can ≡ true) where
    abbrev there : Bool
    there = leb (at + event_on_length v) (length input)

    abbrev fits : Bool
    fits = leb (used + line_room v) (length out)

    pub whole_there : at + event_on_length v ≤ length input
    whole_there = leb-true (at + event_on_length v) (length input) (and_left there fits (sym told ∙ can-be))

    pub room_there : used + line_room v ≤ length out
    room_there = leb-true (used + line_room v) (length out) (and_right there fits (sym told ∙ can-be))

  module _ (cfg : Config) (room : Room) (bytes : v ≡ board_bytes cfg room) where
    same : can ≡ can_say cfg room at input used out
    same = told ∙ ap (λ (u : ℕ). test u at input used out) bytes

    module _ {rig : Rig} {l : Lent} {count : ℕ} where
      -- all is as it was
      pub as_it_was : can ≡ false → SaidPost cfg room rig l count at input used out (record { rig = rig; used = used }) l out
      as_it_was e = record { said = λ h. absurd (false≢true (sym e ∙ same ∙ h)); held = λ _. (refl, refl, refl, refl) }

      -- its line is written
      pub was_said : {r : Said} {l' : Lent} {out' : List ℕ} → can ≡ true → Line cfg room rig l count at input used out r l' out'
          → SaidPost cfg room rig l count at input used out r l' out'
      was_said e line = record { said = λ _. line; held = λ h. absurd (true≢false (sym e ∙ same ∙ h)) }

-- ---- what a caller learns

module _ {cfg : Config} {room : Room} {rig : Rig} {l : Lent} {count at : ℕ} {input : List ℕ} {used : ℕ} {out : List ℕ} {r : Said} {l' : Lent} {out' : List ℕ}
    (p : SaidPost cfg room rig l count at input used out r l' out')
  where
    abbrev can : Bool
    can = can_say cfg room at input used out

    -- what is in use of the output stays within it
    pub used_within : used ≤ length out → r.used ≤ length out
    used_within h = by can refl
      where
        by : (b : Bool) → can ≡ b → r.used ≤ length out
        by true e = (p.said e).says.room
        by false e = omega (arith, (p.held e).1, h)

    -- where a line was written, a whole record was there
    pub record_there : (r.used ≡ used → ⊥) → at + event_on_length (board_bytes cfg room) ≤ length input
    record_there some = by can refl
      where
        by : (b : Bool) → can ≡ b → at + event_on_length (board_bytes cfg room) ≤ length input
        by true e = whole_there (board_bytes cfg room) at input used out refl e
        by false e = absurd (some (p.held e).1)
