-- The codes of events: 1 to 5 name a board, and no other does. Assumes nothing.
use Prim.Native.Nat.{ℕ, ◌+◌, ◌≤◌, ◌<◌}
use mathlib.Core.Path.{◌≡◌, refl, sym, ap, subst, ◌∙◌}
use mathlib.Core.Bool.{true, false}
use mathlib.Core.Option.{none}
use native.Mathlib.Omega.{arith}
use native.Mathlib.Decide.{ℕ_discrete}
use borrow.Author.Tests.{le-leb, lt-leb, ne_eqb}
use Rattle.config.specs.declared.Room.{Room}
use Rattle.config.specs.Questions.{within}
use Rattle.protocol.specs.Network.{board_exists, names_board}
use Rattle.protocol.specs.Rig.{code_of}

-- what is so of k is so of a number that is k; of a greater one it is shown apart
pub past : (P : ℕ → Type 0) (k c : ℕ) → k ≤ c → P k → (k + 1 ≤ c → P c) → P c
past P k c low here later = elim (ℕ_discrete c k) as (λ _. P c) [
  | yes e ↦ subst P (sym e) here
  | no ne ↦ later (omega (arith, low, ne))
]

pub below_codes : (c : ℕ) → c < 1 → within 1 5 c ≡ false
below_codes c h = rw (lt-leb 1 c h)

pub above_codes : (c : ℕ) → 5 < c → within 1 5 c ≡ false
above_codes c h = rw (le-leb 1 c (omega (arith, h)), lt-leb c 5 h)

-- there is no event of a code past 8
pub no_code : (c : ℕ) → 8 < c → code_of c ≡ none
unfolding code_of
no_code c h =
    rw (
      ne_eqb c 1 (λ e. omega (arith, h, e)),
      ne_eqb c 2 (λ e. omega (arith, h, e)),
      ne_eqb c 3 (λ e. omega (arith, h, e)),
      ne_eqb c 4 (λ e. omega (arith, h, e)),
      ne_eqb c 5 (λ e. omega (arith, h, e)),
      ne_eqb c 6 (λ e. omega (arith, h, e)),
      ne_eqb c 7 (λ e. omega (arith, h, e)),
      ne_eqb c 8 (λ e. omega (arith, h, e)),
    )

pub names_code : (c : ℕ) → names_board (code_of c) ≡ within 1 5 c
unfolding code_of names_board
names_code c =
    past P 0 c (omega arith) refl (λ h. past P 1 c h refl (λ h. past P 2 c h refl (λ h. past P 3 c h refl (λ h. past P 4 c h refl (λ h.
    past P 5 c h refl (λ h. past P 6 c h refl (λ h. past P 7 c h refl (λ h. past P 8 c h refl (λ h.
    ap names_board (no_code c (omega (arith, h))) ∙ sym (above_codes c (omega (arith, h))))))))))))
  where
    P : ℕ → Type 0
    P k = names_board (code_of k) ≡ within 1 5 k

-- whether the board that is named exists
module _ (room : Room) (b c : ℕ) where
  pub names_none : within 1 5 c ≡ false → board_exists room b (code_of c) ≡ true
  unfolding board_exists
  names_none h = rw (names_code c ∙ h)

  pub names_one : within 1 5 c ≡ true → board_exists room b (code_of c) ≡ within 1 room.boards b
  unfolding board_exists
  names_one h = rw (names_code c ∙ h)
