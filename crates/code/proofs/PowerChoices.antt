-- The elements are combinations of a board's rows by powers; what a table of their choices holds if it passes its test: each entry is the choice
-- that the powers make.
use mathlib.Core.Path.{◌≡◌, refl, ap, ◌∙◌}
use mathlib.Core.Bool.{Bool}
use mathlib.Core.List.{List, [], ◌∷◌}
use Prim.Native.Nat.{ℕ, zero, suc, ◌+◌, ◌*◌, ◌/◌, ◌%◌, ◌<◌}
use native.Mathlib.Nat.{add-zero, zero-add}
use native.Mathlib.Omega.{arith}
use lib.Dec.{T, eqb, eqb→eq}
use lib.ListN.{length, get_or}
use Rattle.laws.specs.Bytes.{tabulate}
use Rattle.laws.proofs.Bytes.{get_d_tabulate}
use Rattle.laws.proofs.Table.{passes, at}
use Rattle.field.specs.Field.{power, times}
use Rattle.config.specs.declared.Config.{Config}
use Rattle.code.specs.Element.{element, element_byte}
use Rattle.code.specs.EncodeAll.{with_elements}
use Rattle.code.specs.Laid.{laid}
use Rattle.code.specs.inner.Combine.{ChoicesOf, choice, choice_at, combination}
use Rattle.code.proofs.ChoiceLaws.{choice_same, choices_small}

-- x, a times x and so on, n of them
unfoldable pub powers_from : ℕ → ℕ → ℕ → List ℕ
powers_from zero a x = []
powers_from (suc n) a x = x ∷ powers_from n a (times a x)

powers_at : (n a j i : ℕ) → i < n → get_or (powers_from n a (power a j)) i 0 ≡ power a (j + i)
unfolding powers_from power
powers_at zero a j i h = absurd (omega arith)
powers_at (suc n) a j zero h = rw add-zero
powers_at (suc n) a j (suc i) h =
    let e : suc j + i ≡ j + suc i = omega arith in powers_at n a (suc j) i (omega arith) ∙ ap (power a) e

-- the first 16 powers of each of 1 to 16
unfoldable pub power_rows : List (List ℕ)
unfolding tabulate
power_rows = tabulate 16 (λ t. powers_from 16 (suc t) 1)

rows_at : (t i : ℕ) → t < 16 → i < 16 → get_or (get_or power_rows t []) i 0 ≡ power (suc t) i
unfolding power_rows power
rows_at t i h l =
    ap (λ r. get_or r i 0) (get_d_tabulate 16 (λ s. powers_from 16 (suc s) 1) t [] h)
    ∙ powers_at 16 (suc t) 0 i l ∙ ap (power (suc t)) (zero-add i)

-- x is the choice that stands at place k
abbrev pub is_choice : List (List ℕ) → ℕ → ℕ → Bool
is_choice rows k x = eqb x (choice (λ i. get_or (get_or rows (k % 16) []) i 0) (k / 64) (k / 16 % 4))

module _ (l : List ℕ) (long : length l ≡ 512) (test : T (passes (is_choice power_rows) 0 l)) where
  chosen_at : (b g t : ℕ) → b < 8 → g < 4 → t < 16 → get_or l (choice_at b g t) 0 ≡ choice (λ i. power (suc t) i) b g
  chosen_at b g t hb hg ht =
      let k = choice_at b g t in
      let et : k % 16 ≡ t = omega arith in
      let e16 : k / 16 ≡ 4 * b + g = omega arith in
      let em : (4 * b + g) % 4 ≡ g = omega arith in
      let eg : k / 16 % 4 ≡ g = ap (λ n. n % 4) e16 ∙ em in
      let eb : k / 64 ≡ b = omega arith in
      eqb→eq (get_or l k 0) _ (at (is_choice power_rows) l test k (omega arith))
      ∙ ap (λ s. choice (λ i. get_or (get_or power_rows s []) i 0) (k / 64) (k / 16 % 4)) et
      ∙ ap (λ s. choice (λ i. get_or (get_or power_rows t []) i 0) s (k / 16 % 4)) eb
      ∙ ap (choice (λ i. get_or (get_or power_rows t []) i 0) b) eg
      ∙ choice_same (λ i. get_or (get_or power_rows t []) i 0) (λ i. power (suc t) i) b g hg (λ i m. rows_at t i ht m)

  pub choices_of : ChoicesOf (λ t i. power (suc t) i) l
  choices_of = record { chosen = chosen_at; small = choices_small (λ t i. power (suc t) i) l chosen_at }

-- the elements in their places are the combinations by the powers
pub elements_combined : (cfg : Config) (board : List ℕ) (offset distance : ℕ) (before : List ℕ)
    → laid (λ t. combination cfg.k cfg.e board (power (suc t))) cfg.e offset distance cfg.n before
    ≡ with_elements cfg board offset distance before
unfolding with_elements combination element element_byte
elements_combined cfg board offset distance before = refl
