-- Each byte other than 0 is 1 doubled fewer than 255 times, and 1 doubled 255 times is 1 again. The first is one test that
-- antt computes: of the 255 bytes that doubling goes through from 1, each of 1 to 255 is one. Assumes nothing.
use mathlib.Core.Path.{◌≡◌, refl, sym, ap, ◌∙◌}
use mathlib.Core.List.{List, [], ◌∷◌}
use Prim.Native.Nat.{ℕ, zero, suc, ◌<◌}
use native.Mathlib.Nat.{le_of_suc-le-suc, not-suc-le-zero}
use lib.Dec.{T}
use lib.ListN.{length, get_or}
use Rattle.laws.proofs.Table.{has_all, has_of_all, place}
use Rattle.field.specs.Field.{double, doubled}
use Rattle.field.proofs.Linear.{doubled_comm}

-- x, x doubled and so on, n of them
unfoldable pub doublings : ℕ → ℕ → List ℕ
doublings zero x = []
doublings (suc n) x = x ∷ doublings n (double x)

length_doublings : (n x : ℕ) → length (doublings n x) ≡ n
unfolding doublings
length_doublings zero x = refl
length_doublings (suc n) x = ap suc (length_doublings n (double x))

pub doublings_at : (n x i : ℕ) → i < n → get_or (doublings n x) i 0 ≡ doubled i x
unfolding doublings doubled
doublings_at zero x i h = absurd (not-suc-le-zero h)
doublings_at (suc n) x zero h = refl
doublings_at (suc n) x (suc i) h = doublings_at n (double x) i (le_of_suc-le-suc h) ∙ doubled_comm i 1 x

all_bytes : T (has_all 255 (doublings 255 1))
unfolding doublings double
all_bytes = tt

pub generated : (a : ℕ) → a < 256 → (a ≡ 0 → ⊥) → (i : ℕ) × (i < 255) × (doubled i 1 ≡ a)
generated a h k =
    let p = place a (doublings 255 1) (has_of_all 255 (doublings 255 1) all_bytes a (le_of_suc-le-suc h) k) in
    let small = rw length_doublings at p.1 in
    (p.0, small, sym (doublings_at 255 1 p.0 small) ∙ p.2)

pub period : doubled 255 1 ≡ 1
unfolding doubled double
period = refl
