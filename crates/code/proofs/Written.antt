-- A table of rows of 64 bytes, after byte j was written in some of its rows.
use Prim.Native.Nat.{ℕ, ◌+◌, ◌*◌, ◌<◌}
use mathlib.Core.Path.{◌≡◌, refl, ◌∙◌}
use mathlib.Core.List.{List, [], ◌∷◌}
use native.Mathlib.Decide.{ℕ_discrete}
use native.Mathlib.Omega.{arith}
use lib.ListN.{length, get_or, set, length-set}
use lib.Seq.{get_or-set_same, get_or-set_other}

-- f n at byte j of each row n of the list
unfoldable pub written : List ℕ → (ℕ → ℕ) → ℕ → List ℕ → List ℕ
written [] f j l = l
written (n ∷ ns) f j l = set (written ns f j l) (64 * n + j) (f n)

abbrev pick : {n m : ℕ} → Dec (n ≡ m) → ℕ → ℕ → ℕ
pick (yes e) a b = a
pick (no h) a b = b

-- what is found in row n: what was written, if it is one of the list
unfoldable pub found : List ℕ → ℕ → ℕ → ℕ → ℕ
found [] n new old = old
found (m ∷ ns) n new old = pick (ℕ_discrete n m) new (found ns n new old)

module _ (f : ℕ → ℕ) (j : ℕ) (l : List ℕ) where
  pub length_written : (ns : List ℕ) → length (written ns f j l) ≡ length l
  unfolding written
  length_written [] = refl
  length_written (n ∷ ns) = length-set (written ns f j l) (64 * n + j) (f n) ∙ length_written ns

  pub written_here : (ns : List ℕ) (n : ℕ) → 64 * n + j < length l
      → get_or (written ns f j l) (64 * n + j) 0 ≡ found ns n (f n) (get_or l (64 * n + j) 0)
  unfolding written found
  written_here [] n h = refl
  written_here (m ∷ ns) n h = go (ℕ_discrete n m) (written_here ns n h)
    where
      go : (t : Dec (n ≡ m)) → get_or (written ns f j l) (64 * n + j) 0 ≡ found ns n (f n) (get_or l (64 * n + j) 0)
          → get_or (set (written ns f j l) (64 * m + j) (f m)) (64 * n + j) 0 ≡ pick t (f n) (found ns n (f n) (get_or l (64 * n + j) 0))
      go (yes e) p =
          rw e (get_or-set_same (written ns f j l) (64 * m + j) (f m) 0 (omega (arith, length_written ns)))
      go (no a) p = get_or-set_other (written ns f j l) (64 * m + j) (64 * n + j) (f m) 0 (λ e. a (omega arith)) ∙ p

  -- other bytes are as they were
  pub written_there : (ns : List ℕ) (n i : ℕ) → i < 64 → j < 64 → (i ≡ j → ⊥) → get_or (written ns f j l) (64 * n + i) 0 ≡ get_or l (64 * n + i) 0
  unfolding written
  written_there [] n i h m a = refl
  written_there (m ∷ ns) n i h k a =
      get_or-set_other (written ns f j l) (64 * m + j) (64 * n + i) (f m) 0 (λ e. a (omega arith)) ∙ written_there ns n i h k a
