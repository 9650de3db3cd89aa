-- Operations in the order of their tags, a write before the reads of its tag, are fed to the single board: each read shows what was
-- written with its tag.
use Prim.Native.Nat.{ℕ, ◌+◌, ◌≤◌}
use mathlib.Core.Path.{◌≡◌, refl, sym, ◌∙◌, ap, subst}
use mathlib.Core.Logic.{◌⊎◌, inl, inr, ⊎_elim}
use mathlib.Core.Option.{Option, some}
use mathlib.Core.List.Memᴰ
use mathlib.Core.List.{List, [], ◌∷◌, Memᴰ}
use native.Mathlib.Omega.{arith}
use Rattle.protocol.specs.Board.{Operation, unended_write, wrote, showed, after, ShowsState, Shown}
use Rattle.protocol.proofs.Basics.{some-injective}
use Rattle.protocol.proofs.Sort.{Precedes, Sorted}

module _ {Value : Type 0} (operations : ℕ → Operation Value) (level : ℕ → ℕ) (bytes : ℕ → Option Value) (rank : ℕ → ℕ) where
  -- a write has the board of its level, and twice its level for a rank; a read shows it, and ranks next
  pub data Op (x : ℕ) : Type 0 where
    writes : (v : Value) → (operations x ≡ unended_write v) ⊎ ((e : ℕ) × (operations x ≡ wrote v e)) → bytes (level x) ≡ some v → rank x ≡ level x + level x → Op x
    reads : (v : Value) (e : ℕ) → operations x ≡ showed v e → bytes (level x) ≡ some v → rank x ≡ level x + level x + 1 → Op x

  op_rank : (x : ℕ) → Op x → (rank x ≡ level x + level x) ⊎ (rank x ≡ level x + level x + 1)
  op_rank x (writes v d b r) = inl r
  op_rank x (reads v e d b r) = inr r

  rank_below : (x y : ℕ) → Precedes rank x y → rank x ≤ rank y
  rank_below x y (inl h) = omega arith
  rank_below x y (inr h) = omega arith

  -- who stands behind is not of a lower level
  level_below : (x y : ℕ) → Op y → level x + level x ≤ rank x → Precedes rank x y → level x ≤ level y
  level_below x y o low h =
      ⊎_elim (λ e. omega (arith, e, rank_below x y h)) (λ e. omega (arith, e, rank_below x y h)) (op_rank y o)

  write_shows : (d : Operation Value) (v s : Value) → (d ≡ unended_write v) ⊎ ((e : ℕ) × (d ≡ wrote v e)) → ShowsState d s × (after d s ≡ v)
  unfolding ShowsState after
  write_shows d v s (inl h) = rw h (tt, refl)
  write_shows d v s (inr h) = rw h.1 (tt, refl)

  read_shows : (d : Operation Value) (v s : Value) (e : ℕ) → d ≡ showed v e → v ≡ s → ShowsState d s × (after d s ≡ s)
  unfolding ShowsState after
  read_shows d v s e h f = rw h (f, refl)

  -- the source of a read: the board as it stands, or a write that is still to come
  abbrev Source : List ℕ → ℕ → ℕ → Type 0
  Source xs m y = (level y ≡ m) ⊎ ((w : ℕ) × Memᴰ w xs × (rank w ≡ level w + level w) × (level w ≡ level y))

  pub shown : (xs : List ℕ) (m : ℕ) (s : Value) → bytes m ≡ some s → Sorted rank xs → ((y : ℕ) → Memᴰ y xs → Op y) → ((y : ℕ) → Memᴰ y xs → m ≤ level y) → ((y : ℕ) → Memᴰ y xs → rank y ≡ level y + level y + 1 → Source xs m y) → Shown operations s xs
  unfolding Shown Sorted
  shown [] m s b sorted ops low sources = tt
  shown (x ∷ xs) m s b sorted ops low sources = go (ops x (Memᴰ.head refl)) (λ m' s'. shown xs m' s')
    where
      Later : Type 0
      Later = (m' : ℕ) (s' : Value) → bytes m' ≡ some s' → Sorted rank xs → ((y : ℕ) → Memᴰ y xs → Op y) → ((y : ℕ) → Memᴰ y xs → m' ≤ level y) → ((y : ℕ) → Memᴰ y xs → rank y ≡ level y + level y + 1 → Source xs m' y) → Shown operations s' xs

      ops_after : (y : ℕ) → Memᴰ y xs → Op y
      ops_after y i = ops y (Memᴰ.tail i)

      -- a write moves the level up to its own
      moved : rank x ≡ level x + level x → (y : ℕ) → Memᴰ y xs → level x ≤ level y
      moved r y i = level_below x y (ops_after y i) (omega arith) (sorted.0 y i)

      source_moved : rank x ≡ level x + level x → (y : ℕ) → Memᴰ y xs → rank y ≡ level y + level y + 1 → Source xs (level x) y
      source_moved r y i e =
          ⊎_elim (λ h. inl (omega (arith, h, low x (Memᴰ.head refl), moved r y i)))
          (λ h. ⊎_elim (λ j. inl (sym h.3 ∙ ap level j)) (λ j. inr (h.0, j, h.2, h.3)) (Memᴰ.cases_cons h.1))
          (sources y (Memᴰ.tail i) e)

      -- a read stands where the state is that of its level
      source_here : rank x ≡ level x + level x + 1 → level x ≡ m
      source_here r =
          ⊎_elim (λ h. h)
          (λ h. ⊎_elim (λ j. absurd (omega (arith, r, h.2, ap rank j, h.3, ap level j))) (λ j. absurd (omega (arith, r, h.2, h.3, rank_below x h.0 (sorted.0 h.0 j)))) (Memᴰ.cases_cons h.1))
          (sources x (Memᴰ.head refl) r)

      source_stays : rank x ≡ level x + level x + 1 → (y : ℕ) → Memᴰ y xs → rank y ≡ level y + level y + 1 → Source xs m y
      source_stays r y i e =
          ⊎_elim inl
          (λ h. ⊎_elim (λ j. absurd (omega (arith, r, h.2, ap rank j, ap level j))) (λ j. inr (h.0, j, h.2, h.3)) (Memᴰ.cases_cons h.1))
          (sources y (Memᴰ.tail i) e)

      go : Op x → Later → ShowsState (operations x) s × Shown operations (after (operations x) s) xs
      go (writes v d c r) later =
          let w = write_shows (operations x) v s d in
          (w.0, subst (λ (z : Value). Shown operations z xs) (sym w.1) (later (level x) v c sorted.1 ops_after (moved r) (source_moved r)))
      go (reads v e d c r) later =
          let w = read_shows (operations x) v s e d (some-injective (sym c ∙ ap bytes (source_here r) ∙ b)) in
          (w.0, subst (λ (z : Value). Shown operations z xs) (sym w.1) (later m s b sorted.1 ops_after (λ y i. low y (Memᴰ.tail i)) (source_stays r)))
