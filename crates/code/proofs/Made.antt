-- An array of which a function gives each element.
use Prim.Native.Nat.{ℕ, zero, suc, ◌+◌, ◌<◌, ◌≤◌}
use mathlib.Core.Path.{◌≡◌, sym, subst, ◌∙◌}
use mathlib.Core.List.{List}
use native.Mathlib.Decide.{dec_lt}
use native.Mathlib.Omega.{arith}
use lib.ListN.{get_or}
use lib.Seq.{ext_get_or}
use denote.Param.Members.{Mut, Called}
use Rattle.std.specs.Array.{IsFromFnResult, IsFromFnResultFrom, IsMapOf}
use Rattle.laws.specs.Bytes.{tabulate}
use Rattle.laws.proofs.Bytes.{length_tabulate, get_d_tabulate}

module _ {F : Type 0} {g : Mut F (ℕ × Unit {0}) ℕ} where
  made_at : (h : ℕ → ℕ) (f : F) (ys : List ℕ) (i n : ℕ) → ((i y : ℕ) (q : F) → Called g f (i, tt) y q → (y ≡ h i) × (q ≡ f))
      → IsFromFnResultFrom g f ys i n → (j : ℕ) → i ≤ j → j < i + n → get_or ys j 0 ≡ h j
  made_at h f ys i zero gives r j low high = absurd (omega arith)
  made_at h f ys i (suc n) gives (q, y, at, called, rest) j low high =
      let here = gives i y q called in
      elim (dec_lt i j) [
        | yes above ↦ made_at h f ys (i + 1) n gives (subst (λ p. IsFromFnResultFrom g p ys (i + 1) n) here.1 rest) j (omega arith) (omega arith)
        | no equal ↦ let e : i ≡ j = omega arith in subst (λ m. get_or ys m 0 ≡ h m) e (at.1 0 ∙ here.0)
      ]

  -- what from_fn makes, by a function that stays as it is
  pub made : (h : ℕ → ℕ) {f : F} {ys : List ℕ} {n : ℕ} → IsFromFnResult g f ys n
      → ((i y : ℕ) (q : F) → Called g f (i, tt) y q → (y ≡ h i) × (q ≡ f)) → ys ≡ tabulate n h
  made h {f} {ys} {n} r gives =
      ext_get_or 0 ys (tabulate n h) (r.long ∙ sym (length_tabulate n h))
      (λ j l.
      let below : j < n = omega (arith, r.long) in
      made_at h f ys 0 n gives r.each j (omega arith) (omega arith) ∙ sym (get_d_tabulate n h j 0 below))

  -- what map makes, by a function of the element alone
  pub mapped : (h : ℕ → ℕ) {f : F} {xs ys : List ℕ} {n : ℕ} → IsMapOf g f xs ys n
      → ((p : F) (x y : ℕ) (q : F) → Called g p (x, tt) y q → y ≡ h x) → ys ≡ tabulate n (λ i. h (get_or xs i 0))
  mapped h {f} {xs} {ys} {n} r gives =
      ext_get_or 0 ys (tabulate n (λ i. h (get_or xs i 0))) (r.long ∙ sym (length_tabulate n (λ i. h (get_or xs i 0))))
      (λ i l.
      let below : i < n = omega (arith, r.long) in
      let made = r.at i 0 0 below in
      gives made.0 (get_or xs i 0) (get_or ys i 0) made.1 made.2 ∙ sym (get_d_tabulate n (λ i. h (get_or xs i 0)) i 0 below))
