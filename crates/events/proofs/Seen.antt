-- What is seen of parties by their places, when one of them and its part of a buffer change. Assumes nothing.
use Prim.Native.Nat.{ℕ, ◌+◌, ◌-◌, ◌≤◌, ◌<◌}
use mathlib.Core.Path.{◌≡◌, refl, ap, ap₂, fun_ext, ◌∙◌}
use mathlib.Core.Bool.{Bool, true, false}
use mathlib.Core.Option.{Option, none, some}
use mathlib.Core.List.{List}
use native.Mathlib.Omega.{arith}
use lib.ListN.{length, set, get_elem?}
use Rattle.laws.proofs.Lists.{at_set, at_set_other}
use Rattle.config.specs.Questions.{within}
use Rattle.config.proofs.Questions.{within_low, within_true}
use Rattle.protocol.specs.Number.{upd}
use Rattle.protocol.proofs.Basics.{upd_elim}
use Rattle.events.specs.View.{place}

-- the party in place i
pub place_at : {A : Type 0} (n i : ℕ) (xs : List A) → i < n → place n (i + 1) xs ≡ get_elem? xs i
unfolding place
place_at n i xs h =
    let back : i + 1 - 1 ≡ i = omega arith in
    rw (within_true 1 n (i + 1) (omega arith) (omega (arith, h))) (ap (get_elem? xs) back)

-- What is seen of a party goes by what stands in its place and by its part, and where there is none by neither.
module _ {A P B : Type 0} (see : Option A → P → B) (blind : (x y : P) → see none x ≡ see none y) (n i : ℕ) (xs : List A) (a : A) (u u' : ℕ → P)
    (inside : i < n) (room : n ≤ length xs) (others : (j : ℕ) → (j ≡ i → ⊥) → u' j ≡ u j)
  where
    abbrev before : ℕ → B
    before q = see (place n q xs) (u (q - 1))

    abbrev after : ℕ → B
    after q = see (place n q (set xs i a)) (u' (q - 1))

    own : after (i + 1) ≡ see (some a) (u' i)
    own =
        let back : i + 1 - 1 ≡ i = omega arith in
        ap₂ see (place_at n i (set xs i a) inside ∙ at_set xs i a (omega (arith, inside, room))) (ap u' back)

    other : (q : ℕ) → (q ≡ i + 1 → ⊥) → (b : Bool) → within 1 n q ≡ b → after q ≡ before q
    unfolding place
    other q ne true h =
        let apart : q - 1 ≡ i → ⊥ = λ e. ne (omega (arith, e, within_low 1 n q h)) in
        rw h (ap₂ see (at_set_other xs i (q - 1) a apart) (others (q - 1) apart))
    other q ne false h = rw h (blind (u' (q - 1)) (u (q - 1)))

    pub seen_upd : after ≡ upd before (i + 1) (see (some a) (u' i))
    seen_upd =
        fun_ext (λ q. upd_elim (λ (x : B). after q ≡ x) before (i + 1) (see (some a) (u' i)) q
        (λ e. ap after e ∙ own) (λ ne. other q ne (within 1 n q) refl))
