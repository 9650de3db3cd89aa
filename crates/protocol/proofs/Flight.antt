-- Messages in flight: what is handed over, lost or doubled is one of them; where nothing is sent, those that an event leaves are all.
use Prim.Native.Nat.{ℕ, zero, suc, ◌+◌}
use mathlib.Core.Path.{◌≡◌, refl, sym, subst}
use mathlib.Core.Logic.{⊎_elim}
use mathlib.Core.Option.{Option, none, some}
use mathlib.Core.List.Memᴰ
use mathlib.Core.List.{List, [], ◌∷◌, append-nil, Memᴰ}
use lib.ListN.{take, drop, get_elem?}
use Rattle.record.specs.Message.{Message}
use Rattle.protocol.specs.Number.{to_list}
use Rattle.protocol.specs.Board.{nothing_ended}
use Rattle.protocol.specs.Parties.{Parties, quiet}
use Rattle.protocol.specs.Rig.{without, doubled, leaves}
use Rattle.protocol.proofs.Basics.{none≢some, some-injective}

module _ {A : Type 0} where
  pub at_mem : (xs : List A) (p : ℕ) (y : A) → get_elem? xs p ≡ some y → Memᴰ y xs
  at_mem [] p y e = absurd (none≢some e)
  at_mem (x ∷ xs) zero y e = Memᴰ.head (sym (some-injective e))
  at_mem (x ∷ xs) (suc p) y e = Memᴰ.tail (at_mem xs p y e)

  take_mem : (n : ℕ) (xs : List A) (y : A) → Memᴰ y (take n xs) → Memᴰ y xs
  take_mem zero xs y i = absurd (Memᴰ.not-nil i)
  take_mem (suc n) [] y i = i
  take_mem (suc n) (x ∷ xs) y i = ⊎_elim Memᴰ.head (λ j. Memᴰ.tail (take_mem n xs y j)) (Memᴰ.cases_cons i)

  drop_mem : (n : ℕ) (xs : List A) (y : A) → Memᴰ y (drop n xs) → Memᴰ y xs
  drop_mem zero xs y i = i
  drop_mem (suc n) [] y i = i
  drop_mem (suc n) (x ∷ xs) y i = Memᴰ.tail (drop_mem n xs y i)

  pub without_mem : (n : ℕ) (xs : List A) (y : A) → Memᴰ y (without n xs) → Memᴰ y xs
  unfolding without
  without_mem n xs y i = ⊎_elim (take_mem n xs y) (drop_mem (n + 1) xs y) (Memᴰ.append_cases (take n xs) i)

  to_list_mem : (xs : List A) (p : ℕ) (o : Option A) → get_elem? xs p ≡ o → (y : A) → Memᴰ y (to_list o) → Memᴰ y xs
  unfolding to_list
  to_list_mem xs p none e y i = absurd (Memᴰ.not-nil i)
  to_list_mem xs p (some x) e y i = subst (λ (z : A). Memᴰ z xs) (sym (Memᴰ.eq_of_singleton i)) (at_mem xs p x e)

  pub doubled_mem : (p : ℕ) (xs : List A) (y : A) → Memᴰ y (doubled p xs) → Memᴰ y xs
  unfolding doubled
  doubled_mem p xs y i =
      ⊎_elim (λ j. j) (to_list_mem xs p (get_elem? xs p) refl y) (Memᴰ.append_cases xs i)

pub leaves_quiet : {Value Element : Type 0} (ms : List (Message Element)) (p : Parties Value Element) → leaves ms (quiet p)
    ≡ record { rig = record { parties = p; in_flight = ms }; answer = nothing_ended }
unfolding leaves quiet
leaves_quiet ms p = λ i. record { rig = record { parties = p; in_flight = append-nil ms i }; answer = nothing_ended }
