-- A list by its elements: its length, what stands at an index, and lists of bytes; lists of one length, one after the other.
-- Assumes nothing.
use Prim.Native.Nat.{ℕ, zero, suc, ◌+◌, ◌*◌, ◌<◌}
use mathlib.Core.Path.{◌≡◌, refl, sym, ap, ap₂, ◌∙◌}
use mathlib.Core.List.{List, [], ◌∷◌, ◌++◌, map}
use native.Mathlib.Nat.{zero-add, suc-add, zero-mul}
use native.Mathlib.Omega.{arith}
use native.Mathlib.Decide.{dec_lt}
use lib.ListN.{length, take, drop, get_or, length-append, length-take, get_or-append, get_or-eq_default}
use lib.Seq.{get_or-append-add, get_or-drop, get_or-take}
use Rattle.laws.specs.Bytes.{Bytes, joined, tabulate}

module _ {A : Type 0} where
  pub length_tabulate : (n : ℕ) (f : ℕ → A) → length (tabulate n f) ≡ n
  unfolding tabulate
  length_tabulate zero f = refl
  length_tabulate (suc n) f = ap suc (length_tabulate n (λ i. f (suc i)))

  pub get_d_tabulate : (n : ℕ) (f : ℕ → A) (i : ℕ) (d : A) → i < n → get_or (tabulate n f) i d ≡ f i
  unfolding tabulate
  get_d_tabulate zero f i d h = absurd (omega arith)
  get_d_tabulate (suc n) f zero d h = refl
  get_d_tabulate (suc n) f (suc i) d h = get_d_tabulate n (λ j. f (suc j)) i d (omega arith)

  pub tabulate_cong : (n : ℕ) (f g : ℕ → A) → ((i : ℕ) → i < n → f i ≡ g i) → tabulate n f ≡ tabulate n g
  unfolding tabulate
  tabulate_cong zero f g h = refl
  tabulate_cong (suc n) f g h = ap₂ ◌∷◌ (h 0 (omega arith)) (tabulate_cong n (λ i. f (suc i)) (λ i. g (suc i)) (λ i l. h (suc i) (omega arith)))

  pub map_tabulate : {B : Type 0} (g : A → B) (n : ℕ) (f : ℕ → A) → map g (tabulate n f) ≡ tabulate n (λ i. g (f i))
  unfolding tabulate
  map_tabulate g zero f = refl
  map_tabulate g (suc n) f = ap (◌∷◌ (g (f 0))) (map_tabulate g n (λ i. f (suc i)))

  pub tabulate_append : (n e : ℕ) (f : ℕ → A) → tabulate n f ++ tabulate e (λ j. f (n + j)) ≡ tabulate (n + e) f
  unfolding tabulate
  tabulate_append zero e f =
      tabulate_cong e (λ j. f (0 + j)) f (λ j h. ap f (zero-add j)) ∙ ap (λ m. tabulate m f) (sym (zero-add e))
  tabulate_append (suc n) e f =
      ap (◌∷◌ (f 0))
      (ap (λ l. tabulate n (λ i. f (suc i)) ++ l) (tabulate_cong e (λ j. f (suc n + j)) (λ j. f (suc (n + j))) (λ j h. ap f (suc-add n j)))
      ∙ tabulate_append n e (λ i. f (suc i)))
      ∙ ap (λ m. tabulate m f) (sym (suc-add n e))

pub bytes_tabulate : (n : ℕ) (f : ℕ → ℕ) → ((i : ℕ) → f i < 256) → Bytes (tabulate n f)
unfolding tabulate
bytes_tabulate zero f h i = omega arith
bytes_tabulate (suc n) f h zero = h 0
bytes_tabulate (suc n) f h (suc i) = bytes_tabulate n (λ j. f (suc j)) (λ j. h (suc j)) i

-- each has e elements
abbrev pub Each : ℕ → List (List ℕ) → Type 0
Each e ls = (r : ℕ) → r < length ls → length (get_or ls r []) ≡ e

pub length_joined : (e : ℕ) (ls : List (List ℕ)) → Each e ls → length (joined ls) ≡ length ls * e
unfolding joined
length_joined e [] h = sym (zero-mul e)
length_joined e (l ∷ ls) h =
    length-append l (joined ls) ∙ ap₂ ◌+◌ (h 0 (omega arith)) (length_joined e ls (λ r m. h (suc r) (omega arith))) ∙ omega arith

pub joined_at : (e : ℕ) (ls : List (List ℕ)) → Each e ls → (r j : ℕ) → r < length ls → j < e
    → get_or (joined ls) (r * e + j) 0 ≡ get_or (get_or ls r []) j 0
unfolding joined
joined_at e [] h r j l m = absurd (omega arith)
joined_at e (x ∷ ls) h zero j l m =
    ap (λ n. get_or (x ++ joined ls) n 0) (omega arith) ∙ get_or-append x (joined ls) 0 j (omega (arith, h 0 (omega arith)))
joined_at e (x ∷ ls) h (suc r) j l m =
    ap (λ n. get_or (x ++ joined ls) n 0) (omega (arith, h 0 (omega arith)))
    ∙ get_or-append-add x (joined ls) (r * e + j) 0
    ∙ joined_at e ls (λ t n. h (suc t) (omega arith)) r j (omega arith) m

-- a part of bytes is bytes
pub bytes_part : (n k : ℕ) (bs : List ℕ) → Bytes bs → Bytes (take n (drop k bs))
bytes_part n k bs all i = elim (dec_lt i n) as (λ _. get_or (take n (drop k bs)) i 0 < 256) [
  | yes l ↦ omega (arith, get_or-take n (drop k bs) i 0 l, get_or-drop k bs i 0, all (k + i))
  | no g ↦ omega (arith, get_or-eq_default (take n (drop k bs)) 0 {n = i} (omega (arith, length-take n (drop k bs), g)))
]
