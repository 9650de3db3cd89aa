-- Tags as bytes and back, and the test whether bytes are the same. Assumes nothing.
use mathlib.Core.Path.{◌≡◌, refl, sym, ap, ap₂}
use mathlib.Core.Bool.{Bool, true, ◌&&◌}
use mathlib.Core.List.{List, [], ◌∷◌}
use Prim.Native.Nat.{ℕ, ◌≤◌, ◌<◌}
use borrow.Author.Tests.{eq-eqb, eqb-true}
use lib.Dec.{eqb}
use lib.ListN.{length}
use Rattle.std.specs.Cmp.Lexicographic.{pointwise}
use Rattle.laws.proofs.Bools.{and_left, and_right}
use Rattle.tag.specs.declared.Tag.{Tag}
use Rattle.record.specs.Record.{four_bytes, highest_number, two_bytes}
use Rattle.record.proofs.Laws.{four_number, two_number}
use Rattle.states.specs.Bytes.{length_from, same_bytes, tag_from, tag_row}

-- ---- a tag's row gives the tag and the length

pub tag_wide : (t : Tag) (n : ℕ) → length (tag_row t n) ≡ 8
unfolding tag_row four_bytes two_bytes
tag_wide t n = refl

pub tag_back : (t : Tag) (n : ℕ) → t.number ≤ highest_number → tag_from (tag_row t n) 0 ≡ t
unfolding tag_row four_bytes two_bytes
tag_back t n h = λ i. record { number = four_number t.number h i; client = t.client }

pub length_back : (t : Tag) (n : ℕ) → n < 65536 → length_from (tag_row t n) 5 ≡ n
unfolding tag_row four_bytes two_bytes
length_back t n h = two_number n h

-- ---- the same bytes

pub same_self : (a : List ℕ) → same_bytes a a ≡ true
unfolding same_bytes
same_self [] = refl
same_self (x ∷ xs) = rw (eq-eqb x x refl) (same_self xs)

pub same_one : (a b : List ℕ) → same_bytes a b ≡ true → a ≡ b
unfolding same_bytes
same_one [] [] h = refl
same_one [] (y ∷ ys) h = cc
same_one (x ∷ xs) [] h = cc
same_one (x ∷ xs) (y ∷ ys) h =
    ap₂ {A = ℕ} (λ (z : ℕ) (l : List ℕ). z ∷ l) (eqb-true x y (and_left (eqb x y) (same_bytes xs ys) h))
    (same_one xs ys (and_right (eqb x y) (same_bytes xs ys) h))

-- the test as `==` makes it
pub same_pointwise : (a b : List ℕ) → pointwise eqb a b ≡ same_bytes a b
unfolding same_bytes
same_pointwise [] [] = refl
same_pointwise [] (y ∷ ys) = refl
same_pointwise (x ∷ xs) [] = refl
same_pointwise (x ∷ xs) (y ∷ ys) = ap (λ t. eqb x y && t) (same_pointwise xs ys)

-- where such a test is the last of three that hold
pub last_same : (t u : Bool) (a b : List ℕ) → (t && (u && same_bytes a b)) ≡ true → b ≡ a
last_same t u a b h = sym (same_one a b (and_right u (same_bytes a b) (and_right t (u && same_bytes a b) h)))
