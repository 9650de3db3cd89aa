-- The first 16 coefficients of the product of all (x + s), one server after the other.
use Prim.Native.Nat.{ℕ, zero, suc, ◌+◌, ◌<◌}
use mathlib.Core.Path.{◌≡◌, refl, sym, ap, ap₂, ◌∙◌}
use mathlib.Core.List.{List, [], ◌∷◌, ◌++◌, append-nil}
use native.Mathlib.Omega.{arith}
use native.Mathlib.Nat.{zero-add}
use native.Mathlib.Numerals.{add-one}
use lib.Bits.{xor_zero_l}
use lib.ListN.{length, get_or, take, replicate, get_or-replicate, get_or-eq_default}
use lib.Seq.{get_or-take, take-suc}
use Rattle.field.specs.Field.{plus, times}
use Rattle.field.proofs.Laws.{times_zero_right, times_one, plus-zero}
use Rattle.laws.specs.Bytes.{tabulate}
use Rattle.code.specs.Polynomial.{Operations, carried, rooted, roots}
use Rattle.code.specs.Element.{byte_field}
use Rattle.code.specs.inner.Lanes.{advanced, first_roots, rooted_once}
use Rattle.code.proofs.Lagrange.{length_carried}
use Rattle.laws.proofs.Bytes.{get_d_tabulate, tabulate_cong}

carried_at : (s c : ℕ) (p : List ℕ) (i : ℕ) → get_or (carried byte_field s c p) i 0 ≡ plus (get_or (c ∷ p) i 0) (times s (get_or p i 0))
unfolding carried
carried_at s c [] zero = sym (ap (plus c) (times_zero_right s) ∙ plus-zero c)
carried_at s c [] (suc i) = sym (ap (plus 0) (times_zero_right s))
carried_at s c (d ∷ p) zero = refl
carried_at s c (d ∷ p) (suc i) = carried_at s d p i

rooted_last : {F : Type 0} (o : Operations F) (p ss : List F) (s : F)
    → rooted o p (ss ++ (s ∷ [])) ≡ carried o s o.nought (rooted o p ss)
unfolding rooted
rooted_last o p [] s = refl
rooted_last o p (t ∷ ss) s = rooted_last o (carried o t o.nought p) ss s

-- the first 16
first : List ℕ → List ℕ
first p = tabulate 16 (λ i. get_or p i 0)

first_below : (p : List ℕ) (i : ℕ) → i < 16 → get_or (0 ∷ first p) i 0 ≡ get_or (0 ∷ p) i 0
unfolding first
first_below p zero h = refl
first_below p (suc i) h = get_d_tabulate 16 (λ j. get_or p j 0) i 0 (omega arith)

once : (p : List ℕ) (s : ℕ) → rooted_once (first p) s ≡ first (carried byte_field s 0 p)
unfolding rooted_once first
once p s =
    tabulate_cong 16
    (λ i. plus (get_or (0 ∷ first p) i 0) (times s (get_or (first p) i 0)))
    (λ i. get_or (carried byte_field s 0 p) i 0)
    (λ i h. ap₂ plus (first_below p i h) (ap (times s) (get_d_tabulate 16 (λ j. get_or p j 0) i 0 h)) ∙ sym (carried_at s 0 p i))

-- the coefficients of x p, and s times p, in 16 lanes
pub below_at : (p below : List ℕ) → below ≡ take 15 p → (i : ℕ) → i < 16 → get_or (0 ∷ (below ++ [])) i 0 ≡ get_or (0 ∷ p) i 0
below_at p below e zero h = refl
below_at p below e (suc i) h = ap (λ l. get_or l i 0) (append-nil below ∙ e) ∙ get_or-take 15 p i 0 (omega arith)

pub shifted : (p below : List ℕ) (s : ℕ) → ((i : ℕ) → i < 16 → get_or below i 0 ≡ get_or (0 ∷ p) i 0)
    → advanced p (replicate 16 s) below ≡ rooted_once p s
unfolding advanced rooted_once
shifted p below s h =
    tabulate_cong 16
    (λ i. plus (get_or below i 0) (times (get_or (replicate 16 s) i 0) (get_or p i 0)))
    (λ i. plus (get_or (0 ∷ p) i 0) (times s (get_or p i 0)))
    (λ i l. ap₂ plus (h i l) (ap (λ x. times x (get_or p i 0)) (get_or-replicate 16 i s 0 l)))

roots_none : (servers : List ℕ) → 1 ∷ 0 ∷ 0 ∷ 0 ∷ 0 ∷ 0 ∷ 0 ∷ 0 ∷ 0 ∷ 0 ∷ 0 ∷ 0 ∷ 0 ∷ 0 ∷ 0 ∷ 0 ∷ [] ≡ first_roots 0 servers
unfolding first_roots roots rooted tabulate
roots_none servers = refl

pub roots_more : (r : ℕ) (servers : List ℕ) → r < length servers
    → rooted_once (first_roots r servers) (get_or servers r 0) ≡ first_roots (r + 1) servers
unfolding first_roots roots first
roots_more r servers h =
    once (rooted byte_field (1 ∷ []) (take r servers)) (get_or servers r 0)
    ∙ ap first
    (sym (ap (rooted byte_field (1 ∷ [])) (ap (λ n. take n servers) (add-one r) ∙ take-suc servers r 0 h)
    ∙ rooted_last byte_field (1 ∷ []) (take r servers) (get_or servers r 0)))

-- (x + s), of s times 1 and s times 0
linear : ℕ → ℕ → List ℕ
linear a b =
    plus 0 a ∷ plus 1 b ∷ plus 0 b ∷ plus 0 b ∷ plus 0 b ∷ plus 0 b ∷ plus 0 b ∷ plus 0 b ∷ plus 0 b ∷ plus 0 b ∷ plus 0 b ∷ plus 0 b
    ∷ plus 0 b ∷ plus 0 b ∷ plus 0 b ∷ plus 0 b ∷ []

pub roots_one : (servers : List ℕ) → 0 < length servers → get_or servers 0 0 < 256
    → get_or servers 0 0 ∷ 1 ∷ 0 ∷ 0 ∷ 0 ∷ 0 ∷ 0 ∷ 0 ∷ 0 ∷ 0 ∷ 0 ∷ 0 ∷ 0 ∷ 0 ∷ 0 ∷ 0 ∷ [] ≡ first_roots 1 servers
unfolding linear rooted_once tabulate
roots_one servers h l =
    ap (λ x. x ∷ 1 ∷ 0 ∷ 0 ∷ 0 ∷ 0 ∷ 0 ∷ 0 ∷ 0 ∷ 0 ∷ 0 ∷ 0 ∷ 0 ∷ 0 ∷ 0 ∷ 0 ∷ []) (sym (xor_zero_l s))
    ∙ ap₂ linear (sym (times_one s l)) (sym (times_zero_right s))
    ∙ ap (λ p. rooted_once p s) (roots_none servers)
    ∙ roots_more 0 servers h
  where
    s : ℕ
    s = get_or servers 0 0

top : (p ss : List ℕ) (n : ℕ) → length p ≡ suc n → get_or (rooted byte_field p ss) (n + length ss) 0 ≡ get_or p n 0
unfolding rooted
top p [] n e = ap (λ m. get_or p m 0) (omega arith)
top p (s ∷ ss) n e =
    ap (λ m. get_or (rooted byte_field (carried byte_field s 0 p) ss) m 0) (omega arith)
    ∙ top (carried byte_field s 0 p) ss (suc n) (length_carried byte_field s 0 p ∙ ap suc e)
    ∙ carried_at s 0 p (suc n)
    ∙ ap (λ m. plus (get_or p n 0) (times s m)) (get_or-eq_default p 0 {n = suc n} (omega arith))
    ∙ ap (plus (get_or p n 0)) (times_zero_right s)
    ∙ plus-zero (get_or p n 0)

-- the product's leading coefficient is 1
pub roots_top : (ss : List ℕ) → get_or (roots byte_field ss) (length ss) 0 ≡ 1
unfolding roots
roots_top ss = ap (λ m. get_or (rooted byte_field (1 ∷ []) ss) m 0) (sym (zero-add (length ss))) ∙ top (1 ∷ []) ss 0 refl

pub first_roots_at : (k : ℕ) (servers : List ℕ) (i : ℕ) → i < 16 → get_or (first_roots k servers) i 0 ≡ get_or (roots byte_field (take k servers)) i 0
unfolding first_roots
first_roots_at k servers i h = get_d_tabulate 16 (λ j. get_or (roots byte_field (take k servers)) j 0) i 0 h
