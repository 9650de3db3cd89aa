-- Sets of servers as bits: a server put in or taken out, the bounds of a set, and its size. Assumes nothing.
use mathlib.Core.Path.{◌≡◌, refl, sym, ap, ap₂, ◌∙◌, fun_ext}
use mathlib.Core.Bool.{Bool, true, false, cond}
use Prim.Native.Nat.{ℕ, zero, suc, ◌+◌, ◌-◌, ◌/◌, ◌%◌, ◌^◌, ◌≤◌, ◌<◌}
use native.Mathlib.Nat.{mod-lt, mod-eq_of_lt, zero-lt-suc, zero-div, div-one, add_comm, le-div_iff_mul-le}
use native.Mathlib.Numerals.{add-one, one-add}
use native.Mathlib.Omega.{arith}
use native.Mathlib.Decide.{dec_lt, ℕ_discrete}
use borrow.Author.Tests.{eqb-true, eqb-false, eq-eqb, ltb-true, lt-ltb}
use lib.Arith.{bin_ind}
use lib.Count.{ones, ones_cat}
use lib.Dec.{eqb, ltb, eqb-suc-suc, eqb-suc-zero, eqb-zero-suc}
use lib.Pow.{shr-shr, mod-pow-add, pow_mono, pow_pos}
use Rattle.laws.proofs.Bools.{and_left, and_right}
use Rattle.protocol.specs.Number.{upd, count, nobody}
use Rattle.protocol.proofs.Basics.{upd_elim, upd_own}
use Rattle.client.specs.Servers.{member, within_servers}
use Rattle.client.specs.inner.Count.{put_of}

two_pos : zero < 2
two_pos = zero-lt-suc 1

-- ---- a bit is that of half the number, one place lower

low : (x : ℕ) → member x 0 ≡ eqb (x % 2) 1
unfolding member
low x = ap (λ (n : ℕ). eqb (n % 2) 1) (div-one x)

low_as : (x d : ℕ) → x % 2 ≡ d → member x 0 ≡ eqb d 1
low_as x d e = low x ∙ ap (λ (n : ℕ). eqb n 1) e

up : (x t : ℕ) → member x (suc t) ≡ member (x / 2) t
unfolding member
up x t = ap (λ (n : ℕ). eqb (n % 2) 1) (ap (λ (n : ℕ). x / 2 ^ n) (sym (one-add t)) ∙ sym (shr-shr x 1 t))

up_as : (x y t : ℕ) → x / 2 ≡ y → member x (suc t) ≡ member y t
up_as x y t e = up x t ∙ ap (λ (n : ℕ). member n t) e

-- the lowest bit, as a remainder
low_out : (x : ℕ) → member x 0 ≡ false → x % 2 ≡ 0
low_out x h = let ne = eqb-false (x % 2) 1 (sym (low x) ∙ h) in omega (arith, mod-lt x two_pos)

low_in : (x : ℕ) → member x 0 ≡ true → x % 2 ≡ 1
low_in x h = eqb-true (x % 2) 1 (sym (low x) ∙ h)

-- the empty set has no member
pub member_zero : member 0 ≡ nobody
unfolding member
member_zero = fun_ext (λ s. ap (λ (n : ℕ). eqb (n % 2) 1) (zero-div (2 ^ s)))

-- a set is known by its members
empty_one : (y : ℕ) → ((s : ℕ) → member y s ≡ false) → y ≡ 0
empty_one =
    bin_ind (λ (y : ℕ). ((s : ℕ) → member y s ≡ false) → y ≡ 0) (λ _. refl)
    (λ y half h. let none : y / 2 ≡ 0 = half (λ s. sym (up y s) ∙ h (suc s)) in omega (arith, low_out y (h 0)))

low_one : (x y : ℕ) → member x 0 ≡ member y 0 → x % 2 ≡ y % 2
low_one x y h = go (member y 0) refl
  where
    go : (b : Bool) → member y 0 ≡ b → x % 2 ≡ y % 2
    go true e = low_in x (h ∙ e) ∙ sym (low_in y e)
    go false e = low_out x (h ∙ e) ∙ sym (low_out y e)

members_one : (x y : ℕ) → ((s : ℕ) → member x s ≡ member y s) → x ≡ y
members_one =
    bin_ind (λ (x : ℕ). (y : ℕ) → ((s : ℕ) → member x s ≡ member y s) → x ≡ y)
    (λ y h. sym (empty_one y (λ s. sym (h s) ∙ ap (λ (f : ℕ → Bool). f s) member_zero)))
    (λ x half y h.
    let halves : x / 2 ≡ y / 2 = half (y / 2) (λ s. sym (up x s) ∙ h (suc s) ∙ up y s) in
    omega (arith, low_one x y (h 0)))

pub member_one : (x y : ℕ) → member x ≡ member y → x ≡ y
member_one x y e = members_one x y (λ s. ap (λ (f : ℕ → Bool). f s) e)

-- a set with server s is at least 2 ^ s
pub member_le : (s x : ℕ) → member x s ≡ true → 2 ^ s ≤ x
member_le zero x h = omega (arith, low_in x h)
member_le (suc s) x h = omega (arith, member_le s (x / 2) (sym (up x s) ∙ h))

-- ---- one server put in or taken out

upd_up : (f g : ℕ → Bool) (s t : ℕ) (b : Bool) → f (suc t) ≡ g t → upd f (suc s) b (suc t) ≡ upd g s b t
unfolding upd
upd_up f g s t b e = ap₂ (λ (c d : Bool). cond c b d) (eqb-suc-suc t s) e

put-at : (s x : ℕ) → member x s ≡ false → (t : ℕ) → member (x + 2 ^ s) t ≡ upd (member x) s true t
unfolding upd
put-at zero x h zero = low_as (x + 1) 1 (omega (arith, low_out x h))
put-at zero x h (suc t) =
    up_as (x + 1) (x / 2) t (omega (arith, low_out x h)) ∙ sym (up x t)
    ∙ ap (λ (c : Bool). cond c true (member x (suc t))) (sym (eqb-suc-zero t))
put-at (suc s) x h zero =
    low_as (x + 2 ^ suc s) (x % 2) (omega arith) ∙ sym (low x)
    ∙ ap (λ (c : Bool). cond c true (member x 0)) (sym (eqb-zero-suc s))
put-at (suc s) x h (suc t) =
    up_as (x + 2 ^ suc s) (x / 2 + 2 ^ s) t (omega arith)
    ∙ put-at s (x / 2) (sym (up x s) ∙ h) t
    ∙ sym (upd_up (member x) (member (x / 2)) s t true (up x t))

put_in : (s x : ℕ) → member x s ≡ false → member (x + 2 ^ s) ≡ upd (member x) s true
put_in s x h = fun_ext (put-at s x h)

out_at : (s x : ℕ) → member x s ≡ true → (t : ℕ) → member (x - 2 ^ s) t ≡ upd (member x) s false t
unfolding upd
out_at zero x h zero = low_as (x - 1) 0 (omega (arith, low_in x h))
out_at zero x h (suc t) =
    up_as (x - 1) (x / 2) t (omega (arith, low_in x h)) ∙ sym (up x t)
    ∙ ap (λ (c : Bool). cond c false (member x (suc t))) (sym (eqb-suc-zero t))
out_at (suc s) x h zero =
    low_as (x - 2 ^ suc s) (x % 2) (omega (arith, member_le (suc s) x h)) ∙ sym (low x)
    ∙ ap (λ (c : Bool). cond c false (member x 0)) (sym (eqb-zero-suc s))
out_at (suc s) x h (suc t) =
    up_as (x - 2 ^ suc s) (x / 2 - 2 ^ s) t (omega (arith, member_le (suc s) x h))
    ∙ out_at s (x / 2) (sym (up x s) ∙ h) t
    ∙ sym (upd_up (member x) (member (x / 2)) s t false (up x t))

take_out : (s x : ℕ) → member x s ≡ true → member (x - 2 ^ s) ≡ upd (member x) s false
take_out s x h = fun_ext (out_at s x h)

-- what is there already, or is not
same : (f : ℕ → Bool) (s : ℕ) (b : Bool) → f s ≡ b → f ≡ upd f s b
same f s b e = sym (upd_own f s) ∙ ap (upd f s) e

-- the set that the code makes
pub member_put : (set s : ℕ) (b : Bool) → member (put_of set s b) ≡ upd (member set) s b
unfolding put_of
member_put set s b = go (member set s) refl b
  where
    go : (a : Bool) → member set s ≡ a → (b : Bool) → member (cond a (cond b set (set - 2 ^ s)) (cond b (set + 2 ^ s) set)) ≡ upd (member set) s b
    go true h true = same (member set) s true h
    go true h false = take_out s set h
    go false h true = put_in s set h
    go false h false = same (member set) s false h

-- ---- bounds

-- a server below k put into a set below 2 ^ k leaves it there
pub put_lt : (k s x : ℕ) → s < k → x < 2 ^ k → member x s ≡ false → x + 2 ^ s < 2 ^ k
put_lt zero s x l b h = absurd (omega arith)
put_lt (suc k) zero x l b h = omega (arith, low_out x h)
put_lt (suc k) (suc s) x l b h =
    let half : x / 2 < 2 ^ k = omega arith in
    omega (arith, put_lt k s (x / 2) (omega arith) half (sym (up x s) ∙ h))

within_even : (n x : ℕ) → within_servers n x ≡ true → x % 2 ≡ 0
within_even n x h = eqb-true (x % 2) 0 (and_left (eqb (x % 2) 0) (ltb x (2 ^ (n + 1))) h)

within_lt : (n x : ℕ) → within_servers n x ≡ true → x < 2 ^ (n + 1)
within_lt n x h = ltb-true x (2 ^ (n + 1)) (and_right (eqb (x % 2) 0) (ltb x (2 ^ (n + 1))) h)

pub within_true : (n x : ℕ) → x % 2 ≡ 0 → x < 2 ^ (n + 1) → within_servers n x ≡ true
within_true n x e l = rw (eq-eqb (x % 2) 0 e, lt-ltb x (2 ^ (n + 1)) l)

-- every member of such a set is one of 1 to n
pub within_members : (n x s : ℕ) → within_servers n x ≡ true → member x s ≡ true → (1 ≤ s) × (s ≤ n)
within_members n x zero w h = absurd (omega (arith, low_in x h, within_even n x w))
within_members n x (suc s) w h = elim (dec_lt n (suc s)) as (λ _. (1 ≤ suc s) × (suc s ≤ n)) [
  | yes l ↦ absurd (omega (arith, member_le (suc s) x h, within_lt n x w, pow_mono {i = n + 1} {j = suc s} (omega arith)))
  | no m ↦ (omega arith, omega arith)
]

-- a number that is not 0 has a bit set
some_bit : (y : ℕ) → 0 < y → (s : ℕ) × (member y s ≡ true)
some_bit =
    bin_ind (λ (y : ℕ). 0 < y → (s : ℕ) × (member y s ≡ true)) (λ h. absurd (omega arith))
    (λ y rest h. elim (ℕ_discrete (y % 2) 1) as (λ _. (s : ℕ) × (member y s ≡ true)) [
      | yes e ↦ (0, low_as y 1 e)
      | no n ↦ let r = rest (omega (arith, mod-lt y two_pos)) in (suc r.0, up y r.0 ∙ r.1)
    ])

far : (k x s : ℕ) → member (x / 2 ^ k) s ≡ member x (k + s)
unfolding member
far k x s = ap (λ (n : ℕ). eqb (n % 2) 1) (shr-shr x k s)

-- a set with no other members is such a set
members_within : (n x : ℕ) → ((s : ℕ) → member x s ≡ true → (1 ≤ s) × (s ≤ n)) → within_servers n x ≡ true
members_within n x h = within_true n x even small
  where
    even : x % 2 ≡ 0
    even = elim (ℕ_discrete (x % 2) 1) as (λ _. x % 2 ≡ 0) [
      | yes e ↦ absurd (omega (arith, h 0 (low_as x 1 e)))
      | no m ↦ omega (arith, mod-lt x two_pos)
    ]

    small : x < 2 ^ (n + 1)
    small = elim (dec_lt x (2 ^ (n + 1))) as (λ _. x < 2 ^ (n + 1)) [
      | yes l ↦ l
      | no m ↦
          let b = some_bit (x / 2 ^ (n + 1)) ((le-div_iff_mul-le (pow_pos (n + 1))).1 (omega arith)) in
          absurd (omega (arith, h (n + 1 + b.0) (sym (far (n + 1) x b.0) ∙ b.1)))
    ]

-- ---- size

bit_one : (d : ℕ) → d < 2 → ones d ≡ cond (eqb d 1) 1 0
unfolding ones
bit_one zero h = refl
bit_one (suc zero) h = refl
bit_one (suc (suc d)) h = absurd (omega arith)

omega_one : (n : ℕ) → 1 + (n + 1) ≡ suc n + 1
omega_one n = omega arith

count_ones : (n x : ℕ) → x % 2 ≡ 0 → count (member x) n ≡ ones (x % 2 ^ (n + 1))
unfolding count member ones
count_ones zero x e = ap ones (sym e)
count_ones (suc n) x e =
    ap₂ (λ (a b : ℕ). a + b) (count_ones n x e)
    (ap (λ (k : ℕ). cond (eqb (x / 2 ^ k % 2) 1) 1 0) (sym (add-one n)) ∙ sym (bit_one (x / 2 ^ (n + 1) % 2) (mod-lt (x / 2 ^ (n + 1)) two_pos)))
    ∙ add_comm (ones (x % 2 ^ (n + 1))) (ones (x / 2 ^ (n + 1) % 2))
    ∙ sym (ones_cat (n + 1) (x / 2 ^ (n + 1) % 2) (x % 2 ^ (n + 1)) (mod-lt x (pow_pos (n + 1))))
    ∙ ap ones (sym (mod-pow-add x 1 (n + 1)) ∙ ap (λ (k : ℕ). x % 2 ^ k) (omega_one n))

-- the size of a set of servers 1 to n is the number of its bits
pub size_ones : (n x : ℕ) → within_servers n x ≡ true → count (member x) n ≡ ones x
size_ones n x w = count_ones n x (within_even n x w) ∙ ap ones (mod-eq_of_lt (within_lt n x w))

-- ---- a set changed at one server of 1 to n

pub put_within : (n x s : ℕ) (b : Bool) → within_servers n x ≡ true → 1 ≤ s → s ≤ n → within_servers n (put_of x s b) ≡ true
put_within n x s b w low high =
    members_within n (put_of x s b)
    (λ t h. upd_elim (λ (d : Bool). d ≡ true → (1 ≤ t) × (t ≤ n)) (member x) s b t (λ e i. (omega arith, omega arith))
    (λ e i. within_members n x t w i) (ap (λ (f : ℕ → Bool). f t) (sym (member_put x s b)) ∙ h))
