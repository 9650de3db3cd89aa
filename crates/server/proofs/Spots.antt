-- Tags that leave a bit each in a number, by their spots: where the bits differ, so do the tags. Assumes nothing.
use Rattle.std.proofs.Common.{◌≡◌, ℕ, zero, suc, ◌+◌, ◌*◌, ◌/◌, ◌%◌, ◌^◌, ◌<◌, ◌≤◌, max, Bool, true, false, not, ◌&&◌, eqb, List, [], ◌∷◌, ◌++◌, length, take, sym, refl, ap, ◌∙◌, true≢false, mod-lt, zero-lt-suc, one-mul, div-one, one-add, arith, lit<, shl_exact, shr-shr, lt-ltb, eq-eqb, ne_eqb, eqb-true, le-leb}
use mathlib.Core.Option.{Option, some}
use borrow.Author.Tests.{not-true}
use Rattle.std.proofs.lemmas.List.{take_all, take_more}
use lib.Bits.{bit_or, or_comm, or_shr, or_step, or_zero_r}
use lib.Pow.{shl-shr}
use Rattle.laws.proofs.Bools.{and_left, and_right}
use Rattle.laws.proofs.Xor.{by_digit}
use Rattle.protocol.proofs.Basics.{or_left, or_right}
use Rattle.tag.specs.declared.Tag.{Tag}
use Rattle.tag.specs.Tag.{allowed, same, start}
use Rattle.tag.proofs.Order.{same_one}
use Rattle.server.specs.inner.Spread.{RisenPost, SpreadPost, over_floor, spot_of}
use Rattle.server.specs.Within.{among, every, once}
use Rattle.server.specs.View.{tag_at}

-- ---- bits

two_pos : zero < 2
two_pos = zero-lt-suc 1

odd_or : (a c : ℕ) → a % 2 ≡ 1 → bit_or a c % 2 ≡ 1
odd_or a c h =
    let m : max (a % 2) (c % 2) ≡ 1 = rw h (by_digit (λ (d : ℕ). max 1 d ≡ 1) refl refl (c % 2) (mod-lt c two_pos)) in
    omega (arith, or_step a c, m)

-- a bit that is set stays set, and one that is put in is set
or_keeps : (x y b : ℕ) → x / 2 ^ b % 2 ≡ 1 → bit_or x y / 2 ^ b % 2 ≡ 1
or_keeps x y b h = ap (λ (n : ℕ). n % 2) (or_shr x y b) ∙ odd_or (x / 2 ^ b) (y / 2 ^ b) h

or_puts : (x b : ℕ) → bit_or x (2 ^ b) / 2 ^ b % 2 ≡ 1
or_puts x b =
    let one : 2 ^ b / 2 ^ b ≡ 1 = ap (λ (n : ℕ). n / 2 ^ b) (sym (one-mul (2 ^ b))) ∙ shl-shr 1 b in
    ap (λ (n : ℕ). n / 2 ^ b % 2) (or_comm x (2 ^ b)) ∙ or_keeps (2 ^ b) x b (ap (λ (n : ℕ). n % 2) one)

-- one that is set already changes nothing
or_held : (b x : ℕ) → x / 2 ^ b % 2 ≡ 1 → bit_or x (2 ^ b) ≡ x
or_held zero x h =
    let odd : x % 2 ≡ 1 = ap (λ (n : ℕ). n % 2) (sym (div-one x)) ∙ h in
    let m : max (x % 2) 1 ≡ 1 = rw odd in
    omega (arith, or_step x 1, or_zero_r (x / 2), m, odd)
or_held (suc b) x h =
    let e : x / 2 / 2 ^ b ≡ x / 2 ^ suc b = shr-shr x 1 b ∙ ap (λ (n : ℕ). x / 2 ^ n) (one-add b) in
    let half : 2 ^ suc b / 2 ≡ 2 ^ b = omega arith in
    let even : 2 ^ suc b % 2 ≡ 0 = omega arith in
    let m : max (x % 2) 0 ≡ x % 2 = by_digit (λ (d : ℕ). max d 0 ≡ d) refl refl (x % 2) (mod-lt x two_pos) in
    let s : bit_or x (2 ^ suc b) ≡ bit_or (x / 2) (2 ^ b) * 2 + max (x % 2) 0 = rw (sym half, sym even) (or_step x (2 ^ suc b)) in
    omega (arith, s, m, or_held b (x / 2) (ap (λ (n : ℕ). n % 2) e ∙ h))

-- the machine's shift
pub one_bit : (s : ℕ) → s < 64 → (1 * 2 ^ s) % 18446744073709551616 ≡ 2 ^ s
one_bit s h = shl_exact {a = 1} 1 s 64 (lit< tt) (omega arith) ∙ one-mul (2 ^ s)

-- ---- a no

pub spread_no : (clients : ℕ) (floor : Option Tag) (ts : List Tag) → SpreadPost clients floor ts false
spread_no clients floor ts =
    record { limits = λ e. absurd (true≢false (sym e)); over = λ e. absurd (true≢false (sym e)); differ = λ e. absurd (true≢false (sym e)) }

-- ---- a tag's bit

abbrev pub marked : ℕ → Tag → Bool
marked x t = eqb (x / 2 ^ spot_of t % 2) 1

abbrev pub mark : ℕ → Tag → ℕ
mark x t = bit_or x (2 ^ spot_of t)

stays_marked : (x y : ℕ) (ts : List Tag) → every (marked x) ts ≡ true → every (marked (bit_or x y)) ts ≡ true
unfolding every
stays_marked x y [] h = refl
stays_marked x y (t ∷ ts) h =
    rw (eq-eqb (bit_or x y / 2 ^ spot_of t % 2) 1 (or_keeps x y (spot_of t) (eqb-true (x / 2 ^ spot_of t % 2) 1 (and_left (marked x t) (every (marked x) ts) h))))
    (stays_marked x y ts (and_right (marked x t) (every (marked x) ts) h))

-- the machine's mark
abbrev pub put : ℕ → ℕ → ℕ
put x s = bit_or x ((1 * 2 ^ s) % 18446744073709551616)

-- a tag whose mark is new is none of those that are marked
other_tag : (x : ℕ) (t u : Tag) → (mark x t ≡ x → ⊥) → marked x u ≡ true → same t u ≡ false
other_tag x t u new h = go (same t u) refl
  where
    go : (b : Bool) → same t u ≡ b → b ≡ false
    go true e =
        let m : marked x t ≡ true = ap (marked x) (same_one t u e) ∙ h in
        absurd (new (or_held (spot_of t) x (eqb-true (x / 2 ^ spot_of t % 2) 1 m)))
    go false e = refl

-- ---- one more tag behind others

every_more : (test : Tag → Bool) (ts : List Tag) (t : Tag) → every test ts ≡ true → test t ≡ true → every test (ts ++ t ∷ []) ≡ true
unfolding every
every_more test [] t h e = rw e refl
every_more test (u ∷ us) t h e = rw (and_left (test u) (every test us) h) (every_more test us t (and_right (test u) (every test us) h) e)

among_more : (u t : Tag) (ts : List Tag) → among u ts ≡ false → same t u ≡ false → among u (ts ++ t ∷ []) ≡ false
unfolding among
among_more u t [] h e = rw e refl
among_more u t (v ∷ vs) h e = rw (or_left (same v u) (among u vs) h) (among_more u t vs (or_right (same v u) (among u vs) h) e)

once_more : (x : ℕ) (t : Tag) (ts : List Tag) → (mark x t ≡ x → ⊥) → every (marked x) ts ≡ true → once ts ≡ true → once (ts ++ t ∷ []) ≡ true
unfolding every among once
once_more x t [] new m o = refl
once_more x t (u ∷ us) new m o =
    rw (among_more u t us (not-true _ (and_left (not (among u us)) (once us) o)) (other_tag x t u new (and_left (marked x u) (every (marked x) us) m)))
    (once_more x t us new (and_right (marked x u) (every (marked x) us) m) (and_right (not (among u us)) (once us) o))

-- ---- tags that are within their limits, above the floor, there once and marked

abbrev pub Seen : ℕ → Option Tag → ℕ → List Tag → Type 0
Seen clients floor x ts =
    (every (allowed clients) ts ≡ true) × (every (over_floor floor) ts ≡ true) × (once ts ≡ true) × (every (marked x) ts ≡ true)

module _ (clients : ℕ) (floor : Option Tag) where
  pub seen_none : Seen clients floor 0 []
  unfolding every once
  seen_none = (refl, refl, refl, refl)

  seen_more : (x : ℕ) (t : Tag) (ts : List Tag) → Seen clients floor x ts → allowed clients t && over_floor floor t ≡ true → (mark x t ≡ x → ⊥)
      → Seen clients floor (mark x t) (ts ++ t ∷ [])
  seen_more x t ts s fits new = (
    every_more (allowed clients) ts t s.0 (and_left (allowed clients t) (over_floor floor t) fits),
    every_more (over_floor floor) ts t s.1 (and_right (allowed clients t) (over_floor floor t) fits),
    once_more x t ts new s.3 s.2,
    every_more (marked (mark x t)) ts t (stays_marked x (2 ^ spot_of t) ts s.3) (eq-eqb (mark x t / 2 ^ spot_of t % 2) 1 (or_puts x (spot_of t))),
  )

  -- the machine's mark of the tag at place i
  pub seen_next : (x n i : ℕ) (ts : List Tag) → i < length ts → Seen clients floor x (take i ts) → n ≡ spot_of (tag_at ts i)
      → allowed clients (tag_at ts i) && over_floor floor (tag_at ts i) ≡ true → (x ≡ put x n → ⊥) → Seen clients floor (put x n) (take (i + 1) ts)
  seen_next x n i ts h s is fits new =
      let t : Tag = tag_at ts i in
      let e : put x n ≡ mark x t = ap (put x) is
      ∙ ap (λ (n : ℕ). bit_or x n) (one_bit (spot_of t) (mod-lt (t.number * 16 + t.client) (zero-lt-suc 63))) in
      rw (take_more ts i start h, e) (seen_more x t (take i ts) s fits (λ z. new (sym (e ∙ z))))

  pub seen_all : (x i : ℕ) (ts : List Tag) → length ts ≤ i → Seen clients floor x (take i ts) → (r : Bool) → SpreadPost clients floor ts r
  seen_all x i ts h s r =
      let all : Seen clients floor x ts = rw take_all at s in
      record { limits = λ _. all.0; over = λ _. all.1; differ = λ _. all.2 }

-- ---- a tag that is packed above a floor's number

module _ (clients low : ℕ) (f t : Tag) (few : clients ≤ 16) (base : f.number * 16 + 16 ≤ low) where
  past_fits : low < t.number * 16 + t.client → 1 ≤ t.client → t.client ≤ clients → allowed clients t && over_floor (some f) t ≡ true
  past_fits h one c =
      let over : f.number < t.number = omega (arith, h, base, c, few) in
      let some_number : t.number ≡ 0 → ⊥ = λ e. omega (arith, over, e) in
      rw (ne_eqb t.number 0 some_number, le-leb 1 t.client one, le-leb t.client clients c, lt-ltb f.number t.number over)

-- ---- the same of each floor whose number is low enough

abbrev pub SeenOver : ℕ → ℕ → ℕ → List Tag → Type 0
SeenOver clients low x ts = (g : Tag) → g.number * 16 + 16 ≤ low → Seen clients (some g) x ts

-- one less than a client's number, as the machine has it: where it is below a limit, the number is within it
below_limit : (c x clients : ℕ) → (x + 1) % 2 ^ 64 ≡ c → x < clients → clients ≤ 16 → (1 ≤ c) × (c ≤ clients)
below_limit c x clients e h few = (omega (arith, e, h, few), omega (arith, e, h, few))

module _ (clients low : ℕ) where
  pub over_next : (x i : ℕ) (ts : List Tag) → i < length ts → SeenOver clients low x (take i ts) → clients ≤ 16
      → (less r : ℕ) → (less + 1) % 2 ^ 64 ≡ (tag_at ts i).client → less < clients → r ≡ (tag_at ts i).number * 16 + (tag_at ts i).client → low < r
      → (x ≡ put x (r % 64) → ⊥) → SeenOver clients low (put x (r % 64)) (take (i + 1) ts)
  over_next x i ts h s few less r lessened below is higher new g base =
      let t : Tag = tag_at ts i in
      let within : (1 ≤ t.client) × (t.client ≤ clients) = below_limit t.client less clients lessened below few in
      let above : low < t.number * 16 + t.client = omega (arith, higher, is) in
      seen_next clients (some g) x (r % 64) i ts h (s g base) (ap (λ (n : ℕ). n % 64) is) (past_fits clients low g t few base above within.0 within.1) new

  pub over_all : (x i : ℕ) (ts : List Tag) → length ts ≤ i → SeenOver clients low x (take i ts) → (r : Bool) → RisenPost clients low ts r
  over_all x i ts h s r g base = seen_all clients (some g) x i ts h (s g base) r
