-- The order of tags is that of their keys, so it is a strict total order; (0, 0) is the least allowed tag, and a tag with a
-- higher number is above. Assumes nothing.
use mathlib.Core.Path.{◌≡◌, refl, sym, ap, ◌∙◌}
use mathlib.Core.Bool.{Bool, true, false, cond, true≢false}
use Prim.Native.Nat.{ℕ, ◌≤◌, ◌<◌}
use native.Mathlib.Omega.{arith}
use native.Mathlib.Decide.{ℕ_discrete, dec_lt}
use borrow.Author.Tests.{eq-eqb, ne_eqb, lt-ltb, le-ltb, ltb-true, ltb-false, eqb-true, leb-true}
use lib.Dec.{eqb, leb, ltb}
use Rattle.laws.proofs.Bools.{and_left, and_right}
use Rattle.config.specs.declared.Config.{Config}
use Rattle.config.specs.Config.{Valid, rank}
use Rattle.tag.specs.declared.Tag.{Tag}
use Rattle.tag.specs.Tag.{above, allowed, key, same, start}

-- a client number that a byte holds
abbrev pub Small : Tag → Type 0
Small t = t.client < 256

-- same tells equal tags, and only those
pub same_one : (a b : Tag) → same a b ≡ true → a ≡ b
same_one a b h =
    let n = eqb-true a.number b.number (and_left (eqb a.number b.number) (eqb a.client b.client) h) in
    let c = eqb-true a.client b.client (and_right (eqb a.number b.number) (eqb a.client b.client) h) in
    λ i. record { number = n i; client = c i }

pub same_self : (a : Tag) → same a a ≡ true
same_self a = rw (eq-eqb a.number a.number refl, eq-eqb a.client a.client refl)

-- tests of two pairs that are in the same order
pub one_test : (x y u v : ℕ) → (x < y → u < v) → (y ≤ x → v ≤ u) → ltb x y ≡ ltb u v
one_test x y u v f g = elim (dec_lt x y) as (λ _. ltb x y ≡ ltb u v) [
  | yes l ↦ lt-ltb x y l ∙ sym (lt-ltb u v (f l))
  | no n ↦ let l : y ≤ x = omega arith in le-ltb x y l ∙ sym (le-ltb u v (g l))
]

module _ (cfg : Config) (valid : Valid cfg) where
  module _ (a b : Tag) (sa : Small a) (sb : Small b) where
    -- above is above in key
    pub above_ltb : above cfg a b ≡ ltb (key cfg b) (key cfg a)
    unfolding key
    above_ltb =
        let ra = valid.ranks_high a.client in
        let rb = valid.ranks_high b.client in
        elim (ℕ_discrete a.number b.number) as (λ _. above cfg a b ≡ ltb (key cfg b) (key cfg a)) [
          | no n ↦ rw (ne_eqb a.number b.number n) (one_test b.number a.number (key cfg b) (key cfg a) (λ l. omega (arith, l, ra, rb, sa, sb)) (λ l. omega (arith, l, n, ra, rb, sa, sb)))
          | yes e ↦ rw (eq-eqb a.number b.number e) (elim (ℕ_discrete (rank cfg a.client) (rank cfg b.client)) as (λ _. cond (eqb (rank cfg a.client) (rank cfg b.client)) (ltb b.client a.client) (ltb (rank cfg b.client) (rank cfg a.client)) ≡ ltb (key cfg b) (key cfg a)) [
            | no n ↦ rw (ne_eqb (rank cfg a.client) (rank cfg b.client) n) (one_test (rank cfg b.client) (rank cfg a.client) (key cfg b) (key cfg a) (λ l. omega (arith, e, l, sa, sb)) (λ l. omega (arith, e, l, n, sa, sb)))
            | yes f ↦ rw (eq-eqb (rank cfg a.client) (rank cfg b.client) f) (one_test b.client a.client (key cfg b) (key cfg a) (λ l. omega (arith, e, f, l)) (λ l. omega (arith, e, f, l)))
          ])
        ]

    -- one key, one tag
    pub key_one : key cfg a ≡ key cfg b → a ≡ b
    unfolding key
    key_one h =
        let ra = valid.ranks_high a.client in
        let rb = valid.ranks_high b.client in
        let n : a.number ≡ b.number = omega (arith, h, ra, rb, sa, sb) in
        let c : a.client ≡ b.client = omega (arith, h, ra, rb, sa, sb) in
        λ i. record { number = n i; client = c i }

    -- and the tests of the code are those of the keys
    pub same_eqb : same a b ≡ eqb (key cfg a) (key cfg b)
    same_eqb = go (same a b) refl
      where
        go : (x : Bool) → same a b ≡ x → x ≡ eqb (key cfg a) (key cfg b)
        go true h = sym (eq-eqb (key cfg a) (key cfg b) (ap (key cfg) (same_one a b h)))
        go false h =
            sym (ne_eqb (key cfg a) (key cfg b)
            (λ e. true≢false (sym (same_self a) ∙ ap (λ (t : Tag). same a t) (key_one e) ∙ h)))

    pub above_key : above cfg a b ≡ true → key cfg b < key cfg a
    above_key h = ltb-true (key cfg b) (key cfg a) (sym above_ltb ∙ h)

    pub key_above : key cfg b < key cfg a → above cfg a b ≡ true
    key_above l = above_ltb ∙ lt-ltb (key cfg b) (key cfg a) l

    pub not_above : above cfg a b ≡ false → key cfg a ≤ key cfg b
    not_above h = ltb-false (key cfg b) (key cfg a) (sym above_ltb ∙ h)

  -- the order is strict and total
  pub above_not_self : (a : Tag) → Small a → above cfg a a ≡ true → ⊥
  above_not_self a s h = omega (arith, above_key a a s s h)

  pub above_trans : (a b c : Tag) → Small a → Small b → Small c → above cfg a b ≡ true → above cfg b c ≡ true → above cfg a c ≡ true
  above_trans a b c sa sb sc p q = key_above a c sa sc (omega (arith, above_key a b sa sb p, above_key b c sb sc q))

  pub above_total : (a b : Tag) → Small a → Small b → (a ≡ b → ⊥) → above cfg b a ≡ false → above cfg a b ≡ true
  above_total a b sa sb ne h =
      let le : key cfg b ≤ key cfg a = not_above b a sb sa h in
      let differ : key cfg a ≡ key cfg b → ⊥ = λ e. ne (key_one a b sa sb e) in
      key_above a b sa sb (omega arith)

-- an allowed tag's client number is at most the number of clients
pub allowed_client : (clients : ℕ) (t : Tag) → allowed clients t ≡ true → t.client ≤ clients
allowed_client clients t h = elim (ℕ_discrete t.number 0) as (λ _. t.client ≤ clients) [
  | yes e ↦ omega (arith, eqb-true t.client 0 (rw (eq-eqb t.number 0 e) at h))
  | no n ↦
      leb-true t.client clients (and_right (leb 1 t.client) (leb t.client clients) (rw (ne_eqb t.number 0 n) at h))
]

-- so where it is allowed in a configuration, it is a byte
pub small : (cfg : Config) → Valid cfg → (t : Tag) → allowed cfg.c t ≡ true → Small t
small cfg valid t h = omega (arith, allowed_client cfg.c t h, valid.c_high)

-- (0, 0) is the least: every other allowed tag is above it
pub start_least : (cfg : Config) (clients : ℕ) (t : Tag) → allowed clients t ≡ true → (t ≡ start → ⊥) → above cfg t start ≡ true
start_least cfg clients t h ne = elim (ℕ_discrete t.number 0) as (λ _. above cfg t start ≡ true) [
  | yes e ↦
      let c : t.client ≡ 0 = eqb-true t.client 0 (rw (eq-eqb t.number 0 e) at h) in
      absurd (ne (λ i. record { number = e i; client = c i }))
  | no n ↦ rw (ne_eqb t.number 0 n) (lt-ltb 0 t.number (omega arith))
]

-- a tag of a higher number is above, whatever the ranks and the clients are
pub number_above : (cfg : Config) (a b : Tag) → b.number < a.number → above cfg a b ≡ true
number_above cfg a b h =
    let differ : a.number ≡ b.number → ⊥ = λ e. omega (arith, h, e) in
    rw (ne_eqb a.number b.number differ) (lt-ltb b.number a.number h)
