-- The starting tag's rank; and "With all ranks equal" the order of the clients' tags, and of the starting tag, is document 01's. Assumes nothing.
use mathlib.Core.Path.{◌≡◌, refl, sym, ◌∙◌}
use mathlib.Core.Bool.{cond}
use Prim.Native.Nat.{ℕ, ◌≤◌, ◌<◌}
use native.Mathlib.Omega.{arith}
use native.Mathlib.Decide.{ℕ_discrete, dec_lt}
use borrow.Author.Tests.{eq-eqb, ne_eqb}
use lib.Dec.{eqb, ltb}
use Rattle.config.specs.declared.Config.{Config}
use Rattle.config.specs.Config.{RanksEqual, Valid, rank}
use Rattle.config.proofs.Questions.{within_true}
use Rattle.tag.specs.declared.Tag.{Tag}
use Rattle.tag.specs.Tag.{above, key, plain_above, plain_key, start}
use Rattle.tag.proofs.Order.{Small, above_ltb, one_test}

-- "the starting tag has rank 0"
pub start_rank : (cfg : Config) → rank cfg start.client ≡ 0
unfolding rank
start_rank cfg = refl

-- the order without ranks is that of the key without them
pub plain_ltb : (a b : Tag) → Small a → Small b → plain_above a b ≡ ltb (plain_key b) (plain_key a)
unfolding plain_key
plain_ltb a b sa sb = elim (ℕ_discrete a.number b.number) as (λ _. plain_above a b ≡ ltb (plain_key b) (plain_key a)) [
  | no n ↦ rw (ne_eqb a.number b.number n) (one_test b.number a.number (plain_key b) (plain_key a) (λ l. omega (arith, l, sa, sb)) (λ l. omega (arith, l, n, sa, sb)))
  | yes e ↦ rw (eq-eqb a.number b.number e) (one_test b.client a.client (plain_key b) (plain_key a) (λ l. omega (arith, e, l)) (λ l. omega (arith, e, l)))
]

module _ (cfg : Config) (equal : RanksEqual cfg) where
  -- no client has a higher rank than the next, and 0 has rank 0
  rank_rises : (c d : ℕ) → c ≤ d → d ≤ cfg.c → rank cfg c ≤ rank cfg d
  unfolding rank
  rank_rises c d h high = elim (ℕ_discrete c 0) as (λ _. rank cfg c ≤ rank cfg d) [
    | yes e ↦ rw e (omega arith)
    | no n ↦
        let same : rank cfg c ≡ rank cfg d = equal c d (within_true 1 cfg.c c (omega arith) (omega arith)) (within_true 1 cfg.c d (omega arith) high) in
        omega (arith, same)
  ]

  module _ (a b : Tag) (ha : a.client ≤ cfg.c) (hb : b.client ≤ cfg.c) where
    by_client : (rank cfg a.client ≡ rank cfg b.client → ⊥) → ltb (rank cfg b.client) (rank cfg a.client) ≡ ltb b.client a.client
    by_client n =
        one_test (rank cfg b.client) (rank cfg a.client) b.client a.client
        (λ l. elim (dec_lt b.client a.client) as (λ _. b.client < a.client) [
          | yes s ↦ s
          | no s ↦ absurd (omega (arith, l, rank_rises a.client b.client (omega (arith, s)) hb))
        ])
        (λ l. elim (dec_lt b.client a.client) as (λ _. a.client ≤ b.client) [
          | yes s ↦ absurd (n (omega (arith, l, rank_rises b.client a.client (omega (arith, s)) ha)))
          | no s ↦ omega (arith, s)
        ])

    pub equal_above : above cfg a b ≡ plain_above a b
    equal_above = elim (ℕ_discrete a.number b.number) as (λ _. above cfg a b ≡ plain_above a b) [
      | no n ↦ rw (ne_eqb a.number b.number n)
      | yes e ↦ rw (eq-eqb a.number b.number e) (elim (ℕ_discrete (rank cfg a.client) (rank cfg b.client)) as (λ _. cond (eqb (rank cfg a.client) (rank cfg b.client)) (ltb b.client a.client) (ltb (rank cfg b.client) (rank cfg a.client)) ≡ ltb b.client a.client) [
        | no n ↦ rw (ne_eqb (rank cfg a.client) (rank cfg b.client) n) (by_client n)
        | yes f ↦ rw (eq-eqb (rank cfg a.client) (rank cfg b.client) f)
      ])
    ]

    -- and so are the keys
    pub equal_key : Valid cfg → ltb (key cfg b) (key cfg a) ≡ ltb (plain_key b) (plain_key a)
    equal_key v =
        let sa : Small a = omega (arith, ha, v.c_high) in
        let sb : Small b = omega (arith, hb, v.c_high) in
        sym (above_ltb cfg v a b sa sb) ∙ equal_above ∙ plain_ltb a b sa sb
