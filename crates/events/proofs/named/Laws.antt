-- Whom an event names: the place of a number, and the number. Assumes nothing.
use Prim.Native.Nat.{ℕ, ◌+◌, ◌-◌, ◌*◌, ◌≤◌, ◌<◌}
use mathlib.Core.Path.{◌≡◌, refl, sym, ap, subst}
use mathlib.Core.Bool.{Bool, true, false, ◌&&◌}
use mathlib.Core.List.{List}
use native.Mathlib.Omega.{arith}
use borrow.Author.Tests.{eq-eqb, ne_eqb, le-leb, le-ltb, lt-leb, lt-ltb}
use lib.Dec.{leb}
use lib.ListN.{length}
use Rattle.config.specs.declared.Config.{Config}
use Rattle.config.specs.Config.{Valid}
use Rattle.config.specs.Questions.{within}
use Rattle.config.proofs.Questions.{within_high, within_low}
use Rattle.events.specs.declared.Call.{Call}
use Rattle.events.specs.declared.Part.{Part}
use Rattle.events.specs.Questions.{byte_of, named_by, place_for}
use Rattle.events.specs.inner.Part.{Names}

-- a number that is none of 1 to n
pub outside_low : (n q : ℕ) → q < 1 → within 1 n q ≡ false
outside_low n q h = ap (λ b. b && leb q n) (lt-leb 1 q h)

pub outside_high : (n q : ℕ) → 1 ≤ q → n < q → within 1 n q ≡ false
outside_high n q l h = rw (le-leb 1 q l, lt-leb q n h)

-- the place of a number
module _ (n q : ℕ) where
  pub place_none : within 1 n q ≡ false → place_for n q ≡ 0
  place_none h = rw h

  pub place_own : within 1 n q ≡ true → place_for n q ≡ q - 1
  place_own h = rw h

  -- it is one of n
  pub place_below : 1 ≤ n → place_for n q < n
  place_below low = told (within 1 n q) refl
    where
      told : (b : Bool) → within 1 n q ≡ b → place_for n q < n
      told true e = rw e (omega (arith, within_low 1 n q e, within_high 1 n q e))
      told false e = rw e low

  -- and of no other number
  pub place_back : (i : ℕ) → i ≡ place_for n q → within 1 n q ≡ true → i + 1 ≡ q
  place_back i e h = omega (arith, e, place_own h, within_low 1 n q h)

-- the number that an event names
module _ (count code party i offset : ℕ) (messages : List ℕ) where
  pub by_party : (code ≡ 3 → ⊥) → party ≡ named_by count code party i offset messages
  by_party ne = rw (ne_eqb code 3 ne)

  pub by_none : code ≡ 3 → count ≤ i → 0 ≡ named_by count code party i offset messages
  by_none e h = rw (eq-eqb code 3 e, le-ltb i count h)

  -- the buffer has not so many records
  pub by_short : code ≡ 3 → i < count → length messages < 80 * count → 0 ≡ named_by count code party i offset messages
  by_short e h short = rw (eq-eqb code 3 e, lt-ltb i count h, lt-leb (80 * count) (length messages) short)

  pub by_record : code ≡ 3 → i < count → 80 * count ≤ length messages → byte_of i offset messages ≡ named_by count code party i offset messages
  by_record e h fit = rw (eq-eqb code 3 e, lt-ltb i count h, le-leb (80 * count) (length messages) fit)

-- the places of a part that an event names are in use
module _ {cfg : Config} (valid : Valid cfg) {p : Part} {a : Call} {messages : List ℕ} (names : Names cfg p a messages) where
  pub names_server : p.server < cfg.n
  names_server =
      subst (λ i. i < cfg.n) (sym names.server)
      (place_below cfg.n (named_by p.count a.code a.party a.position 2 messages) valid.n_low)

  pub names_client : p.client < cfg.c
  names_client =
      subst (λ i. i < cfg.c) (sym names.client)
      (place_below cfg.c (named_by p.count a.code a.party a.position 1 messages) valid.c_low)
