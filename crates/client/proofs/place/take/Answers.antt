use mathlib.Core.Path.{◌≡◌, ◌∙◌}
use mathlib.Core.Bool.{true, false}
use mathlib.Core.List.{List}
use Prim.Native.Nat.{ℕ, ◌+◌, ◌-◌, ◌*◌, ◌≤◌, ◌<◌}
use native.Mathlib.Omega.{arith}
use borrow.Author.Tests.{not-true, not-false}
use lib.ListN.{take, drop}
use Rattle.laws.specs.Parts.{over}
use Rattle.laws.proofs.Parts.{part_fits}
use Rattle.config.specs.declared.Config.{Config}
use Rattle.config.specs.Number.{server_number}
use Rattle.config.proofs.Questions.{within_high, within_low}
use Rattle.record.specs.declared.Header.{Header}
use Rattle.record.specs.Calls.{with_element}
use Rattle.client.specs.State.{placed, placed_at}
use Rattle.client.specs.inner.Place.{TakePre}
use Rattle.config.proofs.Sizes.{elements_small}
use Rattle.client.proofs.place.take.Goals as goal

module _ (cfg : Config) (h : Header) (message es : List ℕ) where
  none-taken : h.present ≡ false → es ≡ placed cfg (with_element cfg h message) es
  unfolding with_element placed_at
  none-taken e = rw e

  one-taken : {r : ℕ} {es' : List ℕ} → h.present ≡ true → r ≡ server_number h.server
      → es' ≡ over ((r - 1) * cfg.e) cfg.e (take cfg.e (drop 16 message)) es → es' ≡ placed cfg (with_element cfg h message) es
  unfolding with_element placed_at
  one-taken e s p = p ∙ rw (e, s)

-- the place of a server of 1 to N
place : {cfg : Config} {h : Header} {message es : List ℕ} → TakePre cfg h message es → {r : ℕ} → r ≡ server_number h.server
    → (1 ≤ r) × ((r - 1) * cfg.e + cfg.e ≤ cfg.n * cfg.e)
place {cfg} {h} p {r} e =
    let low = within_low 1 cfg.n (server_number h.server) p.server in
    let below : r - 1 < cfg.n = omega (arith, within_high 1 cfg.n (server_number h.server) p.server) in
    (omega arith, part_fits (r - 1) cfg.n cfg.e below)

pub returns-then-not-h : goal.returns-then-not-h
returns-then-not-h c = none-taken _ _ _ _ (not-true _ c.if-not-h.true)

pub overflow_sub-s : goal.overflow_sub-s
overflow_sub-s c = (place c.requires c.number-s.ensures).0

pub overflow_mul-s : goal.overflow_mul-s
overflow_mul-s c = let s = c in
    record { fits = omega (arith, (place s.requires c.number-s.ensures).1, elements_small s.args.cfg s.requires.valid) }

pub place-requires : goal.place-requires
place-requires c = let s = c in
    record {
      within_src = omega (arith, s.requires.message_length, s.requires.valid.e_high);
      within_dst = omega (arith, (place s.requires c.number-s.ensures).1, s.requires.elements-length);
    }

pub returns : goal.returns
returns c = let a = c.args in
    one-taken a.cfg a.h a.message.now a.elements.now (not-false _ c.if-not-h.false) c.number-s.ensures
    c.place.ensures
