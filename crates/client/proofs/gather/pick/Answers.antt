use mathlib.Core.Path.{◌≡◌, sym, ◌∙◌}
use mathlib.Core.Bool.{true, false, ◌&&◌, and-false}
use mathlib.Core.List.{List}
use Prim.Native.Nat.{ℕ, ◌+◌, ◌-◌, ◌*◌, ◌≤◌, ◌<◌}
use native.Mathlib.Omega.{arith}
use borrow.Author.Tests.{le-ltb, lt-ltb, not-true, not-false}
use lib.Dec.{ltb}
use lib.ListN.{set}
use Rattle.laws.specs.Parts.{over, part}
use Rattle.laws.proofs.Parts.{part_fits}
use Rattle.config.specs.declared.Config.{Config}
use Rattle.client.specs.Servers.{member}
use Rattle.client.specs.inner.Gather.{PickPost, PickPre}
use Rattle.config.proofs.Sizes.{board_small, elements_small}
use Rattle.client.proofs.gather.pick.Goals as goal

module _ (cfg : Config) (sent s found : ℕ) (es numbers packed : List ℕ) where
  passed_over : (ltb found cfg.k && member sent s) ≡ false → PickPost cfg sent s found es numbers numbers packed packed found
  passed_over h = record { count = rw h; numbered = rw h; joint = rw h }

  picked : (packed' : List ℕ) → found < cfg.k → member sent s ≡ true → packed' ≡ over (found * cfg.e) cfg.e (part cfg.e (s - 1) es) packed
      → PickPost cfg sent s found es numbers (set numbers found s) packed packed' (found + 1)
  picked packed' few is e =
      let h : (ltb found cfg.k && member sent s) ≡ true = rw (lt-ltb found cfg.k few, is) in
      record { count = rw h; numbered = rw h; joint = rw h e }

-- the places of the element, before and after
module _ {cfg : Config} {sent s found : ℕ} {es numbers packed : List ℕ} (p : PickPre cfg sent s found es numbers packed) where
  from : (s - 1) * cfg.e + cfg.e ≤ cfg.n * cfg.e
  from = let within : s - 1 < cfg.n = omega (arith, p.low, p.high) in part_fits (s - 1) cfg.n cfg.e within

  to : found < cfg.k → found * cfg.e + cfg.e ≤ cfg.k * cfg.e
  to few = part_fits found cfg.k cfg.e few

pub returns-then-cfg-found : goal.returns-then-cfg-found
returns-then-cfg-found c = let a = c.args in
    passed_over a.cfg a.sent a.s a.found a.elements.now a.numbers.now a.packed.now (rw (le-ltb a.found a.cfg.k c.if-cfg-found.true))

pub returns-then-not-has : goal.returns-then-not-has
returns-then-not-has c = let a = c.args in
    passed_over a.cfg a.sent a.s a.found a.elements.now a.numbers.now a.packed.now
    (rw (sym c.has.ensures ∙ not-true _ c.if-not-has.true-raw) (and-false (ltb a.found a.cfg.k)))

pub overflow_mul-s : goal.overflow_mul-s
overflow_mul-s c = let s = c in
    record { fits = omega (arith, from s.requires, elements_small s.args.cfg s.requires.all.valid) }

pub overflow_mul-found : goal.overflow_mul-found
overflow_mul-found c = let s = c in
    record { fits = omega (arith, to s.requires c.if-cfg-found.false, board_small s.args.cfg s.requires.all.valid) }

pub place-requires : goal.place-requires
place-requires c = let s = c in
    record {
      within_src = omega (arith, from s.requires, s.requires.all.elements);
      within_dst = omega (arith, to s.requires c.if-cfg-found.false, s.requires.all.packed_room);
    }

pub returns : goal.returns
returns c = let h = c in
    picked _ _ _ _ _ _ _ _ h.if-cfg-found.false (sym h.has.ensures ∙ not-false _ c.if-not-has.false-raw) c.place.ensures
