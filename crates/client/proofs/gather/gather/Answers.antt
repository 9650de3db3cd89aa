use mathlib.Core.Path.{◌≡◌, refl, sym, ◌∙◌, ap, subst}
use mathlib.Core.List.{List}
use Prim.Native.Nat.{ℕ, suc, ◌+◌, ◌-◌, ◌≤◌}
use native.Mathlib.Nat.{zero-mul}
use native.Mathlib.Omega.{arith}
use lib.ListN.{length, drop, length-take}
use lib.Seq.{take-nil}
use Rattle.config.specs.declared.Config.{Config}
use Rattle.laws.specs.Bytes.{joined}
use Rattle.protocol.specs.Number.{present}
use Rattle.client.specs.Servers.{sent_by}
use Rattle.client.specs.inner.Gather.{GatherPost, GatherPre, PickPost, bytes_at, lowest}
use Rattle.client.proofs.Gathering.{gathered_all, gathered_more}
use Rattle.client.proofs.gather.gather.Invariants.{Now}
use Rattle.client.proofs.gather.gather.Goals as goal

none_yet : (cfg : Config) (sent : ℕ) (es numbers packed : List ℕ) → GatherPost cfg (lowest cfg es sent 0) numbers numbers packed packed 0
unfolding present joined
none_yet cfg sent es numbers packed =
    subst (λ (ps : List (ℕ × List ℕ)). GatherPost cfg ps numbers numbers packed packed 0) (sym (take-nil cfg.k))
    (record {
      count = refl;
      numbered = refl;
      joint = ap (λ (n : ℕ). drop n packed) (sym (zero-mul cfg.e));
      long = sym (zero-mul cfg.e);
    })

module _ {cfg : Config} {sent : ℕ} {es numbers₀ packed₀ numbers packed : List ℕ} {found s : ℕ} where
  still : GatherPre cfg sent es numbers₀ packed₀ → Now cfg sent es numbers₀ packed₀ numbers packed found s → GatherPre cfg sent es numbers packed
  still g n =
      record {
        valid = g.valid;
        within = g.within;
        elements = g.elements;
        enough = g.enough;
        numbers_room = omega (arith, g.numbers_room, n.same_numbers);
        packed_room = omega (arith, g.packed_room, n.same-packed);
      }

  few : Now cfg sent es numbers₀ packed₀ numbers packed found s → found ≤ cfg.k
  few n = omega (arith, n.done.count, length-take cfg.k (present s (sent_by (bytes_at cfg es) sent)))

pub loop-s-init : goal.loop-s-init
loop-s-init c =
    record {
      done = none_yet c.args.cfg _ _ _ _;
      high = omega arith;
      same_numbers = refl;
      same-packed = refl;
    }

pub pick-found-requires : goal.pick-found-requires
pick-found-requires c =
    let s = c in
    let now = c.loop-s.invariant in
    record {
      all = still s.requires now;
      low = omega arith;
      high = omega (arith, c.loop-s-test.true);
      found_high = few now;
    }

-- and server s
one_more : {cfg : Config} {sent : ℕ} {es numbers₀ packed₀ numbers packed numbers' packed' : List ℕ} {found found' s : ℕ} → 1 ≤ s → s ≤ cfg.n
    → GatherPre cfg sent es numbers₀ packed₀ → Now cfg sent es numbers₀ packed₀ numbers packed found (s - 1)
    → PickPost cfg sent s found es numbers numbers' packed packed' found' → length numbers' ≡ length numbers → length packed' ≡ length packed
    → Now cfg sent es numbers₀ packed₀ numbers' packed' found' s
one_more {cfg} {sent} {es} {numbers₀} {packed₀} {numbers} {packed} {numbers'} {packed'} {found} {found'} {s} low high g n p a b =
    let i : ℕ = s - 1 in
    let e : s ≡ suc i = omega arith in
    record {
      done =
          rw e (gathered_more cfg sent es numbers₀ packed₀ i found found' numbers numbers' packed packed' n.done (rw e at p) g.elements (omega arith) g.numbers_room);
      high = high;
      same_numbers = a ∙ n.same_numbers;
      same-packed = b ∙ n.same-packed;
    }

pub loop-s-preserved : goal.loop-s-preserved
loop-s-preserved c =
    let p = c.pick-found in
    let e : c.loop-s.s + 1 - 1 ≡ c.loop-s.s = omega arith in
    rw e
    (one_more c.loop-s.auto.s c.loop-s-test.true c.requires c.loop-s.invariant p.ensures p.auto.numbers p.auto.packed)

pub returns-2 : goal.returns-2
returns-2 c =
    let p = c.pick-found in
    let n = one_more c.loop-s.auto.s c.loop-s-test.true c.requires c.loop-s.invariant p.ensures p.auto.numbers p.auto.packed in
    gathered_all c.args.cfg c.args.sent c.args.elements.now (omega arith) c.requires.enough n.done
