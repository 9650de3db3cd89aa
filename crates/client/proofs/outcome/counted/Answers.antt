use mathlib.Core.Path.{◌≡◌, ap, ap₂, ◌∙◌}
use mathlib.Core.List.{List}
use Prim.Native.Nat.{ℕ, ◌-◌}
use lib.ListN.{set}
use borrow.Author.Tests.{not-true, not-false}
use Rattle.client.specs.declared.State.{State}
use Rattle.client.specs.inner.Outcome.{counted_of}
use Rattle.client.proofs.Owned.{sixteen_places}
use Rattle.client.proofs.outcome.counted.Goals as goal

pub returns-then-not-h : goal.returns-then-not-h
unfolding counted_of
returns-then-not-h c =
    let s = c in
    record { state = c.in_phase-after.ensures ∙ rw (not-true s.args.h.present c.if-not-h.true); sixteen = sixteen_places s.args.x _ s.well_formed.0 }

pub returns : goal.returns
unfolding counted_of
returns c =
    let d = c in
    let s = d in
    let kept = d.in_phase-after.ensures in
    let there = not-false s.args.h.present c.if-not-h.false in
    let lengths : set d.in_phase-after.result.lengths (c.number.result - 1) s.args.h.length ≡ (counted_of s.args.x s.args.phase s.args.h).lengths =
    rw there (ap₂ (λ (l : List ℕ) (k : ℕ). set l (k - 1) s.args.h.length) (ap (λ (y : State). y.lengths) kept) c.number.ensures) in
    record {
      state =
          λ i. record {
            me = (kept i).me;
            operation = (kept i).operation;
            phase = (kept i).phase;
            length = (kept i).length;
            lengths = lengths i;
          };
      sixteen = sixteen_places s.args.x _ s.well_formed.0;
    }
