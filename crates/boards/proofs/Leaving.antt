-- The boards of the messages after an event: those of the messages that stay, and the named board of what is sent. Assumes nothing.
use Prim.Native.Nat.{ℕ, ◌-◌, ◌≤◌}
use mathlib.Core.Path.{◌≡◌, refl, sym, ap₂, ◌∙◌}
use mathlib.Core.Bool.{true, false, true≢false}
use mathlib.Core.List.{List, ◌++◌}
use native.Mathlib.Omega.{arith}
use lib.ListN.{length, replicate}
use Rattle.events.specs.declared.Turn.{Turn as OneTurn}
use Rattle.flight.specs.Owners.{FilledPost, RemovedPost}
use Rattle.parties.specs.Acts.{is_refusal}
use Rattle.boards.specs.declared.Call.{Call}
use Rattle.boards.specs.declared.Rig.{Rig}
use Rattle.boards.specs.inner.Named.{LeavePost, LeavePre, SettlePost, SettlePre, removes}
use Rattle.boards.specs.inner.Outcome.{put_at}

module _ (count code p : ℕ) (owners : List ℕ) where
  pub leaves_none : removes code ≡ false → LeavePost count code p owners count owners
  leaves_none e = record { count_is = rw e; kept = rw e; long = refl }

  pub leaves_one : (after : List ℕ) → LeavePre count code p owners → removes code ≡ true → RemovedPost count p owners after
      → LeavePost count code p owners (count - 1) after
  leaves_one after pre e post = record { count_is = rw e; kept = rw e (post.left (pre.there e) pre.few); long = post.long }

module _ (r : Rig) (i : ℕ) (a : Call) (p : ℕ) (t : OneTurn) (owners : List ℕ) where
  -- a refusal
  pub settled_refused : is_refusal t.answer ≡ true → SettlePost r i a p t owners (record { answer = t.answer; rig = r }) owners
  settled_refused e =
      record {
        answer = refl;
        long = refl;
        held = λ _. (refl, refl);
        rig = λ f. absurd (true≢false (sym e ∙ f));
        kept = λ f. absurd (true≢false (sym e ∙ f));
      }

  module _ (pre : SettlePre r.count p a t owners) (accepted : is_refusal t.answer ≡ false) where
    pub leave_pre : LeavePre r.count a.code p owners
    leave_pre = record { few = pre.few; there = pre.there accepted }

    -- another
    pub settled : {n : ℕ} {mid owners' : List ℕ} {z : Rig} → LeavePost r.count a.code p owners n mid → FilledPost n t.rig.count a.board mid owners'
        → z ≡ put_at r i t.rig t.rig.count → SettlePost r i a p t owners (record { answer = t.answer; rig = z }) owners'
    settled {n} {mid} {owners'} {z} leave fill put =
        let low : n ≤ t.rig.count = omega (arith, leave.count_is, pre.more accepted) in
        let high : t.rig.count ≤ length mid = omega (arith, leave.long, pre.room accepted) in
        record {
          answer = refl;
          long = fill.long ∙ leave.long;
          held = λ f. absurd (true≢false (sym f ∙ accepted));
          rig = λ _. put;
          kept = λ _.
              fill.filled low high
              ∙ ap₂ (λ xs k. xs ++ replicate (t.rig.count - k) a.board) leave.kept leave.count_is;
        }
