-- A phase counts each server once: counting an answer that is awaited adds its server, which is not counted yet, and no other, and the
-- same answer handed over again is not awaited, whatever the step did. Of any client of the protocol. Assumes nothing.
use mathlib.Core.Path.{◌≡◌, refl, ap, ap₂, ◌∙◌}
use mathlib.Core.Bool.{Bool, true, false, cond, and-false}
use mathlib.Core.List.{List}
use Prim.Native.Nat.{ℕ, zero, suc, ◌+◌, ◌≤◌, ◌<◌}
use native.Mathlib.Decide.{ℕ_discrete}
use native.Mathlib.Omega.{arith}
use borrow.Author.Tests.{ne_eqb}
use lib.Dec.{eqb}
use Rattle.config.specs.declared.Config.{Config}
use Rattle.tag.specs.declared.Tag.{Tag}
use Rattle.record.specs.Message.{Message}
use Rattle.protocol.specs.Client.{Client, Moved, Phase, idle, asking, pre_writing, finalising_write, finalising_read, down, ask_again, awaits, awaited, counting, send_pre_writes, send_read_finalises, send_write_finalises, end_read, ends, stays, client_step}
use Rattle.protocol.specs.Number.{count, nobody, upd}
use Rattle.protocol.proofs.Basics.{upd_other, upd_same}
use Rattle.client.specs.Quorum.{counted_in}
use Rattle.protocol.proofs.Judged.{awaits_it, first_judged, first_new, not_twice, of_operation, of-tag, other_kind}
use Rattle.client.proofs.Onward.{again_elim, asked_elim, onward, step_elim}

module _ {Value Element : Type 0} (key : Tag → ℕ) (m : Message Element) where
  -- an awaited answer is of a server not counted yet
  pub new : (p : Phase Value Element) → awaits key p m ≡ true → counted_in p m.server ≡ false
  unfolding awaits
  new idle h = refl
  new (asking b t cs) h = first_new 2 cs m h
  new (pre_writing t cs) h = first_new 4 cs m (of-tag key 4 cs m t h).0
  new (finalising_write t cs) h = first_new 6 cs m (of-tag key 6 cs m t h).0
  new (finalising_read t cs es) h = first_new 8 cs m (of-tag key 8 cs m t h).0
  new down h = refl

  -- counting an awaited answer adds its server, and no other
  pub adds : (p : Phase Value Element) → awaits key p m ≡ true → counted_in (counting key p m) ≡ upd (counted_in p) m.server true
  unfolding awaits counting
  adds idle h = cc
  adds (asking b t cs) h = refl
  adds (pre_writing t cs) h = refl
  adds (finalising_write t cs) h = refl
  adds (finalising_read t cs es) h = refl
  adds down h = cc

-- ---- a set with one more of 1 to n is one larger

above : (n s : ℕ) (f : ℕ → Bool) (b : Bool) → n < s → count (upd f s b) n ≡ count f n
unfolding count
above zero s f b h = refl
above (suc n) s f b h =
    ap₂ (λ (k : ℕ) (c : Bool). k + cond c 1 0) (above n s f b (omega arith)) (upd_other f s b (suc n) (λ e. omega arith))

one_larger : (n s : ℕ) (f : ℕ → Bool) → f s ≡ false → 1 ≤ s → s ≤ n → count (upd f s true) n ≡ count f n + 1
unfolding count
one_larger zero s f h low high = absurd (omega arith)
one_larger (suc n) s f h low high = elim (ℕ_discrete (suc n) s) as (λ _. count (upd f s true) (suc n) ≡ count f (suc n) + 1) [
  | yes e ↦
      let in' : upd f s true (suc n) ≡ true = ap (upd f s true) e ∙ upd_same f s true in
      let out : f (suc n) ≡ false = ap f e ∙ h in
      rw (in', out) (omega (arith, above n s f true (omega arith)))
  | no d ↦ rw (upd_other f s true (suc n) d) (omega (arith, one_larger n s f h low (omega arith)))
]

-- so a phase that goes on counts one server more
pub counts_one : {Value Element : Type 0} (key : Tag → ℕ) (m : Message Element) (n : ℕ) (p : Phase Value Element) → awaits key p m ≡ true → 1 ≤ m.server
    → m.server ≤ n → count (counted_in (counting key p m)) n ≡ count (counted_in p) n + 1
counts_one key m n p h low high =
    ap (λ (f : ℕ → Bool). count f n) (adds key m p h) ∙ one_larger n m.server (counted_in p) (new key m p h) low high

-- ---- the same answer again

module _ {Value Element : Type 0} (key : Tag → ℕ) (encode : Value → ℕ → Element) (decode : List (ℕ × Element) → Value) (cfg : Config) (c : ℕ) (m : Message Element) where
  -- it is not awaited where it is counted
  counted_not : (p : Phase Value Element) → awaits key (counting key p m) m ≡ false
  unfolding awaits counting
  counted_not idle = refl
  counted_not (asking b t cs) = not_twice 2 cs m
  counted_not (pre_writing t cs) = rw (not_twice 4 cs m)
  counted_not (finalising_write t cs) = rw (not_twice 6 cs m)
  counted_not (finalising_read t cs es) = rw (not_twice 8 cs m)
  counted_not down = refl

  abbrev NotAwaited : Moved Value Element → Type 0
  NotAwaited r = awaits key r.client.phase m ≡ false

  -- nor in the phase after that
  onward_not : (o : ℕ) (p : Phase Value Element) → awaits key p m ≡ true → NotAwaited (onward encode decode cfg c o (counting key p m))
  unfolding awaits counting send_read_finalises send_pre_writes send_write_finalises end_read ends stays
  onward_not o idle h = refl
  onward_not o (asking b t cs) h =
      let k = first_judged 2 cs m h in
      asked_elim encode decode cfg c o NotAwaited b _ (rw (other_kind 8 nobody m 2 k (λ e. omega arith))) (λ v. rw (other_kind 4 nobody m 2 k (λ e. omega arith))) (λ v i l. refl)
  onward_not o (pre_writing t cs) h =
      rw (other_kind 6 nobody m 4 (first_judged 4 cs m (of-tag key 4 cs m t h).0) (λ e. omega arith))
  onward_not o (finalising_write t cs) h = refl
  onward_not o (finalising_read t cs es) h = refl
  onward_not o down h = refl

  abbrev NotAgain : Moved Value Element → Type 0
  NotAgain r = awaited key r.client m ≡ false

  -- nor where the client asks again: it has another operation number then, or is idle
  asks_not : (x : Client Value Element) → awaited key x m ≡ true → NotAgain (ask_again cfg c x.operation)
  unfolding awaited awaits ends
  asks_not x h =
      again_elim cfg c x.operation NotAgain (λ below. rw (ne_eqb m.operation (x.operation + 1) (λ e. omega (arith, of_operation key m x h))))
      (λ last. and-false (eqb m.operation x.operation))

  -- an answer that was taken is not awaited any more
  pub again : (x : Client Value Element) → awaited key x m ≡ true → NotAgain (client_step key encode decode cfg c x m)
  unfolding awaited stays
  again x h =
      step_elim key encode decode cfg c m x h NotAgain (λ told reads. asks_not x h)
      (λ e. out (onward encode decode cfg c x.operation (counting key x.phase m)).client (onward_not x.operation x.phase (awaits_it key m x h)))
      (out (record { operation = x.operation; phase = counting key x.phase m }) (counted_not x.phase))
    where
      out : (y : Client Value Element) → awaits key y.phase m ≡ false → awaited key y m ≡ false
      out y e = rw e (and-false (eqb m.operation y.operation))
