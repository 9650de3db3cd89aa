-- An operation ends only on answers of at least q distinct servers in its last phase, but for a read that ends spent. The servers counted are
-- nobody where a phase begins, and each awaited answer that is counted adds its own server; a write ends written or spent, and a read with
-- a board, only where those and the last answer's are at least q of 1 to N. A read ends spent only on a kind 9, at the last operation
-- number. Of any client of the protocol. Assumes nothing.
use mathlib.Core.Logic.{◌⊎◌, inl, inr}
use mathlib.Core.Path.{◌≡◌, refl, sym, ap, subst}
use mathlib.Core.Bool.{Bool, true, false}
use mathlib.Core.Option.{Option, some}
use mathlib.Core.List.{List}
use Prim.Native.Nat.{ℕ, ◌≤◌}
use native.Mathlib.Omega.{arith}
use borrow.Author.Tests.{le-leb, leb-true}
use lib.Dec.{leb}
use lib.ListN.{length, take}
use Rattle.laws.proofs.Bools.{and_left, and_right}
use Rattle.config.specs.declared.Config.{Config}
use Rattle.config.specs.Config.{quorum_of}
use Rattle.tag.specs.declared.Tag.{Tag}
use Rattle.record.specs.Message.{Message}
use Rattle.protocol.specs.Client.{Client, Ended, Moved, Phase, idle, asking, pre_writing, finalising_write, finalising_read, down, nothing, written, spent, read, ask_again, awaits, awaited, counting, enough, enough_to_read, highest_number, is_cleared, send_pre_writes, send_read_finalises, send_write_finalises, end_read, ends, stays, client_step, begin_client}
use Rattle.protocol.specs.Number.{count, nobody, present, upd}
use Rattle.protocol.specs.Tags.{higher}
use Rattle.client.specs.Quorum.{counted_after, counted_in, phase_number}
use Rattle.protocol.proofs.Judged.{Reads, awaits_it, cleared_reads}
use Rattle.client.proofs.Onward.{again_elim, asked_elim, enough_in, onward, step_elim, step_is}

-- an operation begins with nobody counted
pub begins_empty : {Value Element : Type 0} (cfg : Config) (c : ℕ) (x : Client Value Element) (b : Option Value) → counted_in (begin_client cfg c x b).client.phase ≡ nobody
unfolding begin_client
begins_empty cfg c x b = refl

module _ {Value Element : Type 0} (key : Tag → ℕ) (encode : Value → ℕ → Element) (decode : List (ℕ × Element) → Value) (cfg : Config) (c : ℕ) (m : Message Element) where
  -- the servers counted with that of the answer are at least q
  abbrev pub Enough : (ℕ → Bool) → Type 0
  Enough cs = quorum_of cfg ≤ count (upd cs m.server true) cfg.n

  -- a write may end spent while asking, with the highest tag's number the last; a read while finalising, of a kind 9, with its operation
  -- number the last
  abbrev pub SpentWriting : Phase Value Element → Type 0
  SpentWriting p =
      (v : Value) × (t : Tag) × (cs : ℕ → Bool) × (p ≡ asking (some v) t cs) × Enough cs × (highest_number ≤ (higher key t m.tag).number)

  abbrev pub SpentReading : ℕ → Phase Value Element → Type 0
  SpentReading o p = (is_cleared m.kind ≡ true) × Reads key m p × (highest_number ≤ o)

  -- how a move may have ended operation o in a phase: a write in its last phase; spent; a read in its last phase, with at least k elements
  abbrev pub Fits : ℕ → Phase Value Element → Ended Value → Type 0
  Fits o p nothing = Unit {0}
  Fits o p (written t) = (cs : ℕ → Bool) × (p ≡ finalising_write t cs) × Enough cs
  Fits o p spent = SpentWriting p ⊎ SpentReading o p
  Fits o p (read t v) =
      (cs : ℕ → Bool) × (es : ℕ → Option Element) × (p ≡ finalising_read t cs es) × Enough cs
      × (cfg.k ≤ length (present cfg.n (upd es m.server m.element)))
      × (v ≡ decode (take cfg.k (present cfg.n (upd es m.server m.element))))

  many : (cs : ℕ → Bool) → enough cfg cs ≡ true → quorum_of cfg ≤ count cs cfg.n
  unfolding enough
  many cs h = leb-true (quorum_of cfg) (count cs cfg.n) h

  onward_fits : (o : ℕ) (p : Phase Value Element) → enough_in encode decode cfg c o (counting key p m) ≡ true → Fits o p (onward encode decode cfg c o (counting key p m)).ended
  unfolding counting enough_to_read send_read_finalises send_pre_writes send_write_finalises end_read ends stays
  onward_fits o idle h = tt
  onward_fits o (asking b t cs) h =
      asked_elim encode decode cfg c o (λ (r : Moved Value Element). Fits o (asking b t cs) r.ended) b (higher key t m.tag) tt (λ v. tt)
      (λ v i l. inl (v, t, cs, ap (λ (d : Option Value). asking d t cs) i, many (upd cs m.server true) h, l))
  onward_fits o (pre_writing t cs) h = tt
  onward_fits o (finalising_write t cs) h = (cs, refl, many (upd cs m.server true) h)
  onward_fits o (finalising_read t cs es) h =
      let few = leb cfg.k (length (present cfg.n (upd es m.server m.element))) in (
        cs,
        es,
        refl,
        many (upd cs m.server true) (and_left (enough cfg (upd cs m.server true)) few h),
        leb-true cfg.k (length (present cfg.n (upd es m.server m.element))) (and_right (enough cfg (upd cs m.server true)) few h),
        refl,
      )
  onward_fits o down h = tt

  -- an answer that is not awaited leaves the client as it was
  pub step_same : (x : Client Value Element) → awaited key x m ≡ false → client_step key encode decode cfg c x m ≡ stays x
  unfolding client_step
  step_same x h = rw h

  again_fits : (o : ℕ) (p : Phase Value Element) → is_cleared m.kind ≡ true → Reads key m p → Fits o p (ask_again {Element = Element} cfg c o).ended
  unfolding ends
  again_fits o p told reads =
      again_elim cfg c o (λ (r : Moved Value Element). Fits o p r.ended) (λ below. tt) (λ last. inr (told, reads, last))

  -- a step ends an operation only so
  pub step_fits : (x : Client Value Element) → Fits x.operation x.phase (client_step key encode decode cfg c x m).ended
  unfolding stays
  step_fits x = go (awaited key x m) refl
    where
      go : (b : Bool) → awaited key x m ≡ b → Fits x.operation x.phase (client_step key encode decode cfg c x m).ended
      go true h =
          step_elim key encode decode cfg c m x h (λ (r : Moved Value Element). Fits x.operation x.phase r.ended) (again_fits x.operation x.phase)
          (onward_fits x.operation x.phase) tt
      go false h = rw (step_same x h) tt

  -- ---- what is counted after a step

  abbrev After : Phase Value Element → Moved Value Element → Type 0
  After p r = counted_in r.client.phase ≡ counted_after p m.server r.client.phase

  onward_after : (o : ℕ) (p : Phase Value Element) → awaits key p m ≡ true → After p (onward encode decode cfg c o (counting key p m))
  unfolding awaits counting send_read_finalises send_pre_writes send_write_finalises end_read ends stays
  onward_after o idle h = cc
  onward_after o (asking b t cs) h = asked_elim encode decode cfg c o (After (asking b t cs)) b (higher key t m.tag) refl (λ v. refl) (λ v i l. refl)
  onward_after o (pre_writing t cs) h = refl
  onward_after o (finalising_write t cs) h = refl
  onward_after o (finalising_read t cs es) h = refl
  onward_after o down h = cc

  waits_after : (p : Phase Value Element) → awaits key p m ≡ true → counted_in (counting key p m) ≡ counted_after p m.server (counting key p m)
  unfolding awaits counting
  waits_after idle h = cc
  waits_after (asking b t cs) h = refl
  waits_after (pre_writing t cs) h = refl
  waits_after (finalising_write t cs) h = refl
  waits_after (finalising_read t cs es) h = refl
  waits_after down h = cc

  again_after : (o : ℕ) (p : Phase Value Element) → Reads key m p → After p (ask_again cfg c o)
  unfolding ends
  again_after o p reads =
      subst (λ (q : Phase Value Element). After q (ask_again cfg c o)) (sym reads.phase)
      (again_elim cfg c o (After (finalising_read reads.tag reads.counted reads.elements)) (λ below. refl) (λ last. refl))

  -- an answer that is awaited is counted where the phase goes on; another phase begins with nobody counted
  pub step_after : (x : Client Value Element) → awaited key x m ≡ true
      → counted_in (client_step key encode decode cfg c x m).client.phase ≡ counted_after x.phase m.server (client_step key encode decode cfg c x m).client.phase
  unfolding stays
  step_after x h =
      let a = awaits_it key m x h in
      step_elim key encode decode cfg c m x h (After x.phase) (λ told. again_after x.operation x.phase) (λ e. onward_after x.operation x.phase a) (waits_after x.phase a)

  -- ---- a client that has enough goes on

  -- it is not told of an element cleared while asking
  asking_not : (b : Option Value) (t : Tag) (cs : ℕ → Bool) → is_cleared m.kind ≡ true → awaits key (asking b t cs) m ≡ true → ⊥
  asking_not b t cs told h = let z : ◌≡◌ {A = ℕ} 1 4 = ap phase_number (cleared_reads key m told (asking b t cs) h).phase in omega arith

  -- with at least q servers counted, that of an awaited answer among them, it asks no more
  pub step_on : (o : ℕ) (b : Option Value) (t : Tag) (cs : ℕ → Bool) → awaited key (record { operation = o; phase = asking b t cs }) m ≡ true → Enough cs
      → phase_number (client_step key encode decode cfg c (record { operation = o; phase = asking b t cs }) m).client.phase ≡ 1 → ⊥
  unfolding counting enough send_read_finalises send_pre_writes ends
  step_on o b t cs h q = go (is_cleared m.kind) refl
    where
      x : Client Value Element
      x = record { operation = o; phase = asking b t cs }

      go : (a : Bool) → is_cleared m.kind ≡ a → phase_number (client_step key encode decode cfg c x m).client.phase ≡ 1 → ⊥
      go true told = absurd (asking_not b t cs told (awaits_it key m x h))
      go false other =
          rw (step_is key encode decode cfg c m x h other, le-leb (quorum_of cfg) (count (upd cs m.server true) cfg.n) q)
          (asked_elim encode decode cfg c o (λ (r : Moved Value Element). phase_number r.client.phase ≡ 1 → ⊥) b (higher key t m.tag) (λ e. omega arith)
          (λ v e. omega arith) (λ v i l e. omega arith))
