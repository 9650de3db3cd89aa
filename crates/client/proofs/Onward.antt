-- The protocol's client on an awaited answer: of kind 9 it asks again; any other is counted, and it waits, or has enough and goes on. Of any
-- boards and elements. Assumes nothing.
use mathlib.Core.Path.{◌≡◌, refl, sym, subst}
use mathlib.Core.Bool.{Bool, true, false, cond}
use mathlib.Core.Option.{Option, none, some}
use mathlib.Core.List.{List}
use Prim.Native.Nat.{ℕ, ◌+◌, ◌≤◌, ◌<◌}
use borrow.Author.Tests.{ltb-false, ltb-true}
use lib.Dec.{ltb}
use Rattle.config.specs.declared.Config.{Config}
use Rattle.tag.specs.declared.Tag.{Tag}
use Rattle.record.specs.Message.{Message}
use Rattle.protocol.specs.Client.{Client, Moved, Phase, idle, asking, pre_writing, finalising_write, finalising_read, down, ask_again, asked, awaited, client_step, counted, counting, end_read, ends, enough, enough_to_read, highest_number, is_cleared, next_tag, receives, send_pre_writes, send_queries, send_read_finalises, send_write_finalises, settle, settling, spent, stays, written}
use Rattle.protocol.proofs.Basics.{cond_elim}
use Rattle.protocol.proofs.Judged.{Reads, awaits_it, cleared_reads}

module _ {Value Element : Type 0} (encode : Value → ℕ → Element) (decode : List (ℕ × Element) → Value) (cfg : Config) (c o : ℕ) where
  -- the phase has the answers that it waits for
  abbrev pub enough_in : Phase Value Element → Bool
  enough_in idle = false
  enough_in (asking b t cs) = enough cfg cs
  enough_in (pre_writing t cs) = enough cfg cs
  enough_in (finalising_write t cs) = enough cfg cs
  enough_in (finalising_read t cs es) = enough_to_read cfg cs es
  enough_in down = false

  -- what the client does then
  abbrev pub onward : Phase Value Element → Moved Value Element
  onward idle = stays (record { operation = o; phase = idle })
  onward (asking b t cs) = asked encode cfg c o b t
  onward (pre_writing t cs) = send_write_finalises cfg c o t
  onward (finalising_write t cs) = ends o (written t)
  onward (finalising_read t cs es) = end_read decode cfg o t es
  onward down = stays (record { operation = o; phase = down })

  pub settling_is : (p : Phase Value Element) → settling encode decode cfg c o p ≡ cond (enough_in p) (onward p) (stays (record { operation = o; phase = p }))
  unfolding settling
  settling_is idle = refl
  settling_is (asking b t cs) = refl
  settling_is (pre_writing t cs) = refl
  settling_is (finalising_write t cs) = refl
  settling_is (finalising_read t cs es) = refl
  settling_is down = refl

  -- the end of asking: a read, a write, a write that is spent
  pub asked_elim : (P : Moved Value Element → Type 0) (b : Option Value) (t : Tag) → P (send_read_finalises cfg c o t)
      → ((v : Value) → P (send_pre_writes encode cfg c o v (next_tag t c))) → ((v : Value) → b ≡ some v → highest_number ≤ t.number → P (ends o spent))
      → P (asked encode cfg c o b t)
  unfolding asked
  asked_elim P none t reads writes spends = reads
  asked_elim P (some v) t reads writes spends =
      cond_elim P (ltb t.number highest_number) (send_pre_writes encode cfg c o v (next_tag t c)) (ends o spent) (λ h. writes v)
      (λ h. spends v refl (ltb-false t.number highest_number h))

-- asking again: the queries, or a read that is spent
pub again_elim : {Value Element : Type 0} (cfg : Config) (c o : ℕ) (P : Moved Value Element → Type 0) → (o < highest_number → P (send_queries cfg c (o + 1) none))
    → (highest_number ≤ o → P (ends o spent)) → P (ask_again cfg c o)
unfolding ask_again
again_elim cfg c o P asks spends =
    cond_elim P (ltb o highest_number) (send_queries cfg c (o + 1) none) (ends o spent) (λ h. asks (ltb-true o highest_number h))
    (λ h. spends (ltb-false o highest_number h))

module _ {Value Element : Type 0} (key : Tag → ℕ) (encode : Value → ℕ → Element) (decode : List (ℕ × Element) → Value) (cfg : Config) (c : ℕ) (m : Message Element)
    (x : Client Value Element) (due : awaited key x m ≡ true) where
  abbrev later : Phase Value Element
  later = counting key x.phase m

  -- of kind 9
  pub step_again : is_cleared m.kind ≡ true → client_step key encode decode cfg c x m ≡ ask_again cfg c x.operation
  unfolding client_step receives
  step_again told = rw (due, told)

  -- of another kind
  pub step_is : is_cleared m.kind ≡ false → client_step key encode decode cfg c x m
      ≡ cond (enough_in encode decode cfg c x.operation (counting key x.phase m)) (onward encode decode cfg c x.operation (counting key x.phase m))
      (stays (record { operation = x.operation; phase = counting key x.phase m }))
  unfolding client_step receives settle counted
  step_is other = rw (due, other) (settling_is encode decode cfg c x.operation (counting key x.phase m))

  -- what holds of a reader that asks again, of a client that goes on, and of one that waits, holds of an awaited answer's step
  pub step_elim : (P : Moved Value Element → Type 0)
      → (is_cleared m.kind ≡ true → Reads key m x.phase → P (ask_again cfg c x.operation))
      → (enough_in encode decode cfg c x.operation (counting key x.phase m) ≡ true → P (onward encode decode cfg c x.operation (counting key x.phase m)))
      → P (stays (record { operation = x.operation; phase = counting key x.phase m })) → P (client_step key encode decode cfg c x m)
  step_elim P again goes waits = go (is_cleared m.kind) refl
    where
      go : (b : Bool) → is_cleared m.kind ≡ b → P (client_step key encode decode cfg c x m)
      go true told = subst P (sym (step_again told)) (again told (cleared_reads key m told x.phase (awaits_it key m x due)))
      go false other =
          subst P (sym (step_is other))
          (cond_elim P (enough_in encode decode cfg c x.operation later) (onward encode decode cfg c x.operation later) (stays (record { operation = x.operation; phase = later })) goes (λ h. waits))
