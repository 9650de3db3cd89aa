-- A client's step sends at most N messages. Assumes nothing.
use Prim.Native.Nat.{ℕ, ◌≤◌}
use mathlib.Core.Option.{Option, none, some}
use mathlib.Core.List.{List}
use native.Mathlib.Omega.{arith}
use lib.Dec.{ltb}
use lib.ListN.{length}
use Rattle.config.specs.declared.Config.{Config}
use Rattle.tag.specs.declared.Tag.{Tag}
use Rattle.record.specs.declared.Kind.{Kind}
use Rattle.record.specs.Message.{Message}
use Rattle.protocol.specs.Client.{Client, Moved, Phase, idle, asking, pre_writing, finalising_write, finalising_read, down, ask_again, asked, awaited, client_step, counted, end_read, ends, enough, enough_to_read, highest_number, is_cleared, next_tag, receives, send_each, send_pre_writes, send_queries, send_read_finalises, send_write_finalises, settle, settling, spent, stays}
use Rattle.protocol.proofs.Basics.{cond_elim, length_to_each}

module _ {Value Element : Type 0} (key : Tag → ℕ) (encode : Value → ℕ → Element) (decode : List (ℕ × Element) → Value) (cfg : Config) (c : ℕ) where
  abbrev Few : Moved Value Element → Type 0
  Few y = length y.sends ≤ cfg.n

  each_few : (kind : Kind) (o : ℕ) (t : Tag) (e : ℕ → Option Element) → length (send_each cfg kind c o t e) ≤ cfg.n
  unfolding send_each
  each_few kind o t e =
      omega (arith, length_to_each {A = Message Element} cfg.n (λ (s : ℕ). record { kind = kind; client = c; server = s; operation = o; tag = t; element = e s }))

  asked_few : (o : ℕ) (b : Option Value) (t : Tag) → Few (asked encode cfg c o b t)
  unfolding asked send_read_finalises send_pre_writes ends
  asked_few o none t = each_few _ _ _ _
  asked_few o (some v) t =
      cond_elim Few (ltb t.number highest_number) (send_pre_writes encode cfg c o v (next_tag t c)) (ends o spent)
      (λ _. each_few _ _ _ _) (λ _. omega arith)

  settled_few : (o : ℕ) (p : Phase Value Element) → Few (settling encode decode cfg c o p)
  unfolding settling stays ends end_read send_write_finalises
  settled_few o idle = omega arith
  settled_few o (asking b t cs) = cond_elim Few (enough cfg cs) _ _ (λ _. asked_few o b t) (λ _. omega arith)
  settled_few o (pre_writing t cs) = cond_elim Few (enough cfg cs) _ _ (λ _. each_few _ _ _ _) (λ _. omega arith)
  settled_few o (finalising_write t cs) = cond_elim Few (enough cfg cs) _ _ (λ _. omega arith) (λ _. omega arith)
  settled_few o (finalising_read t cs es) = cond_elim Few (enough_to_read cfg cs es) _ _ (λ _. omega arith) (λ _. omega arith)
  settled_few o down = omega arith

  again_few : (o : ℕ) → Few (ask_again cfg c o)
  unfolding ask_again ends
  again_few o =
      cond_elim Few (ltb o highest_number) _ _ (λ _. each_few _ _ _ _) (λ _. omega arith)

  pub step_few : (x : Client Value Element) (m : Message Element) → Few (client_step key encode decode cfg c x m)
  unfolding client_step receives settle counted stays
  step_few x m =
      cond_elim Few (awaited key x m) (receives key encode decode cfg c x m) (stays x)
      (λ _. cond_elim Few (is_cleared m.kind) _ _ (λ _. again_few x.operation) (λ _. settled_few x.operation (counted key x m).phase))
      (λ _. omega arith)
