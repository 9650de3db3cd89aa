-- How an answer is judged: as of which kind, 9 as 8 and any other as itself; whether it is the first of its server; and that a kind 9 is awaited only
-- where a read finalises its tag.
use Prim.Native.Nat.{ℕ}
use mathlib.Core.Path.{◌≡◌, refl, sym, ◌∙◌, ap}
use mathlib.Core.Bool.{Bool, true, false, cond, not, ◌&&◌, and-false, false≢true}
use mathlib.Core.Option.{Option}
use native.Mathlib.Omega.{arith}
use lib.Dec.{eqb}
use borrow.Author.Tests.{eqb-true, ne_eqb, not-true}
use Rattle.tag.specs.declared.Tag.{Tag}
use Rattle.record.specs.declared.Kind.{Kind}
use Rattle.record.specs.Message.{Message}
use Rattle.record.specs.Record.{kind_number}
use Rattle.protocol.specs.Client.{Client, Phase, idle, asking, pre_writing, finalising_write, finalising_read, down, is_cleared, judged, is_first, awaits, awaited}
use Rattle.protocol.specs.Number.{upd}
use Rattle.protocol.specs.Tags.{same_key}
use Rattle.protocol.proofs.Basics.{and-true, upd_same}

-- ---- the kind

module _ (kind : Kind) (n : ℕ) (is : judged kind ≡ n) where
  judged_by : (b : Bool) → is_cleared kind ≡ b → cond b 8 (kind_number kind) ≡ n
  judged_by b e = sym (ap (λ (x : Bool). cond x 8 (kind_number kind)) e) ∙ is

  -- 9 is judged as 8, any other as itself
  pub judged_cleared : is_cleared kind ≡ true → 8 ≡ n
  judged_cleared = judged_by true

  pub judged_other : is_cleared kind ≡ false → kind_number kind ≡ n
  judged_other = judged_by false

  -- and so what is judged as of another kind than 8
  pub judged_not_8 : (8 ≡ n → ⊥) → kind_number kind ≡ n
  judged_not_8 differs = go (is_cleared kind) refl
    where
      go : (b : Bool) → is_cleared kind ≡ b → kind_number kind ≡ n
      go true e = absurd (differs (judged_cleared e))
      go false e = judged_other e

-- ---- the first answer of its server

module _ {Element : Type 0} (n : ℕ) (cs : ℕ → Bool) (m : Message Element) where
  first_parts : is_first n cs m ≡ true → (eqb (judged m.kind) n ≡ true) × (not (cs m.server) ≡ true)
  unfolding is_first
  first_parts h = and-true (eqb (judged m.kind) n) (not (cs m.server)) h

  -- it is judged as of its kind, and its server is not counted yet
  pub first_judged : is_first n cs m ≡ true → judged m.kind ≡ n
  first_judged h = eqb-true (judged m.kind) n (first_parts h).0

  pub first_new : is_first n cs m ≡ true → cs m.server ≡ false
  first_new h = not-true (cs m.server) (first_parts h).1

  -- it is of that kind, if that is another than 8
  pub first_kind : (8 ≡ n → ⊥) → is_first n cs m ≡ true → kind_number m.kind ≡ n
  first_kind differs h = judged_not_8 m.kind n (first_judged h) differs

  -- neither an answer of another kind is the first, nor one of a server that is counted
  pub other_kind : (other : ℕ) → judged m.kind ≡ other → (other ≡ n → ⊥) → is_first n cs m ≡ false
  unfolding is_first
  other_kind other e ne = rw (ne_eqb (judged m.kind) n (λ z. ne (sym e ∙ z)))

  pub not_twice : is_first n (upd cs m.server true) m ≡ false
  unfolding is_first
  not_twice = rw (upd_same cs m.server true) (and-false (eqb (judged m.kind) n))

  -- nor is a kind 9 the first of another kind than 8
  cleared_not : is_cleared m.kind ≡ true → (8 ≡ n → ⊥) → is_first n cs m ≡ true → ⊥
  cleared_not nine differs h = differs (judged_cleared m.kind n (first_judged h) nine)

-- ---- an awaited answer

-- where a tag is asked: the first of its kind, and of the tag
pub of-tag : {Element : Type 0} (key : Tag → ℕ) (n : ℕ) (cs : ℕ → Bool) (m : Message Element) (t : Tag) → (is_first n cs m && same_key key m.tag t) ≡ true
    → (is_first n cs m ≡ true) × (same_key key m.tag t ≡ true)
of-tag key n cs m t = and-true (is_first n cs m) (same_key key m.tag t)

module _ {Value Element : Type 0} (key : Tag → ℕ) (m : Message Element) where
  -- it has the client's operation number, and the phase awaits it
  pub of_operation : (x : Client Value Element) → awaited key x m ≡ true → m.operation ≡ x.operation
  unfolding awaited
  of_operation x due = eqb-true m.operation x.operation (and-true (eqb m.operation x.operation) (awaits key x.phase m) due).0

  pub awaits_it : (x : Client Value Element) → awaited key x m ≡ true → awaits key x.phase m ≡ true
  unfolding awaited
  awaits_it x due = (and-true (eqb m.operation x.operation) (awaits key x.phase m) due).1

  -- the phase finalises the read of its tag
  pub record Reads (p : Phase Value Element) : Type 0 where
    pub tag : Tag
    pub counted : ℕ → Bool
    pub elements : ℕ → Option Element
    pub phase : p ≡ finalising_read tag counted elements
    pub same : same_key key m.tag tag ≡ true

  -- of kind 9 it is awaited only there
  pub cleared_reads : is_cleared m.kind ≡ true → (p : Phase Value Element) → awaits key p m ≡ true → Reads p
  unfolding awaits
  cleared_reads nine idle h = absurd (false≢true h)
  cleared_reads nine (asking b t cs) h = absurd (cleared_not 2 cs m nine (λ e. omega arith) h)
  cleared_reads nine (pre_writing t cs) h = absurd (cleared_not 4 cs m nine (λ e. omega arith) (of-tag key 4 cs m t h).0)
  cleared_reads nine (finalising_write t cs) h = absurd (cleared_not 6 cs m nine (λ e. omega arith) (of-tag key 6 cs m t h).0)
  cleared_reads nine (finalising_read t cs es) h = record { tag = t; counted = cs; elements = es; phase = refl; same = (of-tag key 8 cs m t h).1 }
  cleared_reads nine down h = absurd (false≢true h)
