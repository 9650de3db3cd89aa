-- What a client sends to each server is good.
use Prim.Native.Nat.{ℕ, zero, suc, ◌≤◌}
use mathlib.Core.Path.{◌≡◌, sym, subst}
use mathlib.Core.Logic.{⊎_elim}
use mathlib.Core.Option.{Option, some}
use mathlib.Core.List.Memᴰ
use mathlib.Core.List.{Memᴰ}
use Rattle.tag.specs.declared.Tag.{Tag}
use Rattle.record.specs.declared.Kind.{Kind}
use Rattle.record.specs.Message.{Message}
use Rattle.protocol.specs.Number.{to_each}
use Rattle.record.specs.Record.{kind_number}
use Rattle.protocol.specs.Client.{send_each}
use Rattle.protocol.proofs.World.{Setting, Knowledge, Known, GoodMessage}

-- what holds of each holds of all
pub to_each_all : {A : Type 0} (P : A → Type 0) (f : ℕ → A) → ((s : ℕ) → P (f s)) → (n : ℕ) (x : A) → Memᴰ x (to_each n f) → P x
unfolding to_each
to_each_all P f h zero x i = absurd (Memᴰ.not-nil i)
to_each_all P f h (suc n) x i =
    ⊎_elim (to_each_all P f h n x) (λ j. subst P (sym (Memᴰ.eq_of_singleton j)) (h (suc n))) (Memᴰ.append_cases (to_each n f) i)

module _ (S : Setting) where
  open S use {Value, Element, cfg, encode}

  -- a kind that a client sends
  abbrev pub Sent : Kind → Type 0
  Sent kind = (kind_number kind ≡ 2 → ⊥) × (kind_number kind ≡ 6 → ⊥) × (kind_number kind ≡ 8 → ⊥)

  pub sent_good : {k : Knowledge S} (kind : Kind) (c o : ℕ) (t : Tag) (e : ℕ → Option Element) → Sent kind → o ≤ k.number c → (known : Known S k t) → ((s : ℕ) (x : Element) → e s ≡ some x → x ≡ encode known.board s) → (m : Message Element) → Memᴰ m (send_each cfg kind c o t e) → GoodMessage S k m
  unfolding send_each
  sent_good {k} kind c o t e sent begun known element =
      to_each_all (GoodMessage S k) (λ s. record { kind = kind; client = c; server = s; operation = o; tag = t; element = e s })
      (λ s. record {
        begun = begun;
        known = known;
        element = element s;
        query = λ h. absurd (sent.0 h);
        write_finalised = λ h. absurd (sent.1 h);
        read_finalised = λ h. absurd (sent.2 h);
      })
      cfg.n
