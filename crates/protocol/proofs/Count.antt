-- The first half of a client's step: an awaited answer is counted, and the phase stays good.
use Prim.Native.Nat.{ℕ, ◌≤◌}
use mathlib.Core.Path.{◌≡◌, sym, ◌∙◌, ap, subst}
use mathlib.Core.Bool.{Bool, true, false}
use mathlib.Core.Option.{Option, some}
use borrow.Author.Tests.{eqb-true}
use native.Mathlib.Omega.{arith}
use Rattle.record.specs.Message.{Message}
use Rattle.protocol.specs.Number.{upd}
use Rattle.protocol.specs.Tags.{higher}
use Rattle.protocol.specs.Client.{Phase, idle, asking, pre_writing, finalising_write, finalising_read, down, is_cleared, awaits, counting}
use Rattle.protocol.proofs.Basics.{upd_elim, some-injective}
use Rattle.protocol.proofs.Judged.{first_judged, judged_other, of-tag}
use Rattle.protocol.proofs.Store.{higher_left, higher_right, higher_elim}
use Rattle.protocol.proofs.World.{Setting, Ghost, Knowledge, Known, GoodMessage, GoodPhase}

module _ (S : Setting) where
  open S use {Value, Element, key, encode}

  -- a fact at each counted server, and at one more
  counted_more : (cs : ℕ → Bool) (P : ℕ → Type 0) (s : ℕ) → P s → ((z : ℕ) → cs z ≡ true → P z) → (z : ℕ) → upd cs s true z ≡ true → P z
  counted_more cs P s new old z =
      upd_elim (λ (b : Bool). b ≡ true → P z) cs s true z (λ e h. subst P (sym e) new) (λ n. old z)

  module _ {k : Knowledge S} (g : Ghost S) (m : Message Element) (good : GoodMessage S k m) (current : m.operation ≡ k.number m.client) (other : is_cleared m.kind ≡ false) where
    pub phase_counted : (ph : Phase Value Element) → awaits key ph m ≡ true → GoodPhase S k g m.client ph → GoodPhase S k g m.client (counting key ph m)
    unfolding awaits counting
    phase_counted idle h a = a
    phase_counted (asking b t cs) h a =
        record {
          current = a.current;
          is_board = a.is_board;
          known = higher_elim key (Known S k) t m.tag a.known good.known;
          start = omega (arith, a.start, higher_left key t m.tag);
          answers = counted_more cs (λ (s : ℕ). k.base m.client s ≤ key (higher key t m.tag)) m.server
              (omega (arith, good.query (judged_other m.kind 2 (first_judged 2 cs m h) other) current, higher_right key t m.tag))
              (λ s e. omega (arith, a.answers s e, higher_left key t m.tag));
          earlier = a.earlier;
        }
    phase_counted (pre_writing t cs) h a = a
    phase_counted (finalising_write t cs) h a =
        let parts = of-tag key 6 cs m t h in
        record {
          board = a.board;
          current = a.current;
          answers = counted_more cs (λ (s : ℕ). key t ≤ k.high s) m.server
              (omega (arith, good.write_finalised (judged_other m.kind 6 (first_judged 6 cs m parts.0) other), eqb-true (key m.tag) (key t) parts.1))
              a.answers;
        }
    phase_counted (finalising_read t cs es) h a =
        let parts = of-tag key 8 cs m t h in
        let tags : key m.tag ≡ key t = eqb-true (key m.tag) (key t) parts.1 in
        let boards : good.known.board ≡ a.known.board = some-injective (sym good.known.is ∙ ap k.bytes tags ∙ a.known.is) in
        record {
          current = a.current;
          answers = counted_more cs (λ (s : ℕ). key t ≤ k.high s) m.server
              (omega (arith, good.read_finalised (judged_other m.kind 8 (first_judged 8 cs m parts.0) other), tags))
              a.answers;
          known = a.known;
          elements = λ s e.
              upd_elim (λ (o : Option Element). o ≡ some e → e ≡ encode a.known.board s) es m.server m.element s
              (λ i j. good.element e j ∙ ap (λ (v : Value). encode v m.server) boards ∙ ap (encode a.known.board) (sym i))
              (λ n. a.elements s e);
        }
    phase_counted down h a = a
