-- A read gives up the tag that it took, to ask again: the record stays good. Only claims vanish: no write stands there, and it has not ended.
use Prim.Native.Nat.{ℕ, ◌≤◌}
use mathlib.Core.Path.{◌≡◌, refl, sym, ◌∙◌, ap}
use mathlib.Core.Logic.{⊎_map}
use mathlib.Core.Option.{Option, none, some}
use native.Mathlib.Omega.{arith}
use Rattle.tag.specs.declared.Tag.{Tag}
use Rattle.tag.specs.Tag.{start as starting_tag}
use Rattle.protocol.specs.Number.{upd}
use Rattle.protocol.specs.Board.{Answer}
use Rattle.protocol.proofs.Basics.{upd_elim, upd_other, none≢some, some-injective}
use Rattle.protocol.proofs.World.{Setting, Ghost, Knowledge, Wrote, GoodLog}
use Rattle.protocol.proofs.Monotone.{Below, known_up, high_up, how_kept}

module _ (S : Setting) where
  open S use {Value, key}

  -- the record without the tag of the operation begun at p, and with other bases
  abbrev pub withdrew : Ghost S → ℕ → (ℕ → ℕ → ℕ) → Ghost S
  withdrew g p base =
      record {
        begun = g.begun;
        chosen = upd g.chosen p none;
        ending = g.ending;
        latest = g.latest;
        base = base;
        bytes = g.bytes;
      }

  -- the tags are among those of before
  pub chosen_before : (g : Ghost S) (p r : ℕ) (t : Tag) → upd g.chosen p none r ≡ some t → g.chosen r ≡ some t
  chosen_before g p r t =
      upd_elim (λ x. x ≡ some t → g.chosen r ≡ some t) g.chosen p none r (λ e f. absurd (none≢some f)) (λ n f. f)

  module _ {k k' : Knowledge S} {g : Ghost S} {now now' c : ℕ} (p : ℕ) (base : ℕ → ℕ → ℕ) (up : Below S k k') (same : (n : ℕ) → k'.bytes n ≡ k.bytes n) (later : now ≤ now')
      (begun : g.begun p ≡ some (c, none)) (unended : g.ending p ≡ none) (a : GoodLog S k g now) where
    abbrev after : Ghost S
    after = withdrew g p base

    wrote_before : {r : ℕ} {v : Value} {t : Tag} (w : Wrote S after r v t) → (w' : Wrote S g r v t) × (w'.client ≡ w.client)
    wrote_before {r} {v} {t} w = (record { client = w.client; begun = w.begun; chosen = chosen_before g p r t w.chosen }, refl)

    -- no write stands there
    elsewhere : {r : ℕ} {v : Value} {t : Tag} → Wrote S g r v t → r ≡ p → ⊥
    elsewhere w e = none≢some (ap (λ (x : ℕ × Option Value). x.1) (some-injective (sym begun ∙ ap g.begun (sym e) ∙ w.begun)))

    wrote_after : {r : ℕ} {v : Value} {t : Tag} → Wrote S g r v t → Wrote S after r v t
    wrote_after {r} w =
        record { client = w.client; begun = w.begun; chosen = upd_other g.chosen p none r (elsewhere w) ∙ w.chosen }

    -- what has ended has the tag that it had
    ended_other : (r : ℕ) (x : ℕ × Answer Value) → g.ending r ≡ some x → upd g.chosen p none r ≡ g.chosen r
    ended_other r x e = upd_other g.chosen p none r (λ h. none≢some (sym unended ∙ ap g.ending (sym h) ∙ e))

    pub log_withdrew : GoodLog S k' after now'
    log_withdrew =
        record {
          begun_before = λ r x e. omega (arith, a.begun_before r x e);
          latest_before = λ d. omega (arith, a.latest_before d);
          past = a.past;
          chosen_begun = λ r t e. a.chosen_begun r t (chosen_before g p r t e);
          chosen_known = λ r t e. known_up S up (a.chosen_known r t (chosen_before g p r t e));
          wrote_bytes = λ r v t w. same (key t) ∙ a.wrote_bytes r v t (wrote_before w).0;
          wrote_client = λ r v t w. a.wrote_client r v t (wrote_before w).0 ∙ (wrote_before w).1;
          wrote_above = λ r v t w. a.wrote_above r v t (wrote_before w).0;
          wrote_once = λ q r v w t u i j. a.wrote_once q r v w t u (wrote_before i).0 (wrote_before j).0;
          ending_after = a.ending_after;
          ending_before = λ r x e. omega (arith, a.ending_before r x e);
          ending_how = λ r x e d b f. how_kept S g after r (ended_other r x e) (λ n v i. i) b x.1 (a.ending_how r x e d b f);
          ending_once = a.ending_once;
          ending_quorum = λ r x t e f. high_up S up (key t) (a.ending_quorum r x t e (chosen_before g p r t f));
          start_bytes = same (key starting_tag) ∙ a.start_bytes;
          boards = λ n v e. a.boards n v (sym (same n) ∙ e);
          source = λ n v e. ⊎_map (λ h. h) (λ h. (h.0, h.1, wrote_after h.2, h.3)) (a.source n v (sym (same n) ∙ e));
          in_time = λ q r x t u e f h i. a.in_time q r x t u e (chosen_before g p q t f) h (chosen_before g p r u i);
          in_time_write = λ q r x t u v e f h i. a.in_time_write q r x t u v e (chosen_before g p q t f) h (wrote_before i).0;
        }
