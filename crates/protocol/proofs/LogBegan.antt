-- An operation begins: the record stays good.
use Prim.Native.Nat.{ℕ, ◌+◌, ◌≤◌, ◌<◌}
use mathlib.Core.Path.{◌≡◌, refl, sym, ◌∙◌, ap, subst}
use mathlib.Core.Logic.{◌⊎◌, inl, inr, ⊎_elim, ⊎_map}
use mathlib.Core.Option.{Option, some}
use native.Mathlib.Omega.{arith}
use Rattle.tag.specs.declared.Tag.{Tag}
use Rattle.protocol.specs.Number.{upd}
use Rattle.tag.specs.Tag.{start as starting_tag}
use Rattle.protocol.specs.Board.{Answer}
use Rattle.protocol.proofs.Basics.{upd_elim, upd_other, some-injective}
use Rattle.protocol.proofs.World.{Setting, Ghost, Knowledge, Wrote, Idle, GoodLog}
use Rattle.protocol.proofs.Monotone.{Below, known_up, high_up, how_kept}

module _ (S : Setting) where
  open S use {Value, key}

  -- the record with an operation of client c begun at p, where the servers' highest tags are these
  abbrev pub began : Ghost S → ℕ → ℕ → Option Value → (ℕ → ℕ) → Ghost S
  began g p c board high =
      record {
        begun = upd g.begun p (some (c, board));
        chosen = g.chosen;
        ending = g.ending;
        latest = upd g.latest c p;
        base = upd g.base c high;
        bytes = g.bytes;
      }

  module _ {k k' : Knowledge S} {g : Ghost S} {now : ℕ} (c : ℕ) (board : Option Value) (high : ℕ → ℕ) (up : Below S k k') (same : (n : ℕ) → k'.bytes n ≡ k.bytes n) (idle : Idle S g c) (a : GoodLog S k g now) where
    abbrev after : Ghost S
    after = began g now c board high

    -- what is begun is what was, and this
    begun_cases : (r : ℕ) (x : ℕ × Option Value) → upd g.begun now (some (c, board)) r ≡ some x → ((r ≡ now) × ((c, board) ≡ x)) ⊎ (g.begun r ≡ some x)
    begun_cases r x =
        upd_elim (λ y. y ≡ some x → ((r ≡ now) × ((c, board) ≡ x)) ⊎ (g.begun r ≡ some x)) g.begun now (some (c, board)) r (λ e f. inl (e, some-injective f)) (λ n f. inr f)

    -- it stands where nothing stood
    older : (r : ℕ) (x : ℕ × Option Value) → g.begun r ≡ some x → upd g.begun now (some (c, board)) r ≡ some x
    older r x e =
        upd_other g.begun now (some (c, board)) r (λ h. omega (arith, a.begun_before r x e, h)) ∙ e

    unchosen : (r : ℕ) (t : Tag) → r ≡ now → g.chosen r ≡ some t → ⊥
    unchosen r t h e =
        let x = a.chosen_begun r t e in
        omega (arith, a.begun_before r x.0 x.1)

    unended : (r : ℕ) (x : ℕ × Answer Value) → r ≡ now → g.ending r ≡ some x → ⊥
    unended r x h e = omega (arith, a.ending_after r x e, a.ending_before r x e)

    wrote_before : {r : ℕ} {v : Value} {t : Tag} (w : Wrote S after r v t) → (w' : Wrote S g r v t) × (w'.client ≡ w.client)
    wrote_before {r} {v} {t} w =
        ⊎_elim (λ h. absurd (unchosen r t h.0 w.chosen)) (λ h. (record { client = w.client; begun = h; chosen = w.chosen }, refl))
        (begun_cases r (w.client, some v) w.begun)

    wrote_after : {r : ℕ} {v : Value} {t : Tag} → Wrote S g r v t → Wrote S after r v t
    wrote_after {r} {v} w =
        record { client = w.client; begun = older r (w.client, some v) w.begun; chosen = w.chosen }

    -- an operation of a client is its latest, or ended before that began
    past_after : (r d : ℕ) (b : Option Value) → upd g.begun now (some (c, board)) r ≡ some (d, b) → (r ≡ upd g.latest c now d) ⊎ ((x : ℕ × Answer Value) × (g.ending r ≡ some x) × (x.0 < upd g.latest c now d))
    past_after r d b e =
        upd_elim (λ y. (r ≡ y) ⊎ ((x : ℕ × Answer Value) × (g.ending r ≡ some x) × (x.0 < y))) g.latest c now d mine others
      where
        mine : d ≡ c → (r ≡ now) ⊎ ((x : ℕ × Answer Value) × (g.ending r ≡ some x) × (x.0 < now))
        mine h =
            ⊎_elim (λ i. inl i.0)
            (λ i.
            let x = idle.closed r b (subst (λ (y : ℕ). g.begun r ≡ some (y, b)) h i) in
            inr (x.0, x.1, a.ending_before r x.0 x.1))
            (begun_cases r (d, b) e)

        others : (d ≡ c → ⊥) → (r ≡ g.latest d) ⊎ ((x : ℕ × Answer Value) × (g.ending r ≡ some x) × (x.0 < g.latest d))
        others h =
            ⊎_elim (λ i. absurd (h (sym (ap (λ (y : ℕ × Option Value). y.0) i.1)))) (a.past r d b) (begun_cases r (d, b) e)

    pub log_began : GoodLog S k' after (now + 1)
    log_began =
        record {
          begun_before = λ r x e. ⊎_elim (λ h. omega (arith, h.0)) (λ h. omega (arith, a.begun_before r x h)) (begun_cases r x e);
          latest_before = λ d. upd_elim (λ y. y ≤ now + 1) g.latest c now d (λ h. omega arith) (λ h. omega (arith, a.latest_before d));
          past = past_after;
          chosen_begun = λ r t e.
              let x = a.chosen_begun r t e in
              (x.0, older r x.0 x.1);
          chosen_known = λ r t e. known_up S up (a.chosen_known r t e);
          wrote_bytes = λ r v t w. same (key t) ∙ a.wrote_bytes r v t (wrote_before w).0;
          wrote_client = λ r v t w. a.wrote_client r v t (wrote_before w).0 ∙ (wrote_before w).1;
          wrote_above = λ r v t w. a.wrote_above r v t (wrote_before w).0;
          wrote_once = λ q r v w t u i j. a.wrote_once q r v w t u (wrote_before i).0 (wrote_before j).0;
          ending_after = a.ending_after;
          ending_before = λ r x e. omega (arith, a.ending_before r x e);
          ending_how = λ r x e d b f.
              ⊎_elim (λ h. absurd (unended r x h.0 e)) (λ h. how_kept S g after r refl (λ n v i. i) b x.1 (a.ending_how r x e d b h)) (begun_cases r (d, b) f);
          ending_once = a.ending_once;
          ending_quorum = λ r x t e f. high_up S up (key t) (a.ending_quorum r x t e f);
          start_bytes = same (key starting_tag) ∙ a.start_bytes;
          boards = λ n v e. a.boards n v (sym (same n) ∙ e);
          source = λ n v e. ⊎_map (λ h. h) (λ h. (h.0, h.1, wrote_after h.2, h.3)) (a.source n v (sym (same n) ∙ e));
          in_time = a.in_time;
          in_time_write = λ q r x t u v e f h i. a.in_time_write q r x t u v e f h (wrote_before i).0;
        }
