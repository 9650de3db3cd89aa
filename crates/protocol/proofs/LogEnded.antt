-- An operation ends: the record stays good.
use Prim.Native.Nat.{ℕ, ◌+◌, ◌≤◌, ◌<◌}
use mathlib.Core.Path.{◌≡◌, refl, sym, ◌∙◌, ap, subst}
use mathlib.Core.Logic.{◌⊎◌, inl, inr, ⊎_elim, ⊎_map}
use mathlib.Core.Option.{Option, none, some}
use native.Mathlib.Omega.{arith}
use Rattle.tag.specs.declared.Tag.{Tag}
use Rattle.protocol.specs.Number.{upd}
use Rattle.tag.specs.Tag.{start as starting_tag}
use Rattle.protocol.specs.Board.{Answer}
use Rattle.protocol.proofs.Basics.{upd_elim, upd_other, none≢some, some-injective}
use Rattle.protocol.proofs.Quorum.{Quorum}
use Rattle.protocol.proofs.World.{Setting, Ghost, Knowledge, Wrote, How, GoodLog}
use Rattle.protocol.proofs.Monotone.{Below, known_up, high_up, how_kept}

module _ (S : Setting) where
  open S use {Value, cfg, key}

  -- the record with the end of the operation begun at p
  abbrev pub ended : Ghost S → ℕ → ℕ × Answer Value → Ghost S
  ended g p x =
      record {
        begun = g.begun;
        chosen = g.chosen;
        ending = upd g.ending p (some x);
        latest = g.latest;
        base = g.base;
        bytes = g.bytes;
      }

  -- what is asked of the end, by an answer, of the operation of client c begun at p
  pub record End (k : Knowledge S) (g : Ghost S) (p c : ℕ) (board : Option Value) (answer : Answer Value) : Type 0 where
    pub begun : g.begun p ≡ some (c, board)
    pub unended : g.ending p ≡ none
    pub how : How S g p board answer
    pub quorum : (t : Tag) → g.chosen p ≡ some t → Quorum cfg (λ s. key t ≤ k.high s)

  module _ {k k' : Knowledge S} {g : Ghost S} {now : ℕ} {p c : ℕ} {board : Option Value} {answer : Answer Value} (up : Below S k k') (same : (n : ℕ) → k'.bytes n ≡ k.bytes n) (end : End k g p c board answer) (a : GoodLog S k g now) where
    abbrev after : Ghost S
    after = ended g p (now, answer)

    -- the ends are those of before, and this one
    ending_cases : (r : ℕ) (x : ℕ × Answer Value) → upd g.ending p (some (now, answer)) r ≡ some x → ((r ≡ p) × ((now, answer) ≡ x)) ⊎ (g.ending r ≡ some x)
    ending_cases r x =
        upd_elim (λ y. y ≡ some x → ((r ≡ p) × ((now, answer) ≡ x)) ⊎ (g.ending r ≡ some x)) g.ending p (some (now, answer)) r (λ e f. inl (e, some-injective f)) (λ n f. inr f)

    older : (r : ℕ) (x : ℕ × Answer Value) → g.ending r ≡ some x → upd g.ending p (some (now, answer)) r ≡ some x
    older r x e =
        upd_other g.ending p (some (now, answer)) r (λ h. none≢some (sym end.unended ∙ ap g.ending (sym h) ∙ e)) ∙ e

    abbrev wrote_before : {r : ℕ} {v : Value} {t : Tag} → Wrote S after r v t → Wrote S g r v t
    wrote_before w = record { client = w.client; begun = w.begun; chosen = w.chosen }

    wrote_after : {r : ℕ} {v : Value} {t : Tag} → Wrote S g r v t → Wrote S after r v t
    wrote_after w = record { client = w.client; begun = w.begun; chosen = w.chosen }

    how_after : (r : ℕ) (b : Option Value) (w : Answer Value) → How S g r b w → How S after r b w
    how_after r = how_kept S g after r refl (λ n v i. i)

    -- nothing with a tag has begun after now
    none_after : (r : ℕ) (t : Tag) → g.chosen r ≡ some t → now < r → ⊥
    none_after r t e h =
        let x = a.chosen_begun r t e in
        omega (arith, a.begun_before r x.0 x.1)

    how_now : (r : ℕ) (x : ℕ × Answer Value) → (r ≡ p) × ((now, answer) ≡ x) → (d : ℕ) (b : Option Value) → g.begun r ≡ some (d, b) → How S after r b x.1
    how_now r x h d b e =
        let board-is : board ≡ b = ap (λ (y : ℕ × Option Value). y.1) (some-injective (sym end.begun ∙ ap g.begun (sym h.0) ∙ e)) in
        subst (λ (y : ℕ × Answer Value). How S after r b y.1) h.1
        (subst (λ (y : Option Value). How S after r y answer) board-is
        (subst (λ (y : ℕ). How S after y board answer) (sym h.0) (how_after p board answer end.how)))

    once : (q r : ℕ) (x y : ℕ × Answer Value) → upd g.ending p (some (now, answer)) q ≡ some x → upd g.ending p (some (now, answer)) r ≡ some y → x.0 ≡ y.0 → q ≡ r
    once q r x y e f same_place =
        ⊎_elim
        (λ h. ⊎_elim (λ i. h.0 ∙ sym i.0) (λ i. absurd (omega (arith, a.ending_before r y i, ap (λ (z : ℕ × Answer Value). z.0) h.1))) (ending_cases r y f))
        (λ h. ⊎_elim (λ i. absurd (omega (arith, a.ending_before q x h, ap (λ (z : ℕ × Answer Value). z.0) i.1))) (λ i. a.ending_once q r x y h i same_place) (ending_cases r y f))
        (ending_cases q x e)

    pub log_ended : GoodLog S k' after (now + 1)
    log_ended =
        record {
          begun_before = λ r x e. omega (arith, a.begun_before r x e);
          latest_before = λ d. omega (arith, a.latest_before d);
          past = λ r d b e. ⊎_map (λ h. h) (λ h. (h.0, older r h.0 h.1, h.2)) (a.past r d b e);
          chosen_begun = a.chosen_begun;
          chosen_known = λ r t e. known_up S up (a.chosen_known r t e);
          wrote_bytes = λ r v t w. same (key t) ∙ a.wrote_bytes r v t (wrote_before w);
          wrote_client = λ r v t w. a.wrote_client r v t (wrote_before w);
          wrote_above = λ r v t w. a.wrote_above r v t (wrote_before w);
          wrote_once = λ q r v w t u i j. a.wrote_once q r v w t u (wrote_before i) (wrote_before j);
          ending_after = λ r x e.
              ⊎_elim (λ h. subst (λ (y : ℕ × Answer Value). r < y.0) h.1 (omega (arith, h.0, a.begun_before p (c, board) end.begun))) (a.ending_after r x)
              (ending_cases r x e);
          ending_before = λ r x e.
              ⊎_elim (λ h. subst (λ (y : ℕ × Answer Value). y.0 < now + 1) h.1 (omega arith)) (λ h. omega (arith, a.ending_before r x h)) (ending_cases r x e);
          ending_how = λ r x e d b f.
              ⊎_elim (λ h. how_now r x h d b f) (λ h. how_after r b x.1 (a.ending_how r x h d b f)) (ending_cases r x e);
          ending_once = once;
          ending_quorum = λ r x t e f.
              ⊎_elim (λ h. high_up S up (key t) (end.quorum t (ap g.chosen (sym h.0) ∙ f))) (λ h. high_up S up (key t) (a.ending_quorum r x t h f)) (ending_cases r x e);
          start_bytes = same (key starting_tag) ∙ a.start_bytes;
          boards = λ n v e. a.boards n v (sym (same n) ∙ e);
          source = λ n v e. ⊎_map (λ h. h) (λ h. (h.0, h.1, wrote_after h.2, h.3)) (a.source n v (sym (same n) ∙ e));
          in_time = λ q r x t u e f h i.
              ⊎_elim (λ j. absurd (none_after r u i (subst (λ (y : ℕ × Answer Value). y.0 < r) (sym j.1) h))) (λ j. a.in_time q r x t u j f h i) (ending_cases q x e);
          in_time_write = λ q r x t u v e f h i.
              ⊎_elim (λ j. absurd (none_after r u i.chosen (subst (λ (y : ℕ × Answer Value). y.0 < r) (sym j.1) h))) (λ j. a.in_time_write q r x t u v j f h (wrote_before i)) (ending_cases q x e);
        }
