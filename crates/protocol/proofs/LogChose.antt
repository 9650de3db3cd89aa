-- An operation takes its tag: the record stays good.
use Prim.Native.Nat.{ℕ, ◌≤◌, ◌<◌}
use mathlib.Core.Path.{◌≡◌, refl, sym, ◌∙◌, ap, subst}
use mathlib.Core.Logic.{◌⊎◌, inl, inr, ⊎_elim, ⊎_map}
use mathlib.Core.Option.{Option, none, some}
use Rattle.tag.specs.declared.Tag.{Tag}
use Rattle.protocol.specs.Number.{upd}
use Rattle.tag.specs.Tag.{start as starting_tag}
use Rattle.protocol.specs.Board.{Answer}
use Rattle.protocol.proofs.Basics.{upd_elim, upd_same, upd_other, none≢some, some-injective}
use Rattle.protocol.proofs.World.{Setting, Ghost, Knowledge, Known, Wrote, GoodLog}
use Rattle.protocol.proofs.Monotone.{Below, known_up, high_up, how_kept}

module _ (S : Setting) where
  open S use {Value, cfg, key, IsBoard, start}

  -- the record with the tag t for the operation begun at p, and other boards
  abbrev pub chose : Ghost S → ℕ → Tag → (ℕ → Option Value) → Ghost S
  chose g p t bytes =
      record {
        begun = g.begun;
        chosen = upd g.chosen p (some t);
        ending = g.ending;
        latest = g.latest;
        base = g.base;
        bytes = bytes;
      }

  -- what is asked of the tag t that the operation of client c begun at p takes
  pub record Choice (k k' : Knowledge S) (g : Ghost S) (p c : ℕ) (board : Option Value) (t : Tag) : Type 0 where
    pub begun : g.begun p ≡ some (c, board)
    pub unchosen : g.chosen p ≡ none
    pub unended : g.ending p ≡ none
    pub known : Known S k' t
    pub boards : (n : ℕ) (v : Value) → k'.bytes n ≡ some v → (k.bytes n ≡ some v) ⊎ ((key t ≡ n) × (board ≡ some v) × IsBoard v)
    -- it is at or above every operation that ended before this began
    pub above : (r : ℕ) (x : ℕ × Answer Value) (u : Tag) → g.ending r ≡ some x → g.chosen r ≡ some u → x.0 < p → key u ≤ key t
    -- and, for a write, the client's own, new, and above them
    pub client : (v : Value) → board ≡ some v → t.client ≡ c
    pub bytes : (v : Value) → board ≡ some v → k'.bytes (key t) ≡ some v
    pub above_start : (v : Value) → board ≡ some v → key starting_tag < key t
    pub fresh : (v : Value) → board ≡ some v → (r : ℕ) (w : Value) (u : Tag) → Wrote S g r w u → key u ≡ key t → ⊥
    pub above_write : (v : Value) → board ≡ some v → (r : ℕ) (x : ℕ × Answer Value) (u : Tag) → g.ending r ≡ some x → g.chosen r ≡ some u → x.0 < p → key u < key t

  module _ {k k' : Knowledge S} {g : Ghost S} {now : ℕ} {p c : ℕ} {board : Option Value} {t : Tag} (bytes : ℕ → Option Value) (up : Below S k k') (choice : Choice k k' g p c board t) (a : GoodLog S k g now) where
    -- the tags are those of before, and t at p
    chosen_cases : (r : ℕ) (u : Tag) → upd g.chosen p (some t) r ≡ some u → ((r ≡ p) × (t ≡ u)) ⊎ (g.chosen r ≡ some u)
    chosen_cases r u =
        upd_elim (λ x. x ≡ some u → ((r ≡ p) × (t ≡ u)) ⊎ (g.chosen r ≡ some u)) g.chosen p (some t) r (λ e f. inl (e, some-injective f)) (λ n f. inr f)

    wrote_cases : (r : ℕ) (v : Value) (u : Tag) (w : Wrote S (chose g p t bytes) r v u) → ((r ≡ p) × (t ≡ u) × (board ≡ some v) × (c ≡ w.client)) ⊎ ((w' : Wrote S g r v u) × (w'.client ≡ w.client))
    wrote_cases r v u w = ⊎_elim here there (chosen_cases r u w.chosen)
      where
        here : (r ≡ p) × (t ≡ u) → ((r ≡ p) × (t ≡ u) × (board ≡ some v) × (c ≡ w.client)) ⊎ ((w' : Wrote S g r v u) × (w'.client ≡ w.client))
        here e =
            let same = some-injective (sym choice.begun ∙ ap g.begun (sym e.0) ∙ w.begun) in
            inl (e.0, e.1, ap (λ (x : ℕ × Option Value). x.1) same, ap (λ (x : ℕ × Option Value). x.0) same)

        there : g.chosen r ≡ some u → ((r ≡ p) × (t ≡ u) × (board ≡ some v) × (c ≡ w.client)) ⊎ ((w' : Wrote S g r v u) × (w'.client ≡ w.client))
        there e = inr (record { client = w.client; begun = w.begun; chosen = e }, refl)

    -- an operation that has ended has the tag that it had
    ended_chosen : (r : ℕ) (x : ℕ × Answer Value) (u : Tag) → g.ending r ≡ some x → upd g.chosen p (some t) r ≡ some u → g.chosen r ≡ some u
    ended_chosen r x u e f =
        ⊎_elim (λ h. absurd (none≢some (sym choice.unended ∙ ap g.ending (sym h.0) ∙ e))) (λ h. h) (chosen_cases r u f)

    ended_other : (r : ℕ) (x : ℕ × Answer Value) → g.ending r ≡ some x → upd g.chosen p (some t) r ≡ g.chosen r
    ended_other r x e =
        upd_other g.chosen p (some t) r (λ h. none≢some (sym choice.unended ∙ ap g.ending (sym h) ∙ e))

    pub log_chose : ((n : ℕ) (v : Value) → g.bytes n ≡ some v → bytes n ≡ some v) → GoodLog S k' (chose g p t bytes) now
    log_chose grows =
        record {
          begun_before = a.begun_before;
          latest_before = a.latest_before;
          past = a.past;
          chosen_begun = λ r u e. ⊎_elim (λ h. ((c, board), ap g.begun h.0 ∙ choice.begun)) (a.chosen_begun r u) (chosen_cases r u e);
          chosen_known = λ r u e.
              ⊎_elim (λ h. subst (Known S k') h.1 choice.known) (λ h. known_up S up (a.chosen_known r u h)) (chosen_cases r u e);
          wrote_bytes = λ r v u w.
              ⊎_elim (λ h. ap (λ (y : Tag). k'.bytes (key y)) (sym h.1) ∙ choice.bytes v h.2) (λ h. up.bytes (key u) v (a.wrote_bytes r v u h.0))
              (wrote_cases r v u w);
          wrote_client = λ r v u w.
              ⊎_elim (λ h. ap (λ (y : Tag). y.client) (sym h.1) ∙ choice.client v h.2 ∙ h.3) (λ h. a.wrote_client r v u h.0 ∙ h.1) (wrote_cases r v u w);
          wrote_above = λ r v u w.
              ⊎_elim (λ h. subst (λ (y : Tag). key starting_tag < key y) h.1 (choice.above_start v h.2)) (λ h. a.wrote_above r v u h.0) (wrote_cases r v u w);
          wrote_once = once;
          ending_after = a.ending_after;
          ending_before = a.ending_before;
          ending_how = λ r x e d b f. how_kept S g (chose g p t bytes) r (ended_other r x e) grows b x.1 (a.ending_how r x e d b f);
          ending_once = a.ending_once;
          ending_quorum = λ r x u e f. high_up S up (key u) (a.ending_quorum r x u e (ended_chosen r x u e f));
          start_bytes = up.bytes (key starting_tag) start a.start_bytes;
          boards = λ n v e. ⊎_elim (a.boards n v) (λ h. h.2) (choice.boards n v e);
          source = λ n v e. ⊎_elim (λ h. ⊎_map (λ i. i) (older n v) (a.source n v h)) (λ h. inr (p, t, here v h.1, h.0)) (choice.boards n v e);
          in_time = λ q r x u w e f h i.
              ⊎_elim (λ j. subst (λ (y : Tag). key u ≤ key y) j.1 (choice.above q x u e (ended_chosen q x u e f) (subst (λ (y : ℕ). x.0 < y) j.0 h)))
              (λ j. a.in_time q r x u w e (ended_chosen q x u e f) h j)
              (chosen_cases r w i);
          in_time_write = λ q r x u w v e f h i.
              ⊎_elim (λ j. subst (λ (y : Tag). key u < key y) j.1 (choice.above_write v j.2 q x u e (ended_chosen q x u e f) (subst (λ (y : ℕ). x.0 < y) j.0 h)))
              (λ j. a.in_time_write q r x u w v e (ended_chosen q x u e f) h j.0)
              (wrote_cases r v w i);
        }
      where
        here : (v : Value) → board ≡ some v → Wrote S (chose g p t bytes) p v t
        here v e =
            record {
              client = c;
              begun = choice.begun ∙ ap (λ (b : Option Value). some (c, b)) e;
              chosen = upd_same g.chosen p (some t);
            }

        older : (n : ℕ) (v : Value) → ((q : ℕ) × (u : Tag) × Wrote S g q v u × (key u ≡ n)) → (q : ℕ) × (u : Tag) × Wrote S (chose g p t bytes) q v u × (key u ≡ n)
        older n v h =
            let w = h.2 in
            let other = upd_other g.chosen p (some t) h.0 (λ e. none≢some (sym choice.unchosen ∙ ap g.chosen (sym e) ∙ w.chosen)) in
            (h.0, h.1, record { client = w.client; begun = w.begun; chosen = other ∙ w.chosen }, h.3)

        once : (q r : ℕ) (v w : Value) (u y : Tag) → Wrote S (chose g p t bytes) q v u → Wrote S (chose g p t bytes) r w y → key u ≡ key y → q ≡ r
        once q r v w u y i j e =
            ⊎_elim
            (λ h. ⊎_elim (λ l. h.0 ∙ sym l.0) (λ l. absurd (choice.fresh v h.2 r w y l.0 (sym e ∙ ap key (sym h.1)))) (wrote_cases r w y j))
            (λ h. ⊎_elim (λ l. absurd (choice.fresh w l.2 q v u h.0 (e ∙ ap key (sym l.1)))) (λ l. a.wrote_once q r v w u y h.0 l.0 e) (wrote_cases r w y j))
            (wrote_cases q v u i)
