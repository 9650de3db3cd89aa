-- The order: ended operations, and unended writes that have a tag, by tag, a write before the reads of its tag, and then by begin. It fits.
use Prim.Native.Nat.{ℕ, ◌+◌, ◌≤◌, ◌<◌}
use mathlib.Core.Path.{◌≡◌, refl, sym, ◌∙◌, ap, subst}
use mathlib.Core.Bool.{Bool, true, false, false≢true}
use mathlib.Core.Logic.{◌⊎◌, inl, inr, ⊎_elim}
use mathlib.Core.Option.{Option, none, some}
use mathlib.Core.List.{List, Memᴰ}
use lib.Dec.{leb}
use lib.ListN.{length}
use borrow.Author.Tests.{leb-true, leb-false}
use native.Mathlib.Omega.{arith}
use Rattle.tag.specs.declared.Tag.{Tag}
use Rattle.tag.specs.Tag.{start as starting_tag}
use Rattle.protocol.specs.Board.{Answer, Event, Operation, refused, nothing_ended, written_by, spent_by, read_by, unended_write, wrote, showed, ended_write, ended_read, write_of, read_of, end_at, history, MayStand, MustStand, EndedBefore, Fits, answer_tag, tag_of, TagsRise}
use Rattle.protocol.proofs.Basics.{either, none≢some, some-injective}
use Rattle.protocol.proofs.World.{Setting, Ghost, Knowledge, Wrote, How, GoodLog}
use Rattle.protocol.proofs.Recorded.{Recorded, history_blank, end_recorded, history_write, history_read}
use Rattle.protocol.proofs.Sort.{Precedes, Sorted, arranged, arranged_mem, arranged_all, arranged_sorted, sorted_once, sorted_first, first_precedes}
use Rattle.protocol.proofs.Replay.{Op, writes, reads, shown}

module _ (S : Setting) where
  open S use {Value, key, start}

  -- a tag's key; and 1 for a read
  unfoldable level_of : Option Tag → ℕ
  level_of none = 0
  level_of (some t) = key t

  unfoldable read_bit : Option (ℕ × Option Value) → ℕ
  read_bit none = 0
  read_bit (some x) = mathlib.Core.Option.rec (λ (o : Option Value). ℕ) 1 (λ (v : Value). 0) x.1

  unfoldable listed_as : Option Value → Option (ℕ × Answer Value) → Bool
  listed_as none none = false
  listed_as none (some y) = true
  listed_as (some v) end = true

  unfoldable listed_of : Option Tag → Option (ℕ × Option Value) → Option (ℕ × Answer Value) → Bool
  listed_of none begun end = false
  listed_of (some t) none end = false
  listed_of (some t) (some x) end = listed_as x.1 end

  module _ (g : Ghost S) where
    abbrev level : ℕ → ℕ
    level p = level_of (g.chosen p)

    abbrev rank : ℕ → ℕ
    rank p = level p + level p + read_bit (g.begun p)

    abbrev listed : ℕ → Bool
    listed p = listed_of (g.chosen p) (g.begun p) (g.ending p)

    -- what stands in the order: a write that has a tag, or an ended read
    data Listed (p : ℕ) : Type 0 where
      a_write : (t : Tag) (v : Value) → Wrote S g p v t → Listed p
      a_read : (t : Tag) (c : ℕ) (y : ℕ × Answer Value) → g.chosen p ≡ some t → g.begun p ≡ some (c, none) → g.ending p ≡ some y → Listed p

    listed_is : (p : ℕ) → listed p ≡ true → Listed p
    unfolding listed_of listed_as
    listed_is p = go (g.chosen p) (g.begun p) (g.ending p) refl refl refl
      where
        board-is : (t : Tag) (c : ℕ) (b : Option Value) (end : Option (ℕ × Answer Value)) → g.chosen p ≡ some t → g.begun p ≡ some (c, b) → g.ending p ≡ end → listed_as b end ≡ true → Listed p
        board-is t c none none e f h i = absurd (false≢true i)
        board-is t c none (some y) e f h i = a_read t c y e f h
        board-is t c (some v) end e f h i = a_write t v (record { client = c; begun = f; chosen = e })

        go : (o : Option Tag) (b : Option (ℕ × Option Value)) (end : Option (ℕ × Answer Value)) → g.chosen p ≡ o → g.begun p ≡ b → g.ending p ≡ end → listed_of o b end ≡ true → Listed p
        go none b end e f h i = absurd (false≢true i)
        go (some t) none end e f h i = absurd (false≢true i)
        go (some t) (some x) end e f h i = board-is t x.0 x.1 end e f h i

    listed_yes : (p : ℕ) → Listed p → listed p ≡ true
    unfolding listed_of listed_as
    listed_yes p (a_write t v w) = rw (w.chosen, w.begun)
    listed_yes p (a_read t c y e f h) = rw (e, f, h)

    level_is : (p : ℕ) (t : Tag) → g.chosen p ≡ some t → level p ≡ key t
    unfolding level_of
    level_is p t e = rw e

    write_rank : (p : ℕ) (v : Value) (t : Tag) → Wrote S g p v t → rank p ≡ level p + level p
    unfolding read_bit mathlib.Core.Option.rec
    write_rank p v t w = rw w.begun (omega arith)

    read_rank : (p c : ℕ) → g.begun p ≡ some (c, none) → rank p ≡ level p + level p + 1
    unfolding read_bit mathlib.Core.Option.rec
    read_rank p c e = rw e

    -- a read ranks at most next to its level
    rank_most : (p : ℕ) → Listed p → rank p ≤ level p + level p + 1
    rank_most p (a_write t v w) = omega (arith, write_rank p v t w)
    rank_most p (a_read t c y e f h) = omega (arith, read_rank p c f)

    listed_tag : (p : ℕ) → Listed p → (t : Tag) × (g.chosen p ≡ some t)
    listed_tag p (a_write t v w) = (t, w.chosen)
    listed_tag p (a_read t c y e f h) = (t, e)

  module _ {k : Knowledge S} {g : Ghost S} {h : List (Event Value)} (a : GoodLog S k g (length h)) (recorded : Recorded S h g) (bytes_same : (n : ℕ) → k.bytes n ≡ g.bytes n) where
    abbrev order : List ℕ
    order = arranged (rank g) (listed g) (length h)

    in_order : (p : ℕ) → Listed g p → Memᴰ p order
    in_order p l =
        let tag = listed_tag g p l in
        let x = a.chosen_begun p tag.0 tag.1 in
        arranged_all (rank g) (listed g) (length h) p (a.begun_before p x.0 x.1) (listed_yes g p l)

    of_order : (p : ℕ) → Memᴰ p order → Listed g p
    of_order p i = listed_is g p (arranged_mem (rank g) (listed g) (length h) p i).1

    -- an ended write that has a tag is written; an ended read shows the board of its tag
    write_ended : (p : ℕ) (v : Value) (t : Tag) (w : Wrote S g p v t) (y : ℕ × Answer Value) → g.ending p ≡ some y → (history h p ≡ wrote v y.0) × (answer_tag y.1 ≡ some t)
    unfolding write_of ended_write answer_tag
    write_ended p v t w y e =
        let d = go y.1 (a.ending_how p y e w.client (some v) w.begun) in
        (history_write S recorded p w.client v w.begun ∙ ap (write_of v) e ∙ d.0, d.1)
      where
        go : (answer : Answer Value) → How S g p (some v) answer → (ended_write v y.0 answer ≡ wrote v y.0) × (answer_tag answer ≡ some t)
        go (refused n) how = absurd how
        go nothing_ended how = absurd how
        go (written_by d u) how = (refl, sym how.0 ∙ w.chosen)
        go (spent_by d) how = absurd (none≢some (sym how ∙ w.chosen))
        go (read_by d u z) how = absurd (none≢some (sym how.1))

    read_ended : (p c : ℕ) (t : Tag) (y : ℕ × Answer Value) → g.chosen p ≡ some t → g.begun p ≡ some (c, none) → g.ending p ≡ some y → (v : Value) × (history h p ≡ showed v y.0) × (g.bytes (key t) ≡ some v)
    unfolding read_of ended_read
    read_ended p c t y e f i =
        let d = go y.1 (a.ending_how p y i c none f) in
        (d.0, history_read S recorded p c f ∙ ap read_of i ∙ d.1, d.2)
      where
        go : (answer : Answer Value) → How S g p none answer → (v : Value) × (ended_read y.0 answer ≡ showed v y.0) × (g.bytes (key t) ≡ some v)
        go (refused n) how = absurd how
        go nothing_ended how = absurd how
        go (written_by d u) how = absurd (none≢some how.1.1)
        go (spent_by d) how = absurd (none≢some (sym how ∙ e))
        go (read_by d u z) how = (z, refl, ap (λ (x : Tag). g.bytes (key x)) (some-injective (sym e ∙ how.0)) ∙ how.2)

    write_open : (p : ℕ) (v : Value) (t : Tag) (w : Wrote S g p v t) → g.ending p ≡ none → history h p ≡ unended_write v
    unfolding write_of
    write_open p v t w e = history_write S recorded p w.client v w.begun ∙ ap (write_of v) e

    write_operation : (p : ℕ) (v : Value) (t : Tag) (w : Wrote S g p v t) (o : Option (ℕ × Answer Value)) → g.ending p ≡ o → (history h p ≡ unended_write v) ⊎ ((e : ℕ) × (history h p ≡ wrote v e))
    write_operation p v t w none e = inl (write_open p v t w e)
    write_operation p v t w (some y) e = inr (y.0, (write_ended p v t w y e).0)

    op : (p : ℕ) → Listed g p → Op (history h) (level g) g.bytes (rank g) p
    op p (a_write t v w) =
        writes v (write_operation p v t w (g.ending p) refl) (ap g.bytes (level_is g p t w.chosen) ∙ sym (bytes_same (key t)) ∙ a.wrote_bytes p v t w) (write_rank g p v t w)
    op p (a_read t c y e f i) =
        let d = read_ended p c t y e f i in
        reads d.0 y.0 d.1 (ap g.bytes (level_is g p t e) ∙ d.2) (read_rank g p c f)

    -- an operation that must stand is listed
    must_write : (p c : ℕ) (v : Value) → g.begun p ≡ some (c, some v) → (o : Option (ℕ × Answer Value)) → g.ending p ≡ o → MustStand (write_of v o) → Listed g p
    unfolding write_of ended_write MustStand
    must_write p c v e none f m = absurd m
    must_write p c v e (some y) f m = go y.1 (a.ending_how p y f c (some v) e) m
      where
        go : (answer : Answer Value) → How S g p (some v) answer → MustStand (ended_write v y.0 answer) → Listed g p
        go (refused n) how i = absurd how
        go nothing_ended how i = absurd how
        go (written_by d u) how i = a_write u v (record { client = c; begun = e; chosen = how.0 })
        go (spent_by d) how i = absurd i
        go (read_by d u z) how i = absurd (none≢some (sym how.1))

    must_read : (p c : ℕ) → g.begun p ≡ some (c, none) → (o : Option (ℕ × Answer Value)) → g.ending p ≡ o → MustStand (read_of o) → Listed g p
    unfolding read_of ended_read MustStand
    must_read p c e none f m = absurd m
    must_read p c e (some y) f m = go y.1 (a.ending_how p y f c none e) m
      where
        go : (answer : Answer Value) → How S g p none answer → MustStand (ended_read y.0 answer) → Listed g p
        go (refused n) how i = absurd how
        go nothing_ended how i = absurd how
        go (written_by d u) how i = absurd (none≢some how.1.1)
        go (spent_by d) how i = absurd i
        go (read_by d u z) how i = a_read u c y how.0 e f

    must_stand : (p : ℕ) → MustStand (history h p) → Listed g p
    must_stand p = go (g.begun p) refl
      where
        board-is : (c : ℕ) (b : Option Value) → g.begun p ≡ some (c, b) → MustStand (history h p) → Listed g p
        board-is c none e m = must_read p c e (g.ending p) refl (subst MustStand (history_read S recorded p c e) m)
        board-is c (some v) e m = must_write p c v e (g.ending p) refl (subst MustStand (history_write S recorded p c v e) m)

        go : (b : Option (ℕ × Option Value)) → g.begun p ≡ b → MustStand (history h p) → Listed g p
        go none e m = absurd (unfold MustStand in subst MustStand (history_blank S recorded p e) m)
        go (some x) e m = board-is x.0 x.1 e m

    -- what is listed may stand
    may_stand : (p : ℕ) → Op (history h) (level g) g.bytes (rank g) p → MayStand (history h p)
    unfolding MayStand
    may_stand p (writes v (inl d) b r) = rw d tt
    may_stand p (writes v (inr d) b r) = rw d.1 tt
    may_stand p (reads v e d b r) = rw d tt

    -- a listed operation that ended before r began has an end before r
    ended_before : (p r : ℕ) → Listed g p → EndedBefore (history h p) r → (y : ℕ × Answer Value) × (g.ending p ≡ some y) × (y.0 < r)
    unfolding EndedBefore
    ended_before p r (a_write t v w) i = go (g.ending p) refl
      where
        go : (o : Option (ℕ × Answer Value)) → g.ending p ≡ o → (y : ℕ × Answer Value) × (g.ending p ≡ some y) × (y.0 < r)
        go none e = absurd (subst (λ (d : Operation Value). EndedBefore d r) (write_open p v t w e) i)
        go (some y) e = (y, e, subst (λ (d : Operation Value). EndedBefore d r) (write_ended p v t w y e).0 i)
    ended_before p r (a_read t c y e f j) i =
        (y, j, subst (λ (d : Operation Value). EndedBefore d r) (read_ended p c t y e f j).1 i)

    -- of two that are listed, the one that ended before the other began precedes
    precedes : (p r : ℕ) → Listed g p → Listed g r → (y : ℕ × Answer Value) → g.ending p ≡ some y → y.0 < r → Precedes (rank g) p r
    precedes p r l (a_write u v w) y e i =
        let t = listed_tag g p l in
        let below = a.in_time_write p r y t.0 u v e t.1 i w in
        inl (omega (arith, below, rank_most g p l, level_is g p t.0 t.1, level_is g r u w.chosen, write_rank g r v u w))
    precedes p r l (a_read u c z d f j) y e i =
        let t = listed_tag g p l in
        let below = a.in_time p r y t.0 u e t.1 i d in
        let most : rank g p ≤ rank g r = omega (arith, below, rank_most g p l, level_is g p t.0 t.1, level_is g r u d, read_rank g r c f) in
        ⊎_elim (λ q. inr (omega (arith, most, leb-true (rank g r) (rank g p) q), omega (arith, a.ending_after p y e))) (λ q. inl (leb-false (rank g r) (rank g p) q)) (either (leb (rank g r) (rank g p)))

    -- the tag of an operation is the starting tag or some write's, and not below the starting tag
    low : (p : ℕ) → Listed g p → key starting_tag ≤ level g p
    low p (a_write t v w) = omega (arith, a.wrote_above p v t w, level_is g p t w.chosen)
    low p (a_read t c y e f i) =
        let known = a.chosen_known p t e in
        ⊎_elim (λ j. omega (arith, j, level_is g p t e)) (λ j. omega (arith, j.3, a.wrote_above j.0 known.board j.1 j.2, level_is g p t e))
        (a.source (key t) known.board known.is)

    source : (p : ℕ) → Listed g p → rank g p ≡ level g p + level g p + 1 → (level g p ≡ key starting_tag) ⊎ ((w : ℕ) × Memᴰ w order × (rank g w ≡ level g w + level g w) × (level g w ≡ level g p))
    source p (a_write t v w) r = absurd (omega (arith, r, write_rank g p v t w))
    source p (a_read t c y e f i) r =
        let known = a.chosen_known p t e in
        ⊎_elim (λ j. inl (level_is g p t e ∙ j))
        (λ j. inr (j.0, in_order j.0 (a_write j.1 known.board j.2), write_rank g j.0 known.board j.1 j.2, level_is g j.0 j.1 j.2.chosen ∙ j.3 ∙ sym (level_is g p t e)))
        (a.source (key t) known.board known.is)

    sorted : Sorted (rank g) order
    sorted = arranged_sorted (rank g) (listed g) (length h)

    fits : Fits (history h) start order
    fits =
        record {
          once = sorted_once (rank g) order sorted;
          ended = λ p m. in_order p (must_stand p m);
          nothing_else = λ p i. may_stand p (op p (of_order p i));
          in_time = λ p r i j e.
              let x = ended_before p r (of_order p i) e in
              sorted_first (rank g) order sorted p r i j (precedes p r (of_order p i) (of_order r j) x.0 x.1 x.2);
          shown = shown (history h) (level g) g.bytes (rank g) order (key starting_tag) start (sym (bytes_same (key starting_tag)) ∙ a.start_bytes) sorted (λ p i. op p (of_order p i)) (λ p i. low p (of_order p i)) (λ p i. source p (of_order p i));
        }

    -- the tag in the answer of an ended write is the tag that it took
    write_tag : (p : ℕ) (v : Value) (e : ℕ) (t : Tag) → history h p ≡ wrote v e → tag_of (end_at h p) ≡ some t → (z : Value) × Wrote S g p z t
    unfolding tag_of MustStand
    write_tag p v e t d tag = go (must_stand p (rw d tt))
      where
        go : Listed g p → (z : Value) × Wrote S g p z t
        go (a_read u c y f b i) =
            let shows = (read_ended p c u y f b i).1 in
            let z : ◌≡◌ {A = ℕ} 0 1 = cc in
            absurd (omega arith)
        go (a_write u z w) = (z, subst (Wrote S g p z) (same (g.ending p) refl) w)
          where
            same : (o : Option (ℕ × Answer Value)) → g.ending p ≡ o → u ≡ t
            same none f = absurd (none≢some (sym (ap tag_of f) ∙ sym (ap tag_of (end_recorded S recorded p w.client (some z) w.begun)) ∙ tag))
            same (some y) f =
                some-injective
                (sym (write_ended p z u w y f).1 ∙ sym (ap tag_of f) ∙ sym (ap tag_of (end_recorded S recorded p w.client (some z) w.begun)) ∙ tag)

    tags-rise : TagsRise key h order
    unfolding TagsRise
    tags-rise p r v w e f t u first d i x y =
        let left = write_tag p v e t d x in
        let right = write_tag r w f u i y in
        ⊎_elim
        (λ q. omega (arith, q, write_rank g p left.0 t left.1, write_rank g r right.0 u right.1, level_is g p t left.1.chosen, level_is g r u right.1.chosen))
        (λ q.
        let same : key t ≡ key u = omega (arith, q.0, write_rank g p left.0 t left.1, write_rank g r right.0 u right.1, level_is g p t left.1.chosen, level_is g r u right.1.chosen) in
        absurd (omega (arith, q.1, a.wrote_once p r left.0 right.0 t u left.1 right.1 same)))
        (first_precedes (rank g) order sorted p r first)

    pub ordered : (places : List ℕ) × Fits (history h) start places × TagsRise key h places
    ordered = (order, fits, tags-rise)
