-- The record says what the history of the events says, and goes on saying it.
use Prim.Native.Nat.{ℕ, ◌+◌, ◌<◌}
use mathlib.Core.Path.{◌≡◌, refl, sym, ◌∙◌, ap, subst}
use mathlib.Core.Bool.{true, false, cond, ◌&&◌, false≢true}
use mathlib.Core.Logic.{⊎_elim}
use mathlib.Core.Option.{Option, none, some}
use mathlib.Core.List.{List, [], ◌∷◌, ◌++◌}
use lib.Dec.{eqb}
use lib.ListN.{length, drop, get_elem?, length-append, length-drop, drop_of_length-le}
use lib.Seq.{drop-append-le}
use native.Mathlib.Omega.{arith}
use Rattle.protocol.specs.Number.{upd}
use Rattle.protocol.specs.Board.{Call, Answer, Event, no_operation, is_accepted, names, first_naming, write_of, read_of, begun_by, operation_of, end_of, end_at, history}
use Rattle.protocol.proofs.Basics.{either, upd_elim, upd_same, upd_other, none≢some, some-injective}
use Rattle.protocol.proofs.World.{Setting, Ghost, Knowledge, GoodLog}
use Rattle.protocol.proofs.Events.{at_within, at_before, at_last, at_cases, first_stays, first_new}
use Rattle.protocol.proofs.Settle.{Naming}

module _ (S : Setting) where
  open S use {Value}

  -- an event that begins no operation
  abbrev pub NoBegin : Event Value → Type 0
  NoBegin x =
      ((is_accepted x.answer && eqb x.call.code 1) ≡ false) × ((is_accepted x.answer && eqb x.call.code 2) ≡ false)

  -- the event's code and board are those of a write of the board, or of a read
  abbrev pub Coded : Call Value → Option Value → Type 0
  Coded a none = a.code ≡ 2
  Coded a (some v) = (a.code ≡ 1) × (a.board ≡ v)

  -- an accepted event that begins an operation of client c, with the board to write or none
  pub record Opens (x : Event Value) (c : ℕ) (board : Option Value) : Type 0 where
    pub accepted : is_accepted x.answer ≡ true
    pub party : x.call.party ≡ c
    pub coded : Coded x.call board

  -- what the record says of an operation is what the events say
  pub record Tells (h : List (Event Value)) (g : Ghost S) (p c : ℕ) (board : Option Value) : Type 0 where
    pub event : Event Value
    pub is : get_elem? h p ≡ some event
    pub opens : Opens event c board
    pub first : first_naming c (p + 1) (drop (p + 1) h) ≡ g.ending p

  pub record Recorded (h : List (Event Value)) (g : Ghost S) : Type 0 where
    pub blank : (p : ℕ) (x : Event Value) → get_elem? h p ≡ some x → g.begun p ≡ none → NoBegin x
    pub begun : (p c : ℕ) (board : Option Value) → g.begun p ≡ some (c, board) → Tells h g p c board
    pub named : (c q : ℕ) (x : Event Value) → get_elem? h q ≡ some x → names c x.answer ≡ true → (p : ℕ) × (board : Option Value) × (g.begun p ≡ some (c, board)) × (g.ending p ≡ some (q, x.answer))

  -- what is the first to name a client, once there is one more event
  first_next : (h : List (Event Value)) (x : Event Value) (c p : ℕ) (o : Option (ℕ × Answer Value)) → p < length h → first_naming c (p + 1) (drop (p + 1) h) ≡ o → first_naming c (p + 1) (drop (p + 1) (h ++ (x ∷ []))) ≡ mathlib.Core.Option.rec (λ z. Option (ℕ × Answer Value)) (cond (names c x.answer) (some (length h, x.answer)) none) some o
  unfolding mathlib.Core.Option.rec
  first_next h x c p none within e =
      ap (first_naming c (p + 1)) (drop-append-le (p + 1) h (x ∷ []) (omega arith)) ∙
      first_new c (p + 1) (drop (p + 1) h) x e ∙
      ap (λ (n : ℕ). cond (names c x.answer) (some (n, x.answer)) none) (omega (arith, length-drop (p + 1) h))
  first_next h x c p (some z) within e =
      ap (first_naming c (p + 1)) (drop-append-le (p + 1) h (x ∷ []) (omega arith)) ∙ first_stays c (p + 1) (drop (p + 1) h) x z e

  module _ {h : List (Event Value)} {g : Ghost S} (a : Recorded h g) (x : Event Value) where
    -- an event that begins nothing: each operation's end is that of before, or this event where it names the client, which had one
    pub next : (g' : Ghost S) → NoBegin x → g'.begun ≡ g.begun → ((c : ℕ) → names c x.answer ≡ true → (p : ℕ) × (board : Option Value) × (g.begun p ≡ some (c, board)) × (g.ending p ≡ none)) → ((p c : ℕ) (board : Option Value) → g.begun p ≡ some (c, board) → (o : Option (ℕ × Answer Value)) → g.ending p ≡ o → mathlib.Core.Option.rec (λ z. Option (ℕ × Answer Value)) (cond (names c x.answer) (some (length h, x.answer)) none) some o ≡ g'.ending p) → Recorded (h ++ (x ∷ [])) g'
    unfolding mathlib.Core.Option.rec
    next g' quiet same had ending =
        record {
          blank = λ p y e f. ⊎_elim (λ i. a.blank p y i (sym (at p) ∙ f)) (λ i. subst NoBegin i.1 quiet) (at_cases h x p y e);
          begun = λ p c board e.
              let old : g.begun p ≡ some (c, board) = sym (at p) ∙ e in
              let t = a.begun p c board old in
              record {
                event = t.event;
                is = at_before h x p t.event t.is;
                opens = t.opens;
                first = first_next h x c p (g.ending p) (at_within h p t.event t.is) t.first ∙ ending p c board old (g.ending p) refl;
              };
          named = λ c q y e n.
              ⊎_elim (before c q y n) (λ i. subst (λ (z : ℕ). Named z y) (sym i.0) (subst (Named (length h)) i.1 here) c n) (at_cases h x q y e);
        }
      where
        at : (p : ℕ) → g'.begun p ≡ g.begun p
        at p = ap (λ (b : ℕ → Option (ℕ × Option Value)). b p) same

        -- what the event at place q ends, for whomever it names
        Named : ℕ → Event Value → Type 0
        Named q y =
            (c : ℕ) → names c y.answer ≡ true → (p : ℕ) × (board : Option Value) × (g'.begun p ≡ some (c, board)) × (g'.ending p ≡ some (q, y.answer))

        before : (c q : ℕ) (y : Event Value) → names c y.answer ≡ true → get_elem? h q ≡ some y → (p : ℕ) × (board : Option Value) × (g'.begun p ≡ some (c, board)) × (g'.ending p ≡ some (q, y.answer))
        before c q y n i =
            let o = a.named c q y i n in
            (o.0, o.1, at o.0 ∙ o.2, sym (ending o.0 c o.1 o.2 (some (q, y.answer)) o.3))

        here : Named (length h) x
        here c n =
            let o = had c n in
            (o.0, o.1, at o.0 ∙ o.2, sym (ending o.0 c o.1 o.2 none o.3) ∙ rw n)

    -- it names nobody
    pub next_still : (g' : Ghost S) → NoBegin x → g'.begun ≡ g.begun → g'.ending ≡ g.ending → ((c : ℕ) → names c x.answer ≡ false) → Recorded (h ++ (x ∷ [])) g'
    unfolding mathlib.Core.Option.rec
    next_still g' quiet same ends nobody = next g' quiet same (λ c n. absurd (false≢true (sym (nobody c) ∙ n))) go
      where
        go : (p c : ℕ) (board : Option Value) → g.begun p ≡ some (c, board) → (o : Option (ℕ × Answer Value)) → g.ending p ≡ o → mathlib.Core.Option.rec (λ z. Option (ℕ × Answer Value)) (cond (names c x.answer) (some (length h, x.answer)) none) some o ≡ g'.ending p
        go p c board e none f = rw (nobody c) (sym f ∙ sym (ap (λ (b : ℕ → Option (ℕ × Answer Value)). b p) ends))
        go p c board e (some z) f = sym f ∙ sym (ap (λ (b : ℕ → Option (ℕ × Answer Value)). b p) ends)

    -- it names client c, whose latest operation was not ended
    pub next_closes : {k : Knowledge S} {now : ℕ} → GoodLog S k g now → (g' : Ghost S) → NoBegin x → g'.begun ≡ g.begun → (c : ℕ) (board : Option Value) → g.begun (g.latest c) ≡ some (c, board) → g.ending (g.latest c) ≡ none → g'.ending ≡ upd g.ending (g.latest c) (some (length h, x.answer)) → Naming S c x.answer → Recorded (h ++ (x ∷ [])) g'
    unfolding mathlib.Core.Option.rec
    next_closes log g' quiet same c board open_is unended ends naming =
        next g' quiet same (λ d n. (g.latest c, board, open_is ∙ ap (λ (z : ℕ). some (z, board)) (sym (naming.1 d n)), unended)) go
      where
        at : (p : ℕ) → g'.ending p ≡ upd g.ending (g.latest c) (some (length h, x.answer)) p
        at p = ap (λ (b : ℕ → Option (ℕ × Answer Value)). b p) ends

        go : (p d : ℕ) (b : Option Value) → g.begun p ≡ some (d, b) → (o : Option (ℕ × Answer Value)) → g.ending p ≡ o → mathlib.Core.Option.rec (λ z. Option (ℕ × Answer Value)) (cond (names d x.answer) (some (length h, x.answer)) none) some o ≡ g'.ending p
        go p d b e (some z) f =
            sym (at p ∙ upd_other g.ending (g.latest c) (some (length h, x.answer)) p (λ i. none≢some (sym unended ∙ ap g.ending (sym i) ∙ f)) ∙ f)
        go p d b e none f = ⊎_elim mine other (either (names d x.answer))
          where
            mine : names d x.answer ≡ true → cond (names d x.answer) (some (length h, x.answer)) none ≡ g'.ending p
            mine n =
                let is_c : d ≡ c = naming.1 d n in
                let here : p ≡ g.latest c = ⊎_elim (λ i. i) (λ i. absurd (none≢some (sym f ∙ i.1))) (log.past p c b (e ∙ ap (λ (y : ℕ). some (y, b)) is_c)) in
                rw n (sym (at p ∙ ap (upd g.ending (g.latest c) (some (length h, x.answer))) here ∙ upd_same g.ending (g.latest c) (some (length h, x.answer))))

            other : names d x.answer ≡ false → cond (names d x.answer) (some (length h, x.answer)) none ≡ g'.ending p
            other n =
                rw n
                (sym (at p ∙ upd_other g.ending (g.latest c) (some (length h, x.answer)) p
                (λ i.
                let is_c : d ≡ c = ap (λ (y : ℕ × Option Value). y.0) (some-injective (sym e ∙ ap g.begun i ∙ open_is)) in
                false≢true (sym n ∙ ap (λ (y : ℕ). names y x.answer) is_c ∙ naming.0)) ∙ f))

    -- it begins an operation of client c
    pub next_begins : {k : Knowledge S} → GoodLog S k g (length h) → (g' : Ghost S) (c : ℕ) (board : Option Value) → Opens x c board → ((d : ℕ) → names d x.answer ≡ false) → g'.begun ≡ upd g.begun (length h) (some (c, board)) → g'.ending ≡ g.ending → Recorded (h ++ (x ∷ [])) g'
    unfolding mathlib.Core.Option.rec first_naming
    next_begins log g' c board opens nobody begins ends =
        record {
          blank = λ p y e f.
              ⊎_elim
              (λ i. a.blank p y i (sym (upd_other g.begun (length h) (some (c, board)) p (λ j. omega (arith, at_within h p y i, j))) ∙ sym (at p) ∙ f))
              (λ i. absurd (none≢some (sym f ∙ at p ∙ ap (upd g.begun (length h) (some (c, board))) i.0 ∙ upd_same g.begun (length h) (some (c, board)))))
              (at_cases h x p y e);
          begun = λ p d b e.
              upd_elim (λ (o : Option (ℕ × Option Value)). o ≡ some (d, b) → Tells (h ++ (x ∷ [])) g' p d b) g.begun (length h) (some (c, board)) p
              (λ i j. subst (λ (y : ℕ × Option Value). Tells (h ++ (x ∷ [])) g' p y.0 y.1) (some-injective j) (subst (λ (y : ℕ). Tells (h ++ (x ∷ [])) g' y c board) (sym i) this))
              (λ i j. older p d b j)
              (sym (at p) ∙ e);
          named = λ d q y e n.
              ⊎_elim
              (λ i.
              let o = a.named d q y i n in
              (o.0, o.1, at o.0 ∙ upd_other g.begun (length h) (some (c, board)) o.0 (λ j. omega (arith, log.begun_before o.0 (d, o.1) o.2, j)) ∙ o.2, end-at o.0 ∙ o.3))
              (λ i. absurd (false≢true (sym (nobody d) ∙ subst (λ (z : Event Value). names d z.answer ≡ true) (sym i.1) n)))
              (at_cases h x q y e);
        }
      where
        at : (p : ℕ) → g'.begun p ≡ upd g.begun (length h) (some (c, board)) p
        at p = ap (λ (f : ℕ → Option (ℕ × Option Value)). f p) begins

        end-at : (p : ℕ) → g'.ending p ≡ g.ending p
        end-at p = ap (λ (f : ℕ → Option (ℕ × Answer Value)). f p) ends

        unended : (o : Option (ℕ × Answer Value)) → g.ending (length h) ≡ o → none ≡ o
        unended none e = refl
        unended (some z) e = absurd (omega (arith, log.ending_after (length h) z e, log.ending_before (length h) z e))

        past_end : drop (length h + 1) (h ++ (x ∷ [])) ≡ []
        past_end = drop_of_length-le (h ++ (x ∷ [])) {i = length h + 1} (omega (arith, length-append h (x ∷ [])))

        this : Tells (h ++ (x ∷ [])) g' (length h) c board
        this =
            record {
              event = x;
              is = at_last h x;
              opens = opens;
              first = ap (first_naming c (length h + 1)) past_end ∙ unended (g.ending (length h)) refl ∙ sym (end-at (length h));
            }

        go : (c : ℕ) (o : Option (ℕ × Answer Value)) → mathlib.Core.Option.rec (λ z. Option (ℕ × Answer Value)) (cond (names c x.answer) (some (length h, x.answer)) none) some o ≡ o
        go d none = rw (nobody d)
        go d (some z) = refl

        older : (p d : ℕ) (b : Option Value) → g.begun p ≡ some (d, b) → Tells (h ++ (x ∷ [])) g' p d b
        older p d b e =
            let t = a.begun p d b e in
            record {
              event = t.event;
              is = at_before h x p t.event t.is;
              opens = t.opens;
              first = first_next h x d p (g.ending p) (at_within h p t.event t.is) t.first ∙ go d (g.ending p) ∙ sym (end-at p);
            }

  -- what the history says of each place
  module _ {h : List (Event Value)} {g : Ghost S} (a : Recorded h g) where
    none_at : (p : ℕ) (o : Option (Event Value)) (end : Option (ℕ × Answer Value)) → get_elem? h p ≡ o → g.begun p ≡ none → operation_of o end ≡ no_operation
    unfolding operation_of begun_by
    none_at p none end e f = refl
    none_at p (some x) end e f =
        let quiet = a.blank p x e f in
        rw (quiet.0, quiet.1)

    pub history_blank : (p : ℕ) → g.begun p ≡ none → history h p ≡ no_operation
    unfolding history
    history_blank p f = none_at p (get_elem? h p) (end_at h p) refl f

    pub end_recorded : (p c : ℕ) (board : Option Value) → g.begun p ≡ some (c, board) → end_at h p ≡ g.ending p
    unfolding end_at end_of
    end_recorded p c board e =
        let t = a.begun p c board e in
        ap (λ (o : Option (Event Value)). end_of o p (drop (p + 1) h)) t.is ∙
        ap (λ (d : ℕ). first_naming d (p + 1) (drop (p + 1) h)) t.opens.party ∙ t.first

    opened : (p c : ℕ) (board : Option Value) (e : g.begun p ≡ some (c, board)) → history h p ≡ begun_by (a.begun p c board e).event (g.ending p)
    unfolding history operation_of
    opened p c board e =
        let t = a.begun p c board e in
        ap (λ (o : Option (Event Value)). operation_of o (end_at h p)) t.is ∙ ap (begun_by t.event) (end_recorded p c board e)

    pub history_write : (p c : ℕ) (v : Value) → g.begun p ≡ some (c, some v) → history h p ≡ write_of v (g.ending p)
    unfolding begun_by
    history_write p c v e =
        let t = a.begun p c (some v) e in
        opened p c (some v) e ∙ rw (t.opens.accepted, t.opens.coded.0, t.opens.coded.1)

    pub history_read : (p c : ℕ) → g.begun p ≡ some (c, none) → history h p ≡ read_of (g.ending p)
    unfolding begun_by
    history_read p c e =
        let t = a.begun p c none e in
        opened p c none e ∙ rw (t.opens.accepted, t.opens.coded)
