-- A server is handed a good message: it stays good, its highest tag does not fall, and what it answers is good.
use Prim.Native.Nat.{ℕ, ◌+◌, ◌≤◌}
use mathlib.Core.Path.{◌≡◌, refl, sym, ◌∙◌, ap, subst}
use mathlib.Core.Logic.{⊎_elim}
use mathlib.Core.Bool.{cond}
use mathlib.Core.Option.{Option, none, some}
use mathlib.Core.List.Memᴰ
use mathlib.Core.List.{List, ◌++◌, Memᴰ}
use native.Mathlib.Nat.{le_refl}
use native.Mathlib.Omega.{arith}
use Rattle.tag.specs.declared.Tag.{Tag}
use Rattle.record.specs.declared.Kind.{Kind}
use Rattle.record.specs.declared.Kind.TheVariants.{Query, QueryAnswer, PreWrite, PreWriteAnswer, WriteFinalise, WriteFinaliseAnswer, ReadFinalise, ReadFinaliseAnswer, Cleared}
use Rattle.record.specs.Message.{Message}
use Rattle.protocol.specs.Number.{to_list}
use Rattle.record.specs.Record.{kind_number}
use Rattle.protocol.specs.Server.{Server, Served, Stored, element_of, at_or_below_floor, store_element, finalised, answer_to, query, pre_write, write_finalise, read_answer, read_finalise, server_step_of, server_step}
use Rattle.protocol.specs.Parties.{Parties, with_server}
use Rattle.protocol.proofs.Basics.{cond_elim, upd_same, none≢some, some-injective}
use Rattle.protocol.proofs.Store.{higher_left, higher_right, higher_elim, store_mem, store_highest, found}
use Rattle.protocol.proofs.World.{Setting, Ghost, know, Known, GoodMessage, GoodStored, GoodServer, Good}
use Rattle.protocol.proofs.Monotone.{known_up}
use Rattle.protocol.proofs.Change.{server_rises, server_changed}

-- what holds of the message sent, if there is one, holds of all that are sent
sent_all : {A : Type 0} (P : A → Type 0) (o : Option A) → ((x : A) → o ≡ some x → P x) → (y : A) → Memᴰ y (to_list o) → P y
unfolding to_list
sent_all P none h y i = absurd (Memᴰ.not-nil i)
sent_all P (some x) h y i = subst P (sym (Memᴰ.eq_of_singleton i)) (h x refl)

module _ (S : Setting) where
  open S use {Value, Element, cfg, key, encode}

  module _ {ps : Parties Value Element} {ms : List (Message Element)} {g : Ghost S} {now : ℕ} (a : Good S ps ms g now) (m : Message Element) (good : GoodMessage S (know S ps g) m) where
    abbrev s : ℕ
    s = m.server

    abbrev v : Server Element
    v = ps.servers s

    -- what the server's step leaves is good
    abbrev Left : Served Element → Type 0
    Left o = Good S (with_server ps s o.server) (ms ++ to_list o.answer) g now

    -- an answer to m is good, once server s has the state w
    reply_good : (w : Server Element) (kind : Kind) (t : Tag) (e : Option Element) (known : Known S (know S ps g) t) → key v.highest ≤ key w.highest → ((x : Element) → e ≡ some x → x ≡ encode known.board s) → (kind_number kind ≡ 2 → g.base m.client s ≤ key t) → (kind_number kind ≡ 6 → key t ≤ key w.highest) → (kind_number kind ≡ 8 → key t ≤ key w.highest) → GoodMessage S (know S (with_server ps s w) g) (answer_to s m kind t e)
    unfolding answer_to know with_server
    reply_good w kind t e known rises element two six eight =
        record {
          begun = good.begun;
          known = known_up S (server_rises S a s w rises) known;
          element = element;
          query = λ h o. two h;
          write_finalised = λ h. rw (upd_same ps.servers s w) (six h);
          read_finalised = λ h. rw (upd_same ps.servers s w) (eight h);
        }

    -- server s comes to the state w and answers o
    turn : (w : Server Element) (o : Option (Message Element)) → key v.highest ≤ key w.highest → GoodServer S (know S ps g) s w → ((x : Message Element) → o ≡ some x → GoodMessage S (know S (with_server ps s w) g) x) → Left (record { server = w; answer = o })
    turn w o rises kept sent =
        server_changed S a s w rises (to_list o) kept (sent_all (GoodMessage S (know S (with_server ps s w) g)) o sent)

    query_good : Left (query s v m)
    unfolding query
    query_good =
        turn v (some (answer_to s m QueryAnswer v.highest none)) (le_refl _) (a.servers s)
        (λ x e. subst (GoodMessage S (know S (with_server ps s v) g)) (some-injective e)
        (reply_good v QueryAnswer v.highest none (a.servers s).known (le_refl _) (λ y h. absurd (none≢some h)) (λ h. a.base m.client s) (λ h. omega arith) (λ h. omega arith)))

    -- the state after a pre-write is good
    stored_good : (e : Option Element) → m.element ≡ e → GoodServer S (know S ps g) s (store_element key cfg.d v m.tag e)
    unfolding store_element
    stored_good none h = a.servers s
    stored_good (some e) h =
        let y : Stored Element = record { tag = m.tag; element = e } in
        record {
          known = subst (Known S (know S ps g)) (sym (store_highest key cfg.d v y)) (a.servers s).known;
          stored = λ x i.
              ⊎_elim
              (λ j. subst (GoodStored S (know S ps g) s) (sym j) (record { board = good.known.board; is = good.known.is; element = good.element e h }))
              ((a.servers s).stored x)
              (store_mem key cfg.d v y x i);
        }

    stored_highest : (e : Option Element) → (store_element key cfg.d v m.tag e).highest ≡ v.highest
    unfolding store_element
    stored_highest none = refl
    stored_highest (some e) = store_highest key cfg.d v (record { tag = m.tag; element = e })

    pre_write_good : Left (pre_write key cfg.d s v m)
    unfolding pre_write
    pre_write_good =
        let w = store_element key cfg.d v m.tag m.element in
        let o = some (answer_to s m PreWriteAnswer m.tag none) in
        let rises : key v.highest ≤ key w.highest = rw (stored_highest m.element) (le_refl _) in
        turn w o rises (stored_good m.element refl)
        (λ x e. subst (GoodMessage S (know S (with_server ps s w) g)) (some-injective e)
        (reply_good w PreWriteAnswer m.tag none good.known rises (λ y h. absurd (none≢some h)) (λ h. absurd (omega arith)) (λ h. absurd (omega arith)) (λ h. absurd (omega arith))))

    -- the state after a finalise is good, and has the tag
    finalised_rises : key v.highest ≤ key (finalised key v m.tag).highest
    unfolding finalised
    finalised_rises = higher_left key v.highest m.tag

    finalised_has : key m.tag ≤ key (finalised key v m.tag).highest
    unfolding finalised
    finalised_has = higher_right key v.highest m.tag

    finalised_good : GoodServer S (know S ps g) s (finalised key v m.tag)
    unfolding finalised
    finalised_good =
        record {
          known = higher_elim key (Known S (know S ps g)) v.highest m.tag (a.servers s).known good.known;
          stored = (a.servers s).stored;
        }

    write_finalise_good : Left (write_finalise key s v m)
    unfolding write_finalise
    write_finalise_good =
        let w = finalised key v m.tag in
        let o = some (answer_to s m WriteFinaliseAnswer m.tag none) in
        turn w o finalised_rises finalised_good
        (λ x e. subst (GoodMessage S (know S (with_server ps s w) g)) (some-injective e)
        (reply_good w WriteFinaliseAnswer m.tag none good.known finalised_rises (λ y h. absurd (none≢some h)) (λ h. absurd (omega arith)) (λ h. finalised_has) (λ h. finalised_has)))

    -- an element found in the store is that of the message's tag
    found_good : (e : Element) → element_of key m.tag v.stored ≡ some e → e ≡ encode good.known.board s
    unfolding know
    found_good e h =
        let x = found key m.tag e v.stored h in
        let st = (a.servers s).stored x.0 x.1 in
        let boards : st.board ≡ good.known.board = some-injective (sym st.is ∙ ap g.bytes x.2 ∙ good.known.is) in
        sym x.3 ∙ st.element ∙ ap (λ (b : Value). encode b s) boards

    -- without an element it is kind 8 or 9
    bare_kind : kind_number (cond (at_or_below_floor key m.tag v.floor) Cleared ReadFinaliseAnswer) ≡ 2 → ⊥
    bare_kind =
        cond_elim (λ (kind : Kind). kind_number kind ≡ 2 → ⊥) (at_or_below_floor key m.tag v.floor) Cleared ReadFinaliseAnswer (λ e h. omega arith) (λ e h. omega arith)

    read_answer_good : (w : Server Element) → key v.highest ≤ key w.highest → key m.tag ≤ key w.highest → (e : Option Element) → element_of key m.tag v.stored ≡ e → GoodMessage S (know S (with_server ps s w) g) (read_answer key s v.floor m e)
    unfolding read_answer
    read_answer_good w rises has (some e) h =
        reply_good w ReadFinaliseAnswer m.tag (some e) good.known rises (λ y j. sym (some-injective j) ∙ found_good e h) (λ j. absurd (omega arith)) (λ j. has) (λ j. has)
    read_answer_good w rises has none h =
        reply_good w (cond (at_or_below_floor key m.tag v.floor) Cleared ReadFinaliseAnswer) m.tag none good.known rises (λ y l. absurd (none≢some l)) (λ l. absurd (bare_kind l)) (λ l. has) (λ l. has)

    -- the server has the tag once it was told to finalise it for a read
    read_finalised_has : key m.tag ≤ key (read_finalise key s v m).server.highest
    unfolding read_finalise
    read_finalised_has = finalised_has

    read_finalised_rises : key v.highest ≤ key (read_finalise key s v m).server.highest
    unfolding read_finalise
    read_finalised_rises = finalised_rises

    read_finalised_good : GoodServer S (know S ps g) s (read_finalise key s v m).server
    unfolding read_finalise
    read_finalised_good = finalised_good

    read-answered : (x : Message Element) → (read_finalise key s v m).answer ≡ some x → read_answer key s v.floor m (element_of key m.tag v.stored) ≡ x
    unfolding read_finalise
    read-answered x e = some-injective e

    read_finalise_good : Left (read_finalise key s v m)
    read_finalise_good =
        turn (read_finalise key s v m).server (read_finalise key s v m).answer read_finalised_rises read_finalised_good
        (λ x e. subst (GoodMessage S (know S (with_server ps s (read_finalise key s v m).server) g)) (read-answered x e)
        (read_answer_good (read_finalise key s v m).server read_finalised_rises read_finalised_has (element_of key m.tag v.stored) refl))

    silent_good : Left (record { server = v; answer = none })
    silent_good = turn v none (le_refl _) (a.servers s) (λ x e. absurd (none≢some e))

    step_good : (kind : Kind) → Left (server_step_of kind key cfg.d s v m)
    unfolding server_step_of
    step_good Query = query_good
    step_good QueryAnswer = silent_good
    step_good PreWrite = pre_write_good
    step_good PreWriteAnswer = silent_good
    step_good WriteFinalise = write_finalise_good
    step_good WriteFinaliseAnswer = silent_good
    step_good ReadFinalise = read_finalise_good
    step_good ReadFinaliseAnswer = silent_good
    step_good Cleared = silent_good

    pub server_good : Left (server_step key cfg.d s v m)
    unfolding server_step
    server_good = step_good m.kind
