-- What a server sends: an answer to each message of a kind that it receives, and kind 9 exactly where the tag is not stored and at or below the floor; of the
-- protocol's step, and of the call. Assumes nothing.
use Rattle.std.proofs.Common.{◌≡◌, ℕ, Bool, true, false, cond, ◌||◌, eqb, ◌↔◌, List, [], ◌∷◌, length, sym, refl, ap, ◌∙◌, true≢false, arith, eq-eqb}
use Rattle.std.specs.Prelude.{None}
use mathlib.Core.Bool.{false≢true}
use mathlib.Core.Option.{Option, none, some}
use Rattle.config.specs.declared.Config.{Config}
use Rattle.config.specs.Number.{server_number}
use Rattle.config.specs.Questions.{first_no}
use Rattle.config.specs.Refusal.{verdict_number}
use Rattle.laws.proofs.Bools.{and_right}
use Rattle.tag.specs.declared.Tag.{Tag}
use Rattle.tag.specs.Tag.{key as key_of}
use Rattle.record.specs.declared.Kind.{Kind}
use Rattle.record.specs.declared.Kind.TheVariants.{Query, QueryAnswer, PreWrite, PreWriteAnswer, WriteFinalise, WriteFinaliseAnswer, ReadFinalise, ReadFinaliseAnswer, Cleared}
use Rattle.record.specs.Element.{Element}
use Rattle.record.specs.Kinds.{is_for_server}
use Rattle.record.specs.Message.{Message}
use Rattle.record.specs.Record.{four_bytes, header_bytes, kind_at, kind_number, message_of, record_of, two_bytes}
use Rattle.protocol.specs.Server.{Server, Served, Stored, answer_to, at_or_below_floor, element_of, finalised, is_stored, pre_write, query, read_answer, read_finalise, server_step, server_step_of, write_finalise}
use Rattle.protocol.specs.Tags.{higher, same_key}
use Rattle.protocol.proofs.Basics.{none≢some, some-injective}
use Rattle.server.specs.declared.State.{State}
use Rattle.server.specs.declared.Stepped.{Stepped}
use Rattle.server.specs.Calls.{StepPost, outcome, step_questions}
use Rattle.server.specs.View.{floor_of, view}
use Rattle.server.proofs.Asked.{step_accepted}

-- whether a tag is stored, and its element, by what is stored
stored_elim : {Element : Type 0} (key : Tag → ℕ) (P : Bool → Option Element → Type 0) → ((e : Element) → P true (some e)) → P false none
    → (t : Tag) (xs : List (Stored Element)) → P (is_stored key t xs) (element_of key t xs)
unfolding is_stored element_of
stored_elim key P held not-held t [] = not-held
stored_elim key P held not-held t (x ∷ xs) = go (same_key key x.tag t) (stored_elim key P held not-held t xs)
  where
    go : (b : Bool) → P (is_stored key t xs) (element_of key t xs) → P (b || is_stored key t xs) (cond b (some x.element) (element_of key t xs))
    go true rest = held x.element
    go false rest = rest

-- kind 9 is due: a read finalise of a tag that is not stored and is at or below the floor
abbrev pub Due : {Element : Type 0} → (Tag → ℕ) → Server Element → Message Element → Type 0
Due key v m = (m.kind ≡ ReadFinalise) × (is_stored key m.tag v.stored ≡ false) × (at_or_below_floor key m.tag v.floor ≡ true)

cleared_by : (b : Bool) → kind_number (cond b Cleared ReadFinaliseAnswer) ≡ 9 → b ≡ true
cleared_by true h = refl
cleared_by false h = absurd (omega arith)

-- the protocol's step of server s on a message
module _ {Element : Type 0} (key : Tag → ℕ) (d s : ℕ) (v : Server Element) (m : Message Element) where
  abbrev o : Served Element
  o = server_step key d s v m

  answers_by : (kind : Kind) → is_for_server kind ≡ true → (x : Message Element) × ((server_step_of kind key d s v m).answer ≡ some x)
  unfolding server_step_of query pre_write write_finalise read_finalise
  answers_by Query h = (_, refl)
  answers_by QueryAnswer h = absurd (false≢true h)
  answers_by PreWrite h = (_, refl)
  answers_by PreWriteAnswer h = absurd (false≢true h)
  answers_by WriteFinalise h = (_, refl)
  answers_by WriteFinaliseAnswer h = absurd (false≢true h)
  answers_by ReadFinalise h = (_, refl)
  answers_by ReadFinaliseAnswer h = absurd (false≢true h)
  answers_by Cleared h = absurd (false≢true h)

  -- a server answers each message of a kind that it receives
  pub answers_each : is_for_server m.kind ≡ true → (x : Message Element) × (o.answer ≡ some x)
  unfolding server_step
  answers_each = answers_by m.kind

  -- "Read finalise of t: H likewise.", whatever the answer
  pub read_raises : m.kind ≡ ReadFinalise → o.server ≡ finalised key v m.tag
  unfolding server_step server_step_of read_finalise
  read_raises k = ap (λ (kind : Kind). (server_step_of kind key d s v m).server) k

  -- where kind 9 is due it is the answer, and "repeats client, operation number and tag and has no element"
  pub cleared_sent : Due key v m → o.answer ≡ some (answer_to s m Cleared m.tag none)
  unfolding server_step server_step_of read_finalise read_answer
  cleared_sent due =
      ap (λ (kind : Kind). (server_step_of kind key d s v m).answer) due.0
      ∙ ap some
      (stored_elim key (λ b e. b ≡ false → read_answer key s v.floor m e ≡ answer_to s m Cleared m.tag none) (λ e z. absurd (true≢false z))
      (λ _. ap (λ (b : Bool). answer_to s m (cond b Cleared ReadFinaliseAnswer) m.tag none) due.2) m.tag v.stored due.1)

  only_read : kind_number (read_answer key s v.floor m (element_of key m.tag v.stored)).kind ≡ 9
      → (is_stored key m.tag v.stored ≡ false) × (at_or_below_floor key m.tag v.floor ≡ true)
  unfolding read_answer answer_to
  only_read =
      let below = at_or_below_floor key m.tag v.floor in
      stored_elim key (λ b e. kind_number (read_answer key s v.floor m e).kind ≡ 9 → (b ≡ false) × (below ≡ true)) (λ e h. absurd (omega arith))
      (λ h. (refl, cleared_by below h)) m.tag v.stored

  nine_of : (y x : Message Element) → some y ≡ some x → kind_number x.kind ≡ 9 → kind_number y.kind ≡ 9
  nine_of y x e nine = ap (λ (z : Message Element). kind_number z.kind) (some-injective e) ∙ nine

  only_by : (kind : Kind) (x : Message Element) → (server_step_of kind key d s v m).answer ≡ some x → kind_number x.kind ≡ 9
      → (kind ≡ ReadFinalise) × (is_stored key m.tag v.stored ≡ false) × (at_or_below_floor key m.tag v.floor ≡ true)
  unfolding server_step_of query pre_write write_finalise read_finalise answer_to
  only_by Query x e nine = absurd (omega (arith, nine_of _ x e nine))
  only_by QueryAnswer x e nine = absurd (none≢some e)
  only_by PreWrite x e nine = absurd (omega (arith, nine_of _ x e nine))
  only_by PreWriteAnswer x e nine = absurd (none≢some e)
  only_by WriteFinalise x e nine = absurd (omega (arith, nine_of _ x e nine))
  only_by WriteFinaliseAnswer x e nine = absurd (none≢some e)
  only_by ReadFinalise x e nine = let r = only_read (nine_of _ x e nine) in (refl, r.0, r.1)
  only_by ReadFinaliseAnswer x e nine = absurd (none≢some e)
  only_by Cleared x e nine = absurd (none≢some e)

  -- kind 9 is the answer exactly where it is due
  pub cleared_exactly : ((x : Message Element) × (o.answer ≡ some x) × (kind_number x.kind ≡ 9)) ↔ Due key v m
  unfolding server_step answer_to
  cleared_exactly = (λ a. only_by m.kind a.0 a.1 a.2, λ due. (answer_to s m Cleared m.tag none, cleared_sent due, refl))

  floor_by : (f : Option Tag) → f ≡ none → at_or_below_floor key m.tag f ≡ true → ⊥
  unfolding at_or_below_floor
  floor_by none e h = false≢true h
  floor_by (some f) e h = none≢some (sym e)

  -- so never without a floor
  pub cleared_has_floor : (x : Message Element) → o.answer ≡ some x → kind_number x.kind ≡ 9 → v.floor ≡ none → ⊥
  cleared_has_floor x e nine bare = floor_by v.floor bare (cleared_exactly.0 (x, e, nine)).2

-- an accepted step of the call
module _ (cfg : Config) (s : State) (handed store answer storeAfter answerAfter : List ℕ) (r : Stepped)
    (post : StepPost cfg s handed store answer storeAfter answerAfter r) (accepted : verdict_number r.verdict ≡ 0) where
  abbrev got : Message Element
  got = message_of cfg handed

  abbrev me : ℕ
  me = server_number s.me

  abbrev seen : Server Element
  seen = view cfg s store

  first : first_no (step_questions cfg s handed (length store) (length answer)) ≡ 0
  first = sym post.number ∙ accepted

  answer_is : (x : Message Element) → (outcome cfg s store got).answer ≡ some x → answerAfter ≡ record_of cfg x
  answer_is x e = post.answer ∙ rw (eq-eqb (first_no (step_questions cfg s handed (length store) (length answer))) 0 first, e)

  -- it writes the record of the protocol's answer: there is always one
  pub step_answers : (x : Message Element) × ((outcome cfg s store got).answer ≡ some x) × (answerAfter ≡ record_of cfg x)
  step_answers =
      let mine = (step_accepted cfg s handed (length store) (length answer) first).1 in
      let a = answers_each (key_of cfg) cfg.d me seen got (and_right (eqb got.server me) (is_for_server got.kind) mine) in
      (a.0, a.1, answer_is a.0 a.1)

  kind_is : (x : Message Element) → answerAfter ≡ record_of cfg x → kind_at answerAfter ≡ kind_number x.kind
  unfolding record_of header_bytes four_bytes two_bytes
  kind_is x e = ap kind_at e

  -- "Where a server step gave 15 it now sends a record of kind 9, which repeats client, operation number and tag and has no element."
  pub step_cleared : Due (key_of cfg) seen got → answerAfter ≡ record_of cfg (answer_to me got Cleared got.tag none)
  step_cleared due = answer_is _ (cleared_sent (key_of cfg) cfg.d me seen got due)

  sent_nine : kind_at answerAfter ≡ 9 → (x : Message Element) × ((outcome cfg s store got).answer ≡ some x) × (kind_number x.kind ≡ 9)
  sent_nine nine = let a = step_answers in (a.0, a.1, sym (kind_is a.0 a.2) ∙ nine)

  -- it sends kind 9 exactly where kind 9 is due
  pub step_cleared_exactly : kind_at answerAfter ≡ 9 ↔ Due (key_of cfg) seen got
  unfolding answer_to
  step_cleared_exactly = (λ nine. (cleared_exactly (key_of cfg) cfg.d me seen got).0 (sent_nine nine), λ due. kind_is _ (step_cleared due))

  -- so never without a floor
  pub step_cleared_has_floor : kind_at answerAfter ≡ 9 → s.floor ≡ None → ⊥
  unfolding view
  step_cleared_has_floor nine bare =
      let a = sent_nine nine in
      cleared_has_floor (key_of cfg) cfg.d me seen got a.0 a.1 a.2 (ap floor_of bare)

  -- a read finalise raises H, whatever the kind of its answer
  pub step_read_raises : got.kind ≡ ReadFinalise → r.state.highest ≡ higher (key_of cfg) s.highest got.tag
  unfolding view finalised
  step_read_raises k = ap (λ (x : Server Element). x.highest) (post.seen first ∙ read_raises (key_of cfg) cfg.d me seen got k)
