-- No answer depends on the store's order, or on places that are not in use: of two states that differ in these alone question 6 is answered
-- alike, a step gives one number and one answer, and leaves two such states, and a call that lends gives one element. Assumes nothing.
use Rattle.std.proofs.Common.{◌≡◌, ℕ, ◌+◌, Bool, true, false, cond, not, ◌&&◌, ◌||◌, eqb, leb, List, [], ◌∷◌, length, sym, refl, ap, ◌∙◌, subst, ap₂, subst₂, eqb-true}
use mathlib.Core.Option.{Option, none, some}
use native.Mathlib.Decide.{ℕ_discrete}
use borrow.Author.Tests.{not-true}
use Rattle.config.specs.declared.Config.{Config}
use Rattle.config.specs.Config.{Valid, board_length}
use Rattle.config.specs.Number.{server_number}
use Rattle.config.specs.Questions.{first_no, within}
use Rattle.laws.proofs.Bools.{and_left, and_right}
use Rattle.tag.specs.declared.Tag.{Tag}
use Rattle.tag.specs.Tag.{above, allowed, key, same}
use Rattle.tag.proofs.Order.{small}
use Rattle.record.specs.Element.{Element}
use Rattle.record.specs.Message.{Message}
use Rattle.record.specs.Record.{message_of}
use Rattle.protocol.specs.Alike.{StoredOnce, Reordered, SameButOrder, next, swap, then}
use Rattle.protocol.specs.Server.{Server, Stored, element_of, server_step}
use Rattle.protocol.proofs.Reordered.{answer_same, element_reordered, or_swap, reordered_long, server_same}
use Rattle.server.specs.declared.State.{State}
use Rattle.server.specs.declared.Stepped.{Stepped}
use Rattle.server.specs.Alike.{AlikeStates, AlikeSteps}
use Rattle.server.specs.Calls.{LendPost, StepPost, answer_bytes, lent_bytes, outcome, state_questions, step_questions}
use Rattle.server.specs.View.{view}
use Rattle.server.specs.Within.{among, every, floor_within, stored_lengths, lengths_within, once, server_within, state_within, tags_of, tags_within}
use Rattle.server.proofs.Asked.{state_valid, step_accepted}
use Rattle.server.proofs.Invariant.{tags-of, tags_stored}
use Rattle.server.proofs.Laws.{server-within, state_view}
use Rattle.server.proofs.Limits.{within_allowed, within_once}
use Rattle.server.proofs.Tags.{same_turned}

-- ---- question 6 of tags in another order

and_swap : (a b c : Bool) → a && (b && c) ≡ b && (a && c)
and_swap true b c = refl
and_swap false true c = refl
and_swap false false c = refl

once_swap : (a p q o : Bool) → not (a || p) && (not q && o) ≡ not (a || q) && (not p && o)
once_swap true p q o = refl
once_swap false true true o = refl
once_swap false true false o = refl
once_swap false false true o = refl
once_swap false false false o = refl

same_same : (x y : Tag) → same x y ≡ same y x
same_same x y = go (same x y) (same y x) refl refl
  where
    go : (a b : Bool) → same x y ≡ a → same y x ≡ b → a ≡ b
    go true true e f = refl
    go true false e f = sym e ∙ same_turned y x f
    go false true e f = sym (sym f ∙ same_turned x y e)
    go false false e f = refl

-- lists of tags, and of lengths
pub tags_reordered : {Element : Type 0} {xs ys : List (Stored Element)} → Reordered xs ys → Reordered (tags_of xs) (tags_of ys)
unfolding tags_of
tags_reordered Reordered.none = Reordered.none
tags_reordered (next r) = next (tags_reordered r)
tags_reordered swap = swap
tags_reordered (then r q) = then (tags_reordered r) (tags_reordered q)

pub lengths_reordered : {xs ys : List (Stored Element)} → Reordered xs ys → Reordered (stored_lengths xs) (stored_lengths ys)
unfolding stored_lengths
lengths_reordered Reordered.none = Reordered.none
lengths_reordered (next r) = next (lengths_reordered r)
lengths_reordered swap = swap
lengths_reordered (then r q) = then (lengths_reordered r) (lengths_reordered q)

pub among_reordered : (t : Tag) {ts us : List Tag} → Reordered ts us → among t ts ≡ among t us
unfolding among
among_reordered t Reordered.none = refl
among_reordered t (next {x = x} r) = ap (λ (b : Bool). same x t || b) (among_reordered t r)
among_reordered t (swap {x = x} {y = y} {xs = zs}) = or_swap (same x t) (same y t) (among t zs)
among_reordered t (then r q) = among_reordered t r ∙ among_reordered t q

pub every_reordered : {A : Type 0} (test : A → Bool) {ts us : List A} → Reordered ts us → every test ts ≡ every test us
unfolding every
every_reordered test Reordered.none = refl
every_reordered test (next {x = x} r) = ap (λ (b : Bool). test x && b) (every_reordered test r)
every_reordered test (swap {x = x} {y = y} {xs = zs}) = and_swap (test x) (test y) (every test zs)
every_reordered test (then r q) = every_reordered test r ∙ every_reordered test q

pub once_reordered : {ts us : List Tag} → Reordered ts us → once ts ≡ once us
unfolding once among
once_reordered Reordered.none = refl
once_reordered (next {x = x} r) = ap₂ {A = Bool} (λ (a b : Bool). not a && b) (among_reordered x r) (once_reordered r)
once_reordered (swap {x = x} {y = y} {xs = zs}) =
    once_swap (same y x) (among x zs) (among y zs) (once zs) ∙ ap (λ (b : Bool). not (b || among y zs) && (not (among x zs) && once zs)) (same_same y x)
once_reordered (then r q) = once_reordered r ∙ once_reordered q

floor_reordered : (cfg : Config) (f : Option Tag) {ts us : List Tag} → Reordered ts us → floor_within cfg f ts ≡ floor_within cfg f us
unfolding floor_within
floor_reordered cfg none r = refl
floor_reordered cfg (some f) r =
    ap₂ {A = ℕ} (λ (n : ℕ) (b : Bool). allowed cfg.c f && eqb n (cfg.d + 1) && b) (reordered_long r) (every_reordered (λ (x : Tag). above cfg x f) r)

pub within_reordered : (cfg : Config) (h : Tag) (f : Option Tag) {ts us : List Tag} → Reordered ts us → tags_within cfg h f ts ≡ tags_within cfg h f us
unfolding tags_within
within_reordered cfg h f r =
    rw (reordered_long r, every_reordered (allowed cfg.c) r, once_reordered r, floor_reordered cfg f r)

-- ---- question 6 of a server

pub within_alike : (cfg : Config) {v w : Server Element} → SameButOrder v w → server_within cfg v ≡ server_within cfg w
unfolding server_within lengths_within
within_alike cfg {v} {w} alike =
    ap₂ {A = Bool} (λ (a b : Bool). a && b)
    (within_reordered cfg v.highest v.floor (tags_reordered alike.stored)
    ∙ ap₂ (λ h f. tags_within cfg h f (tags_of w.stored)) alike.highest alike.floor)
    (every_reordered (λ (n : ℕ). leb n (board_length cfg)) (lengths_reordered alike.stored))

module _ {Element : Type 0} (cfg : Config) where
  -- where its tags are allowed and there once, they are once by their keys
  once_by_key : Valid cfg → (xs : List (Stored Element)) → every (allowed cfg.c) (tags_of xs) ≡ true → once (tags_of xs) ≡ true → StoredOnce (key cfg) xs
  unfolding every once tags_of StoredOnce
  once_by_key valid [] a o = tt
  once_by_key valid (x ∷ xs) a o =
      let ax = and_left (allowed cfg.c x.tag) (every (allowed cfg.c) (tags_of xs)) a in
      let axs = and_right (allowed cfg.c x.tag) (every (allowed cfg.c) (tags_of xs)) a in
      let gone = not-true (among x.tag (tags_of xs)) (and_left (not (among x.tag (tags_of xs))) (once (tags_of xs)) o) in (
        tags_stored cfg valid x.tag (small cfg valid x.tag ax) xs axs ∙ gone,
        once_by_key valid xs axs (and_right (not (among x.tag (tags_of xs))) (once (tags_of xs)) o),
      )

-- a server that passes question 6 has each stored tag once
pub server_once : (cfg : Config) → Valid cfg → (v : Server Element) → server_within cfg v ≡ true → StoredOnce (key cfg) v.stored
server_once cfg valid v h =
    let ts = tags_of v.stored in
    once_by_key cfg valid v.stored (within_allowed cfg v.highest v.floor ts (tags-of cfg v h)) (within_once cfg v.highest v.floor ts (tags-of cfg v h))

-- ---- the calls

module _ (cfg : Config) (s z : State) (storeS storeZ : List ℕ) (alike : AlikeStates cfg s z storeS storeZ) where
  abbrev v : Server Element
  v = view cfg s storeS

  abbrev w : Server Element
  w = view cfg z storeZ

  pub state_alike : state_within cfg s ≡ state_within cfg z
  state_alike =
      state_view cfg s storeS ∙ ap₂ (λ n b. within 1 cfg.n n && b) alike.me (within_alike cfg alike.seen) ∙ sym (state_view cfg z storeZ)

  -- questions 1 to 6 and 21 of a state have the same answers
  pub ask_alike : state_questions cfg s (length storeS) ≡ state_questions cfg z (length storeZ)
  unfolding state_questions
  ask_alike = rw (alike.long, state_alike)

  -- where they are answered yes, the protocol's server has each stored tag once
  view_once : Valid cfg → state_within cfg s ≡ true → StoredOnce (key cfg) v.stored
  view_once valid h = server_once cfg valid v (server-within cfg s storeS h)

  -- Lending: one number, and one part, the element or none.
  module _ (t : Tag) (lentS lentZ : List ℕ) (toldS toldZ : ℕ) (postS : LendPost cfg s t storeS lentS toldS) (postZ : LendPost cfg z t storeZ lentZ toldZ) where
    abbrev asked : ℕ
    asked = first_no (state_questions cfg s (length storeS))

    part_by : (b : Bool) → eqb asked 0 ≡ b
        → cond b (lent_bytes (element_of (key cfg) t v.stored)) [] ≡ cond b (lent_bytes (element_of (key cfg) t w.stored)) []
    part_by true e =
        let held = state_valid cfg s storeS (eqb-true asked 0 e) in
        ap lent_bytes (element_reordered (key cfg) t alike.seen.stored (view_once held.valid held.within))
    part_by false e = refl

    pub lend_alike : (toldS ≡ toldZ) × (lentS ≡ lentZ)
    lend_alike =
        let e : asked ≡ first_no (state_questions cfg z (length storeZ)) = ap first_no ask_alike in (
          postS.number ∙ e ∙ sym postZ.number,
          postS.part ∙ part_by (eqb asked 0) refl ∙ ap (λ n. cond (eqb n 0) (lent_bytes (element_of (key cfg) t w.stored)) []) e ∙ sym postZ.part,
        )

  -- Step: one number, one answer, and two such states.
  module _ (handed answer storeA storeB answerA answerB : List ℕ) (a b : Stepped) (postA : StepPost cfg s handed storeS answer storeA answerA a)
      (postB : StepPost cfg z handed storeZ answer storeB answerB b)
    where
      abbrev got : Message Element
      got = message_of cfg handed

      abbrev first_s : ℕ
      first_s = first_no (step_questions cfg s handed (length storeS) (length answer))

      abbrev first_z : ℕ
      first_z = first_no (step_questions cfg z handed (length storeZ) (length answer))

      first_one : first_s ≡ first_z
      unfolding step_questions
      first_one = rw (alike.long, state_alike, alike.me)

      -- an accepted step: the protocol's answers are one, and so are its servers
      module _ (e : first_s ≡ 0) where
        its_once : StoredOnce (key cfg) v.stored
        its_once =
            let held = (step_accepted cfg s handed (length storeS) (length answer) e).0 in
            view_once held.valid held.within

        answers_one : (outcome cfg s storeS got).answer ≡ (outcome cfg z storeZ got).answer
        answers_one =
            answer_same (key cfg) cfg.d v w alike.seen its_once (server_number s.me) got ∙ ap (λ n. (server_step (key cfg) cfg.d n w got).answer) alike.me

        servers_one : SameButOrder (outcome cfg s storeS got).server (outcome cfg z storeZ got).server
        servers_one =
            subst (λ n. SameButOrder (outcome cfg s storeS got).server (server_step (key cfg) cfg.d n w got).server) alike.me
            (server_same (key cfg) cfg.d v w alike.seen its_once (server_number s.me) got)

      answer_by : (b : Bool) → eqb first_s 0 ≡ b
          → cond b (answer_bytes cfg (outcome cfg s storeS got).answer answer) answer ≡ cond b (answer_bytes cfg (outcome cfg z storeZ got).answer answer) answer
      answer_by true e = ap (λ x. answer_bytes cfg x answer) (answers_one (eqb-true first_s 0 e))
      answer_by false e = refl

      -- what is left, on a refusal too
      seen_one : SameButOrder (view cfg a.state storeA) (view cfg b.state storeB)
      seen_one = elim (ℕ_discrete first_s 0) as (λ _. SameButOrder (view cfg a.state storeA) (view cfg b.state storeB)) [
        | yes e ↦ subst₂ SameButOrder (sym (postA.seen e)) (sym (postB.seen (sym first_one ∙ e))) (servers_one e)
        | no ne ↦
            let nz : first_z ≡ 0 → ⊥ = λ x. ne (first_one ∙ x) in
            let left = ap₂ (λ x l. view cfg x l) (postA.state ne) (postA.store ne) in
            let right = ap₂ (λ x l. view cfg x l) (postB.state nz) (postB.store nz) in
            subst₂ SameButOrder (sym left) (sym right) alike.seen
      ]

      pub step_alike : AlikeSteps cfg a b storeA storeB answerA answerB
      step_alike =
          record {
            number = postA.number ∙ first_one ∙ sym postB.number;
            answer =
                postA.answer ∙ answer_by (eqb first_s 0) refl
                ∙ ap (λ n. cond (eqb n 0) (answer_bytes cfg (outcome cfg z storeZ got).answer answer) answer) first_one ∙ sym postB.answer;
            states = record {
              me = ap server_number postA.me ∙ alike.me ∙ sym (ap server_number postB.me);
              long = postA.long ∙ alike.long ∙ sym postB.long;
              seen = seen_one;
            };
          }
