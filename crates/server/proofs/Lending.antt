-- The element of a stored tag, as a part of the store. Assumes nothing.
use Rattle.std.specs.Prelude.{Option as Given, None, Some, Ok, Err}
use Rattle.std.proofs.Common.{◌≡◌, ℕ, ◌+◌, ◌-◌, ◌*◌, ◌<◌, ◌≤◌, List, [], length, take, drop, sym, refl, ap, ◌∙◌, subst, mul-le-mul_right, mul-le-mul, zero-add, arith, length-drop, length-take, le-ltb, lt-ltb, eq-eqb, ne_eqb}
use mathlib.Core.Option.{Option, none, some}
use native.Mathlib.Decide.{dec_lt}
use Rattle.laws.proofs.Parts as parts
use Rattle.config.specs.declared.Config.{Config}
use Rattle.config.specs.Questions.{first_no}
use Rattle.tag.specs.declared.Tag.{Tag}
use Rattle.tag.specs.Tag.{key}
use Rattle.tag.proofs.Order.{Small}
use Rattle.record.specs.Element.{Element, element_with}
use Rattle.protocol.specs.Server.{element_of}
use Rattle.protocol.proofs.Basics.{none≢some, some-injective}
use Rattle.config.specs.declared.Refusal.{Refusal}
use Rattle.config.specs.Refusal.{refusal_number}
use Rattle.config.proofs.Refusals.{refusal_some}
use Rattle.server.specs.declared.State.{State}
use Rattle.server.specs.Calls.{FindPost, LendPost, element_place, found_place, lent_bytes, state_questions}
use Rattle.server.specs.Within.{ValidState}
use Rattle.server.specs.View.{element_at, place_at, place_in, stored_length, tags_used, view}
use Rattle.server.proofs.Asked.{state_valid}
use Rattle.server.proofs.Limits.{state_allowed, state_count, state_eight}
use Rattle.server.proofs.Lists.{element_found, element_missed}

module _ (cfg : Config) (s : State) (t : Tag) (store : List ℕ) (held : ValidState cfg s store) (p : ℕ) where
  pub element_there : Small t → p ≡ place_in t (tags_used s) → p < s.count → element_of (key cfg) t (view cfg s store).stored
      ≡ some (element_with (stored_length s.lengths p) (element_at cfg store p))
  unfolding view
  element_there st e h =
      let l : place_in t (tags_used s) < s.count = omega arith in
      element_found cfg held.valid (place_at cfg s.tags s.lengths store) t st 0 s.count (state_allowed cfg s held.within) l
      ∙ ap {B = Option Element} (λ j. some (element_with (stored_length s.lengths j) (element_at cfg store j))) (zero-add (place_in t (tags_used s)) ∙ sym e)

  pub element_nowhere : Small t → p ≡ place_in t (tags_used s) → s.count ≤ p → element_of (key cfg) t (view cfg s store).stored ≡ none
  unfolding view
  element_nowhere st e h =
      let l : s.count ≤ place_in t (tags_used s) = omega arith in
      element_missed cfg held.valid (place_at cfg s.tags s.lengths store) t st 0 s.count (state_allowed cfg s held.within) l

  -- its part lies in the store, and its offset is small
  pub part_fits : p < s.count → p * cfg.e + cfg.e ≤ length store
  part_fits h =
      let m : s.count * cfg.e ≤ (cfg.d + 1) * cfg.e = mul-le-mul_right cfg.e (state_count cfg s held.within) in
      omega (arith, held.long, parts.part_fits p s.count cfg.e h)

  pub part_low : p < s.count → p * cfg.e + cfg.e ≤ 512
  part_low h =
      let m : s.count * cfg.e ≤ 512 = mul-le-mul (state_eight cfg s held.within held.valid) held.valid.e_high in
      omega (arith, parts.part_fits p s.count cfg.e h)

  pub part_is : take ((p * cfg.e + cfg.e) - p * cfg.e) (drop (p * cfg.e) store) ≡ element_at cfg store p
  part_is =
      let n : (p * cfg.e + cfg.e) - p * cfg.e ≡ cfg.e = omega arith in
      ap (λ (k : ℕ). take k (drop (p * cfg.e) store)) n

  pub part_long : p < s.count → length (element_at cfg store p) ≡ cfg.e
  part_long h = length-take cfg.e (drop (p * cfg.e) store) ∙ omega (arith, length-drop (p * cfg.e) store, part_fits h)

-- where the element of a tag stands
module _ (cfg : Config) (s : State) (t : Tag) where
  abbrev first_place : ℕ
  first_place = place_in t (tags_used s)

  pub place_there : first_place < s.count → element_place cfg s t ≡ some (first_place * cfg.e)
  unfolding element_place
  place_there h = rw (lt-ltb first_place s.count h)

  pub place_nowhere : s.count ≤ first_place → element_place cfg s t ≡ none
  unfolding element_place
  place_nowhere h = rw (le-ltb first_place s.count h)

  pub place_found : (i : ℕ) → element_place cfg s t ≡ some i → (first_place < s.count) × (i ≡ first_place * cfg.e)
  place_found i e = elim (dec_lt first_place s.count) as (λ _. (first_place < s.count) × (i ≡ first_place * cfg.e)) [
    | yes h ↦ (h, some-injective (sym e ∙ place_there h))
    | no n ↦ absurd (none≢some (sym (place_nowhere (omega arith)) ∙ e))
  ]

  pub place_not_found : element_place cfg s t ≡ none → s.count ≤ first_place
  place_not_found e = elim (dec_lt first_place s.count) as (λ _. s.count ≤ first_place) [
    | yes h ↦ absurd (none≢some (sym e ∙ place_there h))
    | no n ↦ omega arith
  ]

-- what is found
module _ (cfg : Config) (s : State) (t : Tag) (long : ℕ) where
  abbrev asked : ℕ
  asked = first_no (state_questions cfg s long)

  pub found_no : {why : Refusal} → refusal_number why ≡ asked → FindPost cfg s t long (Err why)
  found_no {why} e = record { number = e; place = rw (ne_eqb asked 0 (refusal_some why e).1) }

  module _ (passed : 0 ≡ asked) (p : ℕ) (e : p ≡ place_in t (tags_used s)) where
    pub found_nowhere : s.count ≤ p → FindPost cfg s t long (Ok None)
    found_nowhere h = record { number = passed; place = rw (eq-eqb asked 0 (sym passed)) (sym (place_nowhere cfg s t (omega arith))) }

    pub found_at : p < s.count → FindPost cfg s t long (Ok (Some (p * cfg.e)))
    found_at h =
        record {
          number = passed;
          place = rw (eq-eqb asked 0 (sym passed)) (ap (λ (i : ℕ). some (i * cfg.e)) e ∙ sym (place_there cfg s t (omega arith)));
        }

-- what is lent
module _ (cfg : Config) (s : State) (t : Tag) (store : List ℕ) where
  abbrev first-no : ℕ
  first-no = first_no (state_questions cfg s (length store))

  -- nothing is refused: the state is one that passes question 6, and the place is that of the element
  module _ {given : Given ℕ} (f : FindPost cfg s t (length store) (Ok given)) (st : Small t) where
    pub found_held : ValidState cfg s store
    found_held = state_valid cfg s store (sym f.number)

    found-place : found_place (Ok given) ≡ element_place cfg s t
    found-place = f.place ∙ rw (eq-eqb first-no 0 (sym f.number))

    lent-part : (o : Option Element) (part : List ℕ) → element_of (key cfg) t (view cfg s store).stored ≡ o → part ≡ lent_bytes o
        → LendPost cfg s t store part 0
    lent-part o part e h = record { number = f.number; part = h ∙ rw (eq-eqb first-no 0 (sym f.number), e) }

  pub lent_nowhere : FindPost cfg s t (length store) (Ok None) → Small t → LendPost cfg s t store [] 0
  lent_nowhere f st =
      lent-part f st none []
      (element_nowhere cfg s t store (found_held f st) (place_in t (tags_used s)) st refl (place_not_found cfg s t (sym (found-place f st)))) refl

  module _ (i : ℕ) (f : FindPost cfg s t (length store) (Ok (Some i))) (st : Small t) where
    its_place : (place_in t (tags_used s) < s.count) × (i ≡ place_in t (tags_used s) * cfg.e)
    its_place = place_found cfg s t i (sym (found-place f st))

    pub lent_fits : i + cfg.e ≤ length store
    lent_fits =
        subst (λ (j : ℕ). j + cfg.e ≤ length store) (sym its_place.1) (part_fits cfg s t store (found_held f st) (place_in t (tags_used s)) its_place.0)

    pub lent_low : i + cfg.e ≤ 512
    lent_low = subst (λ (j : ℕ). j + cfg.e ≤ 512) (sym its_place.1) (part_low cfg s t store (found_held f st) (place_in t (tags_used s)) its_place.0)

    pub lent_at : LendPost cfg s t store (take ((i + cfg.e) - i) (drop i store)) 0
    lent_at =
        let p = place_in t (tags_used s) in
        lent-part f st (some _) _ (element_there cfg s t store (found_held f st) p st refl its_place.0)
        (ap (λ (j : ℕ). take ((j + cfg.e) - j) (drop j store)) its_place.1 ∙ part_is cfg s t store (found_held f st) p)
