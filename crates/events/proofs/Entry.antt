-- The head of an event: questions 1 to 6 and 21. In order: the number of such questions; a part, refused by it and not; a rig, likewise, by the part
-- that the event names. Assumes nothing.
use Prim.Native.Nat.{ℕ, ◌*◌, ◌≤◌, ◌<◌}
use mathlib.Core.Path.{◌≡◌, refl, sym, ap, ap₂, subst, ◌∙◌}
use mathlib.Core.Bool.{Bool, true, false, ◌&&◌, true≢false}
use mathlib.Core.List.{List, [], ◌∷◌, ◌++◌, append_assoc}
use native.Mathlib.Omega.{arith}
use native.Mathlib.Decide.{ℕ_discrete}
use borrow.Author.Tests.{eq-eqb, eqb-true, leb-true}
use lib.Dec.{eqb, leb}
use lib.ListN.{length, get_elem?}
use Rattle.laws.proofs.Bools.{and_left, and_right}
use Rattle.config.specs.declared.Config.{Config}
use Rattle.config.specs.declared.Refusal.{Refusal}
use Rattle.config.specs.Config.{Valid, board_length, rig_questions, store_length}
use Rattle.config.specs.Questions.{ask, first_no, numbered}
use Rattle.config.specs.Refusal.{refusal_number}
use Rattle.config.proofs.Refusals.{refusal_some}
use Rattle.config.proofs.Questions.{Given, first_no_given, first_no_stop, last_all, last_no, last_yes, numbered_both, rig_questions_numbered}
use Rattle.config.proofs.Valid.{rig_most, rig_valid}
use Rattle.protocol.specs.Board.{refused}
use Rattle.protocol.specs.Boards.{cut, write_fits}
use Rattle.protocol.specs.Rig.{code_of}
use Rattle.protocol.proofs.Cut.{length_cut}
use Rattle.parties.specs.declared.Answer.{Answer}
use Rattle.events.specs.declared.Call.{Call}
use Rattle.events.specs.declared.Change.{Change}
use Rattle.events.specs.declared.Part.{Part}
use Rattle.events.specs.declared.Rig.{Rig}
use Rattle.events.specs.declared.Turn.{Turn}
use Rattle.events.specs.View.{Lent}
use Rattle.parties.specs.Within.{client_in_place, server_in_place}
use Rattle.events.specs.Questions.{all_sized, event_questions, has_places, later_questions, parties_within, part_questions, part_within, places_of, rig_within, sized}
use Rattle.events.specs.Calls.{ChangePost, EventPost, PartOf, called, event_no, part_no, turned, with_part}
use Rattle.events.specs.inner.Part.{Names, refusing}
use Rattle.events.specs.inner.Turn.{TurnPost, TurnPre}
use Rattle.laws.specs.Below.{all_below}
use Rattle.laws.proofs.Below.{below_at}
use Rattle.events.proofs.Pairs.{put_same}
use Rattle.events.proofs.Lengths.{boards_are, elements_are, messages_are, stores_are}
use Rattle.events.proofs.named.Laws.{names_client, names_server}
use Rattle.events.proofs.outcome.Laws.{refused_event}

-- ---- the number of 1 to 6 and 21

-- a last question that fails where another does
stricter : (cfg : Config) (m : ℕ) (x y : Bool) (got : ℕ) → (x ≡ false → y ≡ false) → got ≡ first_no (rig_questions cfg m ++ ask 6 x ∷ [])
    → (got ≡ 0 → ⊥) → got ≡ first_no (rig_questions cfg m ++ ask 6 y ∷ [])
stricter cfg m x y got weaker e ne = elim (ℕ_discrete (first_no (rig_questions cfg m)) 0) as (λ _. got ≡ first_no (rig_questions cfg m ++ ask 6 y ∷ [])) [
  | yes z ↦ told x refl z
  | no n ↦ e ∙ first_no_stop (rig_questions cfg m) (ask 6 x ∷ []) n ∙ sym (first_no_stop (rig_questions cfg m) (ask 6 y ∷ []) n)
]
  where
    told : (b : Bool) → x ≡ b → first_no (rig_questions cfg m) ≡ 0 → got ≡ first_no (rig_questions cfg m ++ ask 6 y ∷ [])
    told true h z = absurd (ne (e ∙ last_yes (rig_questions cfg m) 6 x (rig_questions_numbered cfg m) z h))
    told false h z =
        e
        ∙ last_no (rig_questions cfg m) 6 x (rig_questions_numbered cfg m) z h
        ∙ sym (last_no (rig_questions cfg m) 6 y (rig_questions_numbered cfg m) z (weaker h))

left_no : (a b : Bool) → a ≡ false → (a && b) ≡ false
left_no a b h = ap (λ x. x && b) h

right_no : (a b : Bool) → b ≡ false → (a && b) ≡ false
right_no true b h = h
right_no false b h = refl

-- of four the last two hold: a no is one of the first two
left_of : (a b c d : Bool) → c ≡ true → d ≡ true → (a && b && c && d) ≡ false → (z : Bool) → (b ≡ false → z ≡ false) → (a && z) ≡ false
left_of true true c d ec ed h z f = absurd (true≢false (sym (ap₂ ◌&&◌ ec ed) ∙ h))
left_of true false c d ec ed h z f = f refl
left_of false b c d ec ed h z f = refl

-- it is a number that is given
pub six_given : (cfg : Config) (m : ℕ) (holds : Bool) → Given (first_no (rig_questions cfg m ++ ask 6 holds ∷ []))
unfolding numbered
six_given cfg m holds =
    first_no_given (rig_questions cfg m ++ ask 6 holds ∷ []) (numbered_both (rig_questions cfg m) (ask 6 holds ∷ []) (rig_questions_numbered cfg m) refl)

-- a board cut at a length is as long
pub cut_sized : (cfg : Config) (m n : ℕ) (board read : List ℕ) (l : Lent) → all_sized cfg m (cut n board) read l ≡ all_sized cfg m board read l
cut_sized cfg m n board read l =
    ap (λ (k : ℕ). eqb k (board_length cfg) && eqb (length read) (board_length cfg) && sized cfg m l) (length_cut n board)

-- ---- a part

module _ (cfg : Config) (m : ℕ) (p : Part) (a : Call) (board read : List ℕ) (l : Lent) where
  abbrev long : Bool
  long = all_sized cfg m board read l

  abbrev few : Bool
  few = leb p.count m

  abbrev its : Bool
  its = has_places p (places_of cfg p.count a l.messages)

  -- the part's question 6
  abbrev six : Bool
  six = long && few && its && part_within cfg p

  -- a refusal by one of its questions
  pub part_refused : (why : Refusal) → refusal_number why ≡ part_no cfg m p a board read l → {x : Change} → x ≡ refusing why p
      → ChangePost cfg m p a board read l x read l
  part_refused why e {x} refuses =
      subst (λ (z : Change). ChangePost cfg m p a board read l z read l) (sym refuses)
      (record {
        server = refl;
        client = refl;
        refuses = λ _. (ap refused e, refl, refl, refl);
        event = λ z. absurd ((refusal_some why e).1 z);
      })

  -- 6 is asked of the lengths and of how many are in flight
  pub lent_no : (got : ℕ) → got ≡ first_no (rig_questions cfg m ++ ask 6 (long && few) ∷ []) → (got ≡ 0 → ⊥) → got ≡ part_no cfg m p a board read l
  unfolding part_questions
  lent_no got e ne =
      stricter cfg m (long && few) six got (λ h. left_no (long && few && its) (part_within cfg p) (left_no (long && few) its h)) e ne

  -- it is answered yes
  module _ (none_no : first_no (rig_questions cfg m ++ ask 6 (long && few) ∷ []) ≡ 0) where
    both : (first_no (rig_questions cfg m) ≡ 0) × ((long && few) ≡ true)
    both = last_all (rig_questions cfg m) 6 (long && few) (rig_questions_numbered cfg m) (omega arith) none_no

    pub lent_valid : Valid cfg
    lent_valid = rig_valid cfg m refl both.0

    lent-sized : sized cfg m l ≡ true
    lent-sized =
        and_right (eqb (length board) (board_length cfg) && eqb (length read) (board_length cfg)) (sized cfg m l) (and_left long few both.1)

    later_no : six ≡ false → 6 ≡ part_no cfg m p a board read l
    unfolding part_questions
    later_no h = sym (last_no (rig_questions cfg m) 6 six (rig_questions_numbered cfg m) both.0 h)

    -- the part has other places
    pub places_no : its ≡ false → 6 ≡ part_no cfg m p a board read l
    places_no h = later_no (left_no (long && few && its) (part_within cfg p) (right_no (long && few) its h))

    module _ (own : its ≡ true) where
      pub its_names : Names cfg p a l.messages
      its_names =
          record {
            server = eqb-true p.server _ (and_left (eqb p.server _) (eqb p.client _) own);
            client = eqb-true p.client _ (and_right (eqb p.server _) (eqb p.client _) own);
          }

      pub server_low : p.server < cfg.n
      server_low = names_server lent_valid its_names

      pub client_low : p.client < cfg.c
      client_low = names_client lent_valid its_names

      -- or what its parties keep is past its limits
      pub part-no : part_within cfg p ≡ false → 6 ≡ part_no cfg m p a board read l
      part-no h = later_no (right_no (long && few && its) (part_within cfg p) h)

      -- where none of its questions is answered no
      lent_most : m ≤ 512
      lent_most = (rig_most cfg m refl both.0).1

      lent_count : p.count ≤ m
      lent_count = leb-true p.count m (and_right long few both.1)

      sizes : (length l.messages ≡ 80 * m) × (length l.stores ≡ cfg.n * store_length cfg)
      sizes = (
        messages_are cfg m (length l.messages) (length l.stores) (length l.boards) (length l.elements) lent-sized,
        stores_are cfg m (length l.messages) (length l.stores) (length l.boards) (length l.elements) lent-sized,
      )

      pub part_pre : TurnPre cfg m p l
      part_pre =
          record {
            part = record {
              valid = lent_valid;
              few = omega (arith, lent_count, lent_most);
              server = server_low;
              client = client_low;
              fits = omega (arith, lent_count, sizes.0);
            };
            messages = sizes.0;
            stores = sizes.1;
            boards = boards_are cfg m (length l.messages) (length l.stores) (length l.boards) (length l.elements) lent-sized;
            elements = elements_are cfg m (length l.messages) (length l.stores) (length l.boards) (length l.elements) lent-sized;
          }

      pub part_changed : {x : Change} {read' : List ℕ} {l' : Lent} → part_within cfg p ≡ true → TurnPost cfg m p a board read l x read' l'
          → ChangePost cfg m p a board read l x read' l'
      unfolding part_questions
      part_changed {x} {read'} {l'} within post =
          record {
            server = post.server;
            client = post.client;
            refuses = λ ne.
                absurd (ne (last_yes (rig_questions cfg m) 6 six (rig_questions_numbered cfg m) both.0 (ap₂ ◌&&◌ (ap₂ ◌&&◌ both.1 own) within)));
            event = λ _ r part all. post.event r (record {
              part = part;
              names = its_names;
              yes = last_yes (rig_questions cfg m) 6 (all_sized cfg m (cut a.length board) read l && rig_within cfg m r) (rig_questions_numbered cfg m) both.0
                  (ap₂ ◌&&◌ (cut_sized cfg m a.length board read l ∙ and_left long few both.1) all);
            });
          }

-- ---- a rig

module _ (cfg : Config) (m : ℕ) (r : Rig) (a : Call) (board read : List ℕ) (l : Lent) where
  abbrev all-long : Bool
  all-long = all_sized cfg m board read l

  early : {got : ℕ} → got ≡ first_no (rig_questions cfg m ++ ask 6 (all-long && rig_within cfg m r) ∷ []) → (got ≡ 0 → ⊥)
      → event_no cfg m r (called a board) read l ≡ got
  unfolding event_questions
  early {got} e ne =
      let six = all-long && rig_within cfg m r in
      let after = ask 19 (write_fits cfg (called a board) (code_of a.code)) ∷ later_questions cfg m r (called a board) l in
      ap (λ (b : Bool). first_no (rig_questions cfg m ++ ask 6 (b && rig_within cfg m r) ∷ after)) (cut_sized cfg m a.length board read l)
      ∙ ap first_no (sym (append_assoc (rig_questions cfg m) (ask 6 six ∷ []) after))
      ∙ first_no_stop (rig_questions cfg m ++ ask 6 six ∷ []) after (λ z. ne (e ∙ z))
      ∙ sym e

  -- it is past its limits, or one of 1 to 5 and 21 is answered no
  pub rig_refused : (why : Refusal) → refusal_number why ≡ first_no (rig_questions cfg m ++ ask 6 (rig_within cfg m r) ∷ [])
      → {t : Turn} → t ≡ record { answer = Answer.No why; rig = r } → EventPost cfg m r (called a board) read l t read l
  rig_refused why e {t} refuses =
      let ne = (refusal_some why e).0 in
      let six-is : refusal_number why ≡ first_no (rig_questions cfg m ++ ask 6 (all-long && rig_within cfg m r) ∷ []) =
      stricter cfg m (rig_within cfg m r) (all-long && rig_within cfg m r) (refusal_number why) (right_no all-long (rig_within cfg m r)) e ne in
      subst (λ (z : Turn). EventPost cfg m r (called a board) read l z read l) (sym refuses)
      (refused_event cfg m r (called a board) read l (record { answer = Answer.No why; rig = r }) read l (refusal_number why)
      ne (early six-is ne) refl refl refl refl)

  -- it passes: the event of the part that it names is the rig's
  module _ (passed : first_no (rig_questions cfg m ++ ask 6 (rig_within cfg m r) ∷ []) ≡ 0) where
    both_yes : (first_no (rig_questions cfg m) ≡ 0) × (rig_within cfg m r ≡ true)
    both_yes = last_all (rig_questions cfg m) 6 (rig_within cfg m r) (rig_questions_numbered cfg m) (omega arith) passed

    parties_yes : parties_within cfg r ≡ true
    unfolding rig_within
    parties_yes = and_right (leb r.count m) (parties_within cfg r) both_yes.1

    pub passed_valid : Valid cfg
    passed_valid = rig_valid cfg m refl both_yes.0

    module _ {p : Part} (part : PartOf r p) (names : Names cfg p a l.messages) where
      server_at : ℕ → Bool
      server_at i = server_in_place cfg i (get_elem? r.servers i)

      client_at : ℕ → Bool
      client_at i = client_in_place cfg i (get_elem? r.clients i)

      pub pair-within : part_within cfg p ≡ true
      unfolding part_within server_at client_at
      pair-within =
          ap₂ ◌&&◌
          (ap (server_in_place cfg p.server) (sym part.node)
          ∙ below_at cfg.n server_at (and_left (all_below cfg.n server_at) (all_below cfg.c client_at) parties_yes) p.server (names_server passed_valid names))
          (ap (client_in_place cfg p.client) (sym part.client)
          ∙ below_at cfg.c client_at (and_right (all_below cfg.n server_at) (all_below cfg.c client_at) parties_yes) p.client (names_client passed_valid names))

      abbrev own : Bool
      own = has_places p (places_of cfg p.count a l.messages)

      own_yes : own ≡ true
      own_yes = ap₂ ◌&&◌ (eq-eqb p.server _ names.server) (eq-eqb p.client _ names.client)

      pub rig_changed : {x : Change} {read' : List ℕ} {l' : Lent} → ChangePost cfg m p a board read l x read' l'
          → EventPost cfg m r (called a board) read l (turned r x) read' l'
      unfolding part_questions rig_within
      rig_changed {x} {read'} {l'} post = elim (ℕ_discrete (part_no cfg m p a board read l) 0) as (λ _. EventPost cfg m r (called a board) read l (turned r x) read' l') [
        | yes z ↦ post.event z r part both_yes.1
        | no ne ↦
            let told = post.refuses ne in
            let six-is : part_no cfg m p a board read l ≡ first_no (rig_questions cfg m ++ ask 6 (all-long && rig_within cfg m r) ∷ []) =
            stricter cfg m (all-long && leb p.count m && own && part_within cfg p) (all-long && rig_within cfg m r) (part_no cfg m p a board read l)
            (λ h. left_of all-long (leb p.count m) own (part_within cfg p) own_yes pair-within h (rig_within cfg m r)
            (λ f. ap (λ b. b && parties_within cfg r) (ap (λ n. leb n m) part.count ∙ f))) refl ne in
            refused_event cfg m r (called a board) read l (turned r x) read' l' (part_no cfg m p a board read l) ne
            (early six-is ne) told.0 (ap (with_part r) told.1 ∙ put_same part) told.2 told.3
      ]

-- What is left of the part, put back, meets the event's contract, of every configuration.
module _ (cfg : Config) (m : ℕ) (r : Rig) (a : Call) (board read : List ℕ) (l : Lent) (all : rig_within cfg m r ≡ true) {p : Part} (part : PartOf r p)
    (names : Names cfg p a l.messages)
  where
    pub changed : {x : Change} {read' : List ℕ} {l' : Lent} → ChangePost cfg m p a board read l x read' l'
        → EventPost cfg m r (called a board) read l (turned r x) read' l'
    unfolding part_questions event_questions
    changed {x} {read'} {l'} post =
        let five = first_no (rig_questions cfg m) in
        elim (ℕ_discrete five 0) as (λ _. EventPost cfg m r (called a board) read l (turned r x) read' l') [
          | yes e ↦
              rig_changed cfg m r a board read l (last_yes (rig_questions cfg m) 6 (rig_within cfg m r) (rig_questions_numbered cfg m) e all)
              part names post
          | no ne ↦
              let told = post.refuses (λ e. ne (sym (first_no_stop (rig_questions cfg m) _ ne) ∙ e)) in
              refused_event cfg m r (called a board) read l (turned r x) read' l' five ne (first_no_stop (rig_questions cfg m) _ ne)
              (told.0 ∙ ap refused (first_no_stop (rig_questions cfg m) _ ne)) (ap (with_part r) told.1 ∙ put_same part) told.2 told.3
        ]
