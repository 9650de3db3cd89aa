-- A server's theorems, of its calls. A fresh server passes question 6 and every step keeps that; a step on a message of the
-- configuration is the protocol's; H never falls; what a pre-write sends is stored.
-- Assumes nothing.
use Rattle.std.proofs.Common.{◌≡◌, ℕ, zero, suc, ◌+◌, ◌*◌, ◌≤◌, Bool, true, false, cond, ◌&&◌, eqb, leb, ◌⊎◌, List, [], ◌∷◌, ◌++◌, length, take, drop, sym, refl, ap, ◌∙◌, subst, ap₂, ⊎_elim, mul-le-mul_right, zero-mul, arith, length-append, length-drop, take_at, eq-eqb, eqb-true, le-leb}
use mathlib.Core.Option.{Option, none, some}
use native.Mathlib.Decide.{ℕ_discrete}
use Rattle.config.specs.declared.Config.{Config}
use Rattle.config.specs.declared.Server.{Server as ServerNumber}
use Rattle.config.specs.Config.{board_length, questions, store_length}
use Rattle.config.specs.Number.{server_number}
use Rattle.config.specs.Questions.{Question, ask, first_no, within}
use Rattle.config.specs.Refusal.{verdict_number}
use Rattle.config.proofs.Questions.{none_first, none_rest, questions_numbered, yes_next}
use Rattle.config.proofs.Valid.{valid}
use Rattle.laws.proofs.Bools.{and_left, and_right}
use Rattle.tag.specs.declared.Tag.{Tag}
use Rattle.tag.specs.Tag.{allowed, key, start}
use Rattle.record.specs.declared.Kind.TheVariants.{PreWrite}
use Rattle.record.specs.Element.{Element, element_with}
use Rattle.record.specs.Kinds.{is_for_server}
use Rattle.record.specs.Message.{Message}
use Rattle.record.specs.Record.{element_in, length_at, length_fits, length_of, message_of, of_config, present_at, record_of, well_formed}
use Rattle.record.proofs.Clauses.{its_fit, its_tag}
use Rattle.record.proofs.Laws.{reads_back, record_long, written_well_formed}
use Rattle.protocol.specs.Server.{Server, at_or_below_floor, element_of, fresh_server, is_stored, pre_write, server_step, server_step_of, store as stores, store_element}
use Rattle.server.specs.declared.State.{State}
use Rattle.server.specs.declared.Stepped.{Stepped}
use Rattle.server.specs.Calls.{FreshPost, StepPost, Steps, answer_bytes, for_server, fresh_questions, fresh_state, outcome, step_questions}
use Rattle.server.specs.Within.{ValidState, stored_lengths, lengths_within, numbers_within, server_within, state_within, tags_of, tags_within}
use Rattle.server.specs.View.{each, element_at, floor_of, lengths_used, place_at, stored_length, tag_at, tags_used, view}
use Rattle.server.proofs.Answered.{answers_each}
use Rattle.server.proofs.Asked.{step_accepted, step_later}
use Rattle.server.proofs.Limits.{state_me}
use Rattle.server.proofs.Invariant.{fresh_within, highest_rises, step_within}
use Rattle.server.proofs.Sent.{sent_stored}
use Rattle.server.proofs.Stepping.{steps_same}
use Rattle.server.proofs.Tags.{both}

-- the stored tags of the view are the state's, and so are the lengths
module _ (cfg : Config) (tags : List Tag) (lengths store : List ℕ) where
  tags-used : (i n : ℕ) → tags_of (each (place_at cfg tags lengths store) i n) ≡ each (tag_at tags) i n
  unfolding tags_of each
  tags-used i zero = refl
  tags-used i (suc n) = ap {B = List Tag} (λ ts. tag_at tags i ∷ ts) (tags-used (suc i) n)

  lengths-used : (i n : ℕ) → stored_lengths (each (place_at cfg tags lengths store) i n) ≡ each (stored_length lengths) i n
  unfolding stored_lengths each
  lengths-used i zero = refl
  lengths-used i (suc n) = ap {B = List ℕ} (λ ns. stored_length lengths i ∷ ns) (lengths-used (suc i) n)

module _ (cfg : Config) (s : State) (store : List ℕ) where
  pub view_within : server_within cfg (view cfg s store)
      ≡ tags_within cfg s.highest (floor_of s.floor) (tags_used s) && lengths_within cfg (lengths_used s)
  unfolding server_within view
  view_within =
      ap₂ {A = List Tag} (λ (ts : List Tag) (ns : List ℕ). tags_within cfg s.highest (floor_of s.floor) ts && lengths_within cfg ns)
      (tags-used cfg s.tags s.lengths store 0 s.count) (lengths-used cfg s.tags s.lengths store 0 s.count)

  -- question 6 of a state: its number, and what is seen of it
  pub state_view : state_within cfg s ≡ within 1 cfg.n (server_number s.me) && server_within cfg (view cfg s store)
  unfolding state_within numbers_within
  state_view =
      and_both (within 1 cfg.n (server_number s.me)) (tags_within cfg s.highest (floor_of s.floor) (tags_used s)) (lengths_within cfg (lengths_used s))
      ∙ ap (λ (b : Bool). within 1 cfg.n (server_number s.me) && b) (sym view_within)
    where
      and_both : (a b c : Bool) → (a && b) && c ≡ a && (b && c)
      and_both true b c = refl
      and_both false b c = refl

  pub server-within : state_within cfg s ≡ true → server_within cfg (view cfg s store) ≡ true
  server-within h = and_right (within 1 cfg.n (server_number s.me)) (server_within cfg (view cfg s store)) (sym state_view ∙ h)

  pub within_state : within 1 cfg.n (server_number s.me) ≡ true → server_within cfg (view cfg s store) ≡ true → state_within cfg s ≡ true
  within_state w h = state_view ∙ both (within 1 cfg.n (server_number s.me)) (server_within cfg (view cfg s store)) w h

-- Fresh: an accepted call leaves the protocol's fresh server, and it passes questions 1 to 6 and 21.
module _ (cfg : Config) (me : ServerNumber) (element before after : List ℕ) (r : Stepped) (post : FreshPost cfg me element before after r)
    (accepted : verdict_number r.verdict ≡ 0) where
  asked : first_no (fresh_questions cfg me element before) ≡ 0
  asked = sym post.number ∙ accepted

  abbrev sized : Bool
  sized = eqb (length element) cfg.e

  abbrev long : Bool
  long = eqb (length before) (store_length cfg)

  abbrev here : Bool
  here = within 1 cfg.n (server_number me)

  -- 6 and 8
  abbrev others : List Question
  others = ask 6 (sized && long) ∷ ask 8 here ∷ []

  passed : first_no (questions cfg) ≡ 0
  unfolding fresh_questions
  passed = none_first (questions cfg) others asked

  answered : (sized && long ≡ true) × (first_no (ask 8 here ∷ []) ≡ 0)
  unfolding fresh_questions
  answered = yes_next 6 (sized && long) (ask 8 here ∷ []) (omega arith) (none_rest (questions cfg) others (questions_numbered cfg) asked)

  its_size : length element ≡ cfg.e
  its_size = eqb-true (length element) cfg.e (and_left sized long answered.0)

  after_is : after ≡ element ++ drop cfg.e before
  after_is = post.store ∙ rw (eq-eqb (first_no (fresh_questions cfg me element before)) 0 asked)

  first_element : element_at cfg after 0 ≡ element
  first_element =
      ap (λ (n : ℕ). take cfg.e (drop n after)) (zero-mul cfg.e) ∙ ap (take cfg.e) after_is
      ∙ take_at element (drop cfg.e before) cfg.e its_size

  -- its length is V
  state_is : r.state ≡ fresh_state me (board_length cfg)
  state_is =
      post.state
      ∙ ap (λ (b : Bool). fresh_state me (cond b (board_length cfg) 0)) (eq-eqb (first_no (fresh_questions cfg me element before)) 0 asked)

  pub fresh_view : view cfg r.state after ≡ fresh_server (element_with (board_length cfg) element)
  unfolding view fresh_state fresh_server each
  fresh_view =
      ap (λ (x : State). view cfg x after) state_is
      ∙ ap (λ (e : List ℕ). record { highest = start; floor = none; stored = record { tag = start; element = element_with (board_length cfg) e } ∷ [] })
      first_element

  pub fresh_valid : ValidState cfg r.state after
  unfolding fresh_state
  fresh_valid =
      let v = valid cfg passed in
      let l : length before ≡ store_length cfg = eqb-true (length before) (store_length cfg) (and_right sized long answered.0) in
      let m : 1 * cfg.e ≤ (cfg.d + 1) * cfg.e = mul-le-mul_right cfg.e (omega arith) in
      record {
        valid = v;
        within =
            within_state cfg r.state after
            (ap (λ (x : State). within 1 cfg.n (server_number x.me)) state_is ∙ (yes_next 8 here [] (omega arith) answered.1).0)
            (ap (server_within cfg) fresh_view ∙ fresh_within cfg (element_with (board_length cfg) element) (omega arith));
        long =
            ap length after_is ∙ length-append element (drop cfg.e before)
            ∙ omega (arith, its_size, length-drop cfg.e before, l);
      }

-- Step: whatever record is handed over, question 6 stays answered yes and H never falls.
module _ (cfg : Config) (s : State) (handed store answer storeAfter answerAfter : List ℕ) (r : Stepped) (held : ValidState cfg s store)
    (post : StepPost cfg s handed store answer storeAfter answerAfter r) where
  abbrev first : ℕ
  first = first_no (step_questions cfg s handed (length store) (length answer))

  abbrev m : Message Element
  m = message_of cfg handed

  abbrev v : Server Element
  v = view cfg s store

  -- an accepted record is well formed
  well : first ≡ 0 → well_formed cfg handed ≡ true
  well z = (step_accepted cfg s handed (length store) (length answer) z).0.well-formed

  tag_ok : first ≡ 0 → allowed cfg.c m.tag ≡ true
  unfolding message_of
  tag_ok z = its_tag cfg handed (well z)

  fits_by : (b : Bool) (n : ℕ) (bs : List ℕ) → length_fits cfg b n ≡ true → leb (length_of (cond b (some (element_with n bs)) none)) (board_length cfg) ≡ true
  fits_by true n bs h = h
  fits_by false n bs h = le-leb 0 (board_length cfg) (omega arith)

  length_ok : first ≡ 0 → leb (length_of m.element) (board_length cfg) ≡ true
  unfolding message_of
  length_ok z = fits_by (present_at handed) (length_at handed) (element_in cfg handed) (its_fit cfg handed (well z))

  -- the protocol's server stays within question 6
  v_within : server_within cfg v ≡ true
  v_within = server-within cfg s store held.within

  after_within : server_within cfg (view cfg r.state storeAfter) ≡ true
  after_within = elim (ℕ_discrete first 0) as (λ _. server_within cfg (view cfg r.state storeAfter) ≡ true) [
    | yes z ↦
        ap (server_within cfg) (post.seen z)
        ∙ step_within cfg held.valid (server_number s.me) v v_within m (tag_ok z) (length_ok z)
    | no nz ↦ ap₂ {A = State} (λ (x : State) (l : List ℕ). server_within cfg (view cfg x l)) (post.state nz) (post.store nz) ∙ v_within
  ]

  pub step_valid : ValidState cfg r.state storeAfter
  step_valid =
      record {
        valid = held.valid;
        within =
            within_state cfg r.state storeAfter
            (ap (λ (x : ServerNumber). within 1 cfg.n (server_number x)) post.me ∙ state_me cfg s held.within) after_within;
        long = post.long ∙ held.long;
      }

  view_highest : (x : State) (l : List ℕ) → (view cfg x l).highest ≡ x.highest
  unfolding view
  view_highest x l = refl

  pub never_falls : key cfg s.highest ≤ key cfg r.state.highest
  never_falls = elim (ℕ_discrete first 0) as (λ _. key cfg s.highest ≤ key cfg r.state.highest) [
    | yes z ↦
        let e : (view cfg r.state storeAfter).highest ≡ (outcome cfg s store m).server.highest = ap (λ (x : Server Element). x.highest) (post.seen z) in
        omega (arith, highest_rises (key cfg) cfg.d (server_number s.me) v m, ap (key cfg) e, ap (key cfg) (view_highest r.state storeAfter), ap (key cfg) (view_highest s store))
    | no nz ↦ omega (arith, ap (λ (x : State). key cfg x.highest) (post.state nz))
  ]

-- Pre-write: what is sent is stored. After an accepted step the element of the tag is the one sent, unless the tag was stored, or at or
-- below the floor, or is the smallest and becomes the floor.
module _ (cfg : Config) (s : State) (handed store answer storeAfter answerAfter : List ℕ) (r : Stepped)
    (post : StepPost cfg s handed store answer storeAfter answerAfter r) (accepted : verdict_number r.verdict ≡ 0)
    (kind : (message_of cfg handed).kind ≡ PreWrite) (element : Element) (carried : (message_of cfg handed).element ≡ some element) where
  abbrev written : Tag
  written = (message_of cfg handed).tag

  abbrev later : Server Element
  later = view cfg r.state storeAfter

  stored_is : later ≡ stores (key cfg) cfg.d (view cfg s store) (record { tag = written; element = element })
  unfolding server_step server_step_of pre_write store_element
  stored_is = post.seen (sym post.number ∙ accepted) ∙ rw (kind, carried)

  pub stores_what_is_sent : is_stored (key cfg) written (view cfg s store).stored ≡ false → at_or_below_floor (key cfg) written (view cfg s store).floor ≡ false
      → (later.floor ≡ some written → ⊥) → element_of (key cfg) written later.stored ≡ some element
  stores_what_is_sent new over other =
      ⊎_elim (λ f. absurd (other f)) (λ h. h)
      (subst (λ (w : Server Element). (w.floor ≡ some written) ⊎ (element_of (key cfg) written w.stored ≡ some element)) (sym stored_is)
      (sent_stored (key cfg) written element (view cfg s store) new cfg.d over))

-- A step on the record of a message of the configuration, for this server and of a kind that it receives: it is the protocol's, and sends an answer.
pub record OnMessage (cfg : Config) (s : State) (m : Message Element) (store_before storeAfter answerAfter : List ℕ) (r : Stepped) : Type 0 where
  pub number : verdict_number r.verdict ≡ 0
  pub me : r.state.me ≡ s.me
  pub seen : view cfg r.state storeAfter ≡ (outcome cfg s store_before m).server
  pub said : Message Element
  pub sends : (outcome cfg s store_before m).answer ≡ some said
  pub answer : answerAfter ≡ record_of cfg said
  pub held : ValidState cfg r.state storeAfter

module _ (cfg : Config) (s : State) (m : Message Element) (store answer storeAfter answerAfter : List ℕ) (r : Stepped) (held : ValidState cfg s store)
    (ok : of_config cfg m ≡ true) (mine : for_server (server_number s.me) m ≡ true) (eighty : length answer ≡ 80)
    (post : StepPost cfg s (record_of cfg m) store answer storeAfter answerAfter r) where
  back : message_of cfg (record_of cfg m) ≡ m
  back = reads_back cfg held.valid m ok

  number_is : first_no (step_questions cfg s (record_of cfg m) (length store) (length answer)) ≡ 0
  number_is =
      step_later cfg s (record_of cfg m) (length store) (length answer) (held.valid, held.within, held.long) (record_long cfg held.valid.e_high m ok) eighty
      ∙ rw (written_well_formed cfg held.valid m ok, back, mine)

  steps : Steps cfg s 0 m store answer storeAfter answerAfter r
  steps =
      steps_same cfg s (first_no (step_questions cfg s (record_of cfg m) (length store) (length answer))) 0 (message_of cfg (record_of cfg m)) m store answer storeAfter answerAfter r
      number_is back post

  pub on_message : OnMessage cfg s m store storeAfter answerAfter r
  on_message =
      let a = answers_each (key cfg) cfg.d (server_number s.me) (view cfg s store) m (and_right (eqb m.server (server_number s.me)) (is_for_server m.kind) mine) in
      record {
        number = steps.number;
        me = post.me;
        seen = steps.seen refl;
        said = a.0;
        sends = a.1;
        answer = steps.answer ∙ ap (λ (x : Option (Message Element)). answer_bytes cfg x answer) a.1;
        held = step_valid cfg s (record_of cfg m) store answer storeAfter answerAfter r held post;
      }
