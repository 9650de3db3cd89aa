-- What the making of parties leaves, and the place of an element, from what the calls below leave. Assumes nothing.
use Prim.Native.Nat.{ℕ}
use mathlib.Core.Path.{◌≡◌, refl, sym, ap, ap₂, subst, ◌∙◌}
use mathlib.Core.Bool.{Bool, true, false, ◌&&◌}
use mathlib.Core.List.{List, [], ◌∷◌, ◌++◌}
use native.Mathlib.Omega.{arith}
use borrow.Author.Tests.{eq-eqb, ne_eqb}
use lib.Dec.{eqb}
use lib.ListN.{length, drop}
use Rattle.std.specs.Option.{unwrap_or}
use Rattle.std.specs.declared.option.Option.{Option}
use Rattle.std.specs.declared.option.Option.TheVariants.{None, Some}
use Rattle.std.proofs.Common.{Ok, Err}
use Rattle.laws.proofs.Bools.{and_right}
use Rattle.config.specs.declared.Client as client_number
use Rattle.config.specs.declared.Config.{Config}
use Rattle.config.specs.declared.Refusal.{Refusal}
use Rattle.config.specs.declared.Server as server_number
use Rattle.config.specs.Config.{board_length, questions, store_length}
use Rattle.config.specs.Refusal.{refusal_number}
use Rattle.config.specs.Questions.{Question, ask, first_no, within}
use Rattle.config.proofs.Questions.{first_no_no, first_no_pass, first_no_yes, questions_numbered}
use Rattle.config.proofs.Refusals.{refusal_some}
use Rattle.config.proofs.Valid.{valid_asked}
use Rattle.tag.specs.declared.Tag.{Tag}
use Rattle.server.specs.declared.State as serverState
use Rattle.server.specs.declared.Stepped.{Stepped}
use Rattle.server.specs.Calls as server
use Rattle.client.specs.declared.NewState.{NewState}
use Rattle.client.specs.declared.State as clientState
use Rattle.client.specs.Calls as client
use Rattle.states.specs.Clients as clients
use Rattle.states.specs.Servers as servers
use Rattle.host.specs.declared.told.OfServer.{OfServer}
use Rattle.host.specs.Calls.{ClientFreshPost, ServerElementPost, ServerFreshPost, fresh_client_questions, fresh_server_questions, place_or}
use Rattle.host.specs.Config as host
use Rattle.host.specs.Config.{config_of, config_questions}
use Rattle.host.specs.inner.Told.{ConfigTold, ServerTold}
use Rattle.host.proofs.Made.{config_numbered, valid_told}
use Rattle.host.proofs.Servers.{server_numbered}
use Rattle.host.proofs.told.Laws.{not_zero, passes_told, stops_told}

-- ---- a server

-- question 6, of a configuration: by the length that is another, or none
abbrev fits : List ℕ → List ℕ → List ℕ → Config → Bool
fits element state store cfg = eqb (length state) servers.packed_length && (eqb (length element) cfg.e && eqb (length store) (store_length cfg))

module _ (element state store : List ℕ) where
  pub short_state : (cfg : Config) → (length state ≡ servers.packed_length → ⊥) → fits element state store cfg ≡ false
  short_state cfg h = rw (ne_eqb (length state) servers.packed_length h)

  module _ (cfg : Config) (whole : length state ≡ servers.packed_length) where
    pub short_element : (length element ≡ cfg.e → ⊥) → fits element state store cfg ≡ false
    short_element h = rw (eq-eqb (length state) servers.packed_length whole, ne_eqb (length element) cfg.e h)

    module _ (element_long : length element ≡ cfg.e) where
      pub short_store : (length store ≡ store_length cfg → ⊥) → fits element state store cfg ≡ false
      short_store h = rw (eq-eqb (length state) servers.packed_length whole, eq-eqb (length element) cfg.e element_long, ne_eqb (length store) (store_length cfg) h)

      pub all-long : length store ≡ store_length cfg → fits element state store cfg ≡ true
      all-long h = rw (eq-eqb (length state) servers.packed_length whole, eq-eqb (length element) cfg.e element_long, eq-eqb (length store) (store_length cfg) h)

module _ (config : List ℕ) (s : ℕ) (element state store : List ℕ) where
  abbrev its_fits : Config → Bool
  its_fits = fits element state store

  abbrev rest : List Question
  rest = ask 6 (its_fits (config_of config)) ∷ ask 8 (within 1 (config_of config).n s) ∷ []

  pub server_not_told : {why : Refusal} {n : ℕ} → ConfigTold config (Err why) → n ≡ refusal_number why → ServerFreshPost config s element state store state store n
  unfolding fresh_server_questions
  server_not_told told is =
      record {
        number = stops_told told is rest;
        made = λ z. absurd (not_zero told is z);
        stays = λ _. refl;
        stored = rw (ne_eqb _ 0 (not_zero told is));
      }

  module _ {cfg : Config} (told : ConfigTold config (Ok cfg)) where
    pub server_six : its_fits cfg ≡ false → ServerFreshPost config s element state store state store 6
    unfolding fresh_server_questions
    server_six h =
        record {
          number = passes_told told (config_numbered config) rest 6 (sym (first_no_no 6 (its_fits (config_of config)) _ (ap its_fits (sym told.gives) ∙ h)));
          made = λ z. absurd (omega (arith, z));
          stays = λ _. refl;
          stored = refl;
        }

    module _ (sized : its_fits cfg ≡ true) where
      sized_is : its_fits (config_of config) ≡ true
      sized_is = ap its_fits (sym told.gives) ∙ sized

      pub server_eight : within 1 cfg.n s ≡ false → ServerFreshPost config s element state store state store 8
      unfolding fresh_server_questions
      server_eight h =
          record {
            number = passes_told told (config_numbered config) rest 8
                (sym (first_no_yes 6 (its_fits (config_of config)) _ sized_is
                ∙ first_no_no 8 (within 1 (config_of config).n s) [] (ap (λ (x : Config). within 1 x.n s) (sym told.gives) ∙ h)));
            made = λ z. absurd (omega (arith, z));
            stays = λ _. refl;
            stored = refl;
          }

      module _ (me : server_number.Server) (here : within 1 cfg.n s ≡ true) (is : me.0 ≡ s) (left : Stepped) (store' : List ℕ)
          (post : server.FreshPost cfg me element store store' left) where
        abbrev lengths : Bool
        lengths = eqb (length element) cfg.e && eqb (length store) (store_length cfg)

        none_asked : first_no (server.fresh_questions cfg me element store) ≡ 0
        unfolding server.fresh_questions first_no
        none_asked =
            first_no_pass (questions cfg) (ask 6 lengths ∷ ask 8 (within 1 cfg.n me.0) ∷ []) (questions_numbered cfg) (valid_asked cfg (valid_told config told))
            ∙ first_no_yes 6 lengths (ask 8 (within 1 cfg.n me.0) ∷ []) (and_right (eqb (length state) servers.packed_length) lengths sized)
            ∙ first_no_yes 8 (within 1 cfg.n me.0) [] (ap (within 1 cfg.n) is ∙ here)

        new_state : left.state ≡ server.fresh_state (record { 0 = s }) (board_length (config_of config))
        new_state =
            post.state ∙ rw (eq-eqb (first_no (server.fresh_questions cfg me element store)) 0 none_asked)
            (ap₂ (λ (x : server_number.Server) (n : ℕ). server.fresh_state x n) (λ i. record { 0 = is i }) (ap board_length told.gives))

        pub server_fresh : (state' : List ℕ) → servers.PackPost left.state state' → ServerFreshPost config s element state store state' store' 0
        unfolding fresh_server_questions first_no
        server_fresh state' packed =
            record {
              number = passes_told told (config_numbered config) rest 0
                  (sym (first_no_yes 6 (its_fits (config_of config)) (ask 8 (within 1 (config_of config).n s) ∷ []) sized_is
                  ∙ first_no_yes 8 (within 1 (config_of config).n s) [] (ap (λ (x : Config). within 1 x.n s) (sym told.gives) ∙ here)));
              made = λ _. subst (λ (x : serverState.State). servers.PackPost x state') new_state packed;
              stays = λ refuses. absurd (refuses refl);
              stored = post.store ∙ rw (eq-eqb (first_no (server.fresh_questions cfg me element store)) 0 none_asked)
                  (ap (λ (x : Config). element ++ drop x.e store) told.gives);
            }

-- ---- a client

module _ (config : List ℕ) (c : ℕ) (state : List ℕ) where
  abbrev long : Bool
  long = eqb (length state) clients.packed_length

  abbrev later : List Question
  later = ask 6 long ∷ ask 8 (within 1 (config_of config).c c) ∷ []

  pub client_not_made : {why : Refusal} {n : ℕ} → ConfigTold config (Err why) → n ≡ refusal_number why → ClientFreshPost config c state state n
  unfolding fresh_client_questions
  client_not_made told is = record { number = stops_told told is later; made = λ z. absurd (not_zero told is z); stays = λ _. refl }

  module _ {cfg : Config} (told : ConfigTold config (Ok cfg)) where
    pub client_six : (length state ≡ clients.packed_length → ⊥) → ClientFreshPost config c state state 6
    unfolding fresh_client_questions
    client_six short =
        record {
          number = passes_told told (config_numbered config) later 6 (sym (first_no_no 6 long _ (ne_eqb (length state) clients.packed_length short)));
          made = λ z. absurd (omega (arith, z));
          stays = λ _. refl;
        }

    module _ (whole : length state ≡ clients.packed_length) where
      long_is : long ≡ true
      long_is = eq-eqb (length state) clients.packed_length whole

      pub client_eight : within 1 cfg.c c ≡ false → ClientFreshPost config c state state 8
      unfolding fresh_client_questions
      client_eight h =
          record {
            number = passes_told told (config_numbered config) later 8
                (sym (first_no_yes 6 long _ long_is
                ∙ first_no_no 8 (within 1 (config_of config).c c) [] (ap (λ (x : Config). within 1 x.c c) (sym told.gives) ∙ h)));
            made = λ z. absurd (omega (arith, z));
            stays = λ _. refl;
          }

      pub client_fresh : (me : client_number.Client) → within 1 cfg.c c ≡ true → me.0 ≡ c → (left : NewState) → client.FreshPost cfg me left
          → (state' : List ℕ) → clients.PackPost left.state state' → ClientFreshPost config c state state' 0
      unfolding fresh_client_questions first_no
      client_fresh me here is left post state' packed =
          record {
            number = passes_told told (config_numbered config) later 0
                (sym (first_no_yes 6 long (ask 8 (within 1 (config_of config).c c) ∷ []) long_is
                ∙ first_no_yes 8 (within 1 (config_of config).c c) [] (ap (λ (x : Config). within 1 x.c c) (sym told.gives) ∙ here)));
            made = λ _. subst (λ (x : clientState.State). clients.PackPost x state') (post.state ∙ ap client.fresh_state (λ i. record { 0 = is i })) packed;
            stays = λ refuses. absurd (refuses refl);
          }

-- ---- the place of an element

-- a place, or where there is none the store's length
or_length : (found : Option ℕ) (n : ℕ) → unwrap_or found n ≡ place_or n (server.found_place (Ok found))
or_length None n = refl
or_length (Some place) n = refl

module _ (config state : List ℕ) (t : Tag) (store : List ℕ) (place : ℕ) where
  abbrev state_asks : List Question
  state_asks = server.state_questions (config_of config) (servers.state_of state) (length store)

  pub element_not_told : {why : Refusal} {n : ℕ} → ServerTold config state (Err why) → n ≡ refusal_number why
      → ServerElementPost config state t store place place n
  element_not_told told is = record { number = stops_told told is state_asks; found = rw (ne_eqb _ 0 (not_zero told is)) }

  module _ {x : OfServer} (told : ServerTold config state (Ok x)) where
    finds : (r : server.Found) → server.FindPost x.cfg x.state t (length store) r
        → server.FindPost (config_of config) (servers.state_of state) t (length store) r
    finds r = subst (λ (y : OfServer). server.FindPost y.cfg y.state t (length store) r) told.gives

    numbers : (n : ℕ) → n ≡ first_no state_asks → n ≡ first_no (host.server_questions config state ++ state_asks)
    numbers = passes_told told (server_numbered config state) state_asks

    -- the call is refused
    pub element_no : {why : Refusal} {n : ℕ} → server.FindPost x.cfg x.state t (length store) (Err why) → n ≡ refusal_number why
        → ServerElementPost config state t store place place n
    element_no {why} {n} post is =
        record { number = numbers n (is ∙ (finds (Err why) post).number); found = rw (ne_eqb n 0 (refusal_some why (sym is)).1) }

    -- or not
    pub element_found : {found : Option ℕ} {place' : ℕ} → server.FindPost x.cfg x.state t (length store) (Ok found)
        → place' ≡ unwrap_or found (length store) → ServerElementPost config state t store place place' 0
    element_found {found} post e =
        let p = finds (Ok found) post in
        let there : server.found_place (Ok found) ≡ server.element_place (config_of config) (servers.state_of state) t = p.place ∙ rw (eq-eqb (first_no state_asks) 0 (sym p.number)) in
        record { number = numbers 0 p.number; found = e ∙ or_length found (length store) ∙ ap (place_or (length store)) there }
