-- What parties send is a message of the configuration, where what they keep and what they are handed is within a record's limits; and what
-- they do keeps it there. In order: what is within the limits; what a message of the configuration says; a client; a server; the parties.
-- Assumes nothing.
use Prim.Native.Nat.{ℕ, ◌+◌, ◌≤◌, ◌<◌}
use mathlib.Core.Path.{◌≡◌, refl, sym, ap, ap₂, subst, ◌∙◌}
use mathlib.Core.Bool.{Bool, true, cond, ◌&&◌, ◌||◌}
use mathlib.Core.Option.{Option, none, some}
use mathlib.Core.List.{List, [], ◌∷◌, ◌++◌}
use native.Mathlib.Omega.{arith}
use borrow.Author.Tests.{eq-eqb, ne_eqb, eqb-true, le-leb, leb-true, ltb-true}
use lib.Dec.{ltb}
use lib.ListN.{length, get_or}
use Rattle.config.specs.declared.Config.{Config}
use Rattle.config.specs.Config.{Valid, board_length}
use Rattle.config.specs.Questions.{within}
use Rattle.config.proofs.Questions.{within_true}
use Rattle.tag.specs.declared.Tag.{Tag}
use Rattle.tag.specs.Tag.{allowed, key, start}
use Rattle.tag.proofs.Order.{key_one, small}
use Rattle.code.specs.Element.{element}
use Rattle.code.proofs.Decoding.{length_element}
use Rattle.record.specs.declared.Kind.{Kind}
use Rattle.record.specs.declared.Kind.TheVariants.{Query, QueryAnswer, PreWrite, PreWriteAnswer, WriteFinalise, WriteFinaliseAnswer, ReadFinalise, ReadFinaliseAnswer, Cleared}
use Rattle.record.specs.Kinds.{is_for_server}
use Rattle.record.specs.Element.{Element}
use Rattle.record.specs.Record.{all, highest_number, is_present, kind_number, message_clauses, of_config, own_tag, presence, query_tag, sized}
use Rattle.record.proofs.Clauses.{all_at}
use Rattle.protocol.specs.Boards.{Board, BoardActed, BoardClient, BoardEnded, BoardMessage, BoardMoved, BoardParties, BoardPhase, BoardServer, BoardStored, begin, begin_client, client_step, decode, deliver, encode, fresh_parties, server_step}
use Rattle.protocol.specs.Client as client
use Rattle.protocol.specs.Client.{idle, asking, pre_writing, finalising_write, finalising_read, down, asked, awaited, awaits, counting, ends, enough, enough_to_read, is_first, next_tag, send_each, send_pre_writes, send_read_finalises, send_write_finalises, settling, stays}
use Rattle.protocol.specs.Number.{nothing_yet, to_list}
use Rattle.protocol.specs.Parties as parties
use Rattle.protocol.specs.Parties.{client_acts, crash_client, quiet, server_acts, with_up}
use Rattle.protocol.specs.Server as server
use Rattle.protocol.specs.Server.{add_last, answer_to, at_or_below_floor, drop_smallest, element_of, finalised, fresh_server, in_place_of, is_stored, no_server, others, read_answer, server_step_of, smallest, store, store_element}
use Rattle.protocol.specs.Tags.{higher, same_key}
use Rattle.protocol.proofs.Basics.{cond_elim, upd_elim}
use Rattle.protocol.proofs.Store.{higher_elim}
use Rattle.protocol.proofs.Judged.{awaits_it, first_kind, of_operation, of-tag}
use Rattle.protocol.specs.Sound.{Sound}
use Rattle.protocol.proofs.Sound.{sound_none, sound_one, sound_to_each}

-- ---- within a record's limits

-- a tag that a record may carry
abbrev pub TagFits : Config → Tag → Type 0
TagFits cfg t = (allowed cfg.c t ≡ true) × (t.number ≤ highest_number)

-- the length of a board to write, if there is one, is at most V
abbrev pub BoardFits : Config → Option Board → Type 0
BoardFits cfg none = Unit {0}
BoardFits cfg (some v) = v.length ≤ board_length cfg

-- a client's tag is one, and its board's length fits
unfoldable pub PhaseFits : Config → BoardPhase → Type 0
PhaseFits cfg idle = Unit {0}
PhaseFits cfg (asking b t cs) = TagFits cfg t × BoardFits cfg b
PhaseFits cfg (pre_writing t cs) = TagFits cfg t
PhaseFits cfg (finalising_write t cs) = TagFits cfg t
PhaseFits cfg (finalising_read t cs es) = TagFits cfg t
PhaseFits cfg down = Unit {0}

-- a stored tag is one, and its element has E bytes and a length of at most V
abbrev pub StoredFits : Config → BoardStored → Type 0
StoredFits cfg x = TagFits cfg x.tag × (sized cfg (some x.element) ≡ true)

-- a server's stored tags are
unfoldable pub StoreFits : Config → List BoardStored → Type 0
StoreFits cfg [] = Unit {0}
StoreFits cfg (x ∷ xs) = StoredFits cfg x × StoreFits cfg xs

pub record ServerFits (cfg : Config) (v : BoardServer) : Type 0 where
  pub highest : TagFits cfg v.highest
  pub stored : StoreFits cfg v.stored

-- what every party keeps is within the limits
pub record PartiesFit (cfg : Config) (p : BoardParties) : Type 0 where
  pub servers : (s : ℕ) → ServerFits cfg (p.servers s)
  pub clients : (c : ℕ) → PhaseFits cfg (p.clients c).phase

-- what parties have done: they keep to the limits, and what they send are messages of the configuration
pub record ActedFits (cfg : Config) (x : BoardActed) : Type 0 where
  pub parties : PartiesFit cfg x.parties
  pub sends : Sound cfg x.sends

start_fits : (cfg : Config) → TagFits cfg start
start_fits cfg = (refl, omega arith)

higher_fits : (cfg : Config) (t u : Tag) → TagFits cfg t → TagFits cfg u → TagFits cfg (higher (key cfg) t u)
higher_fits cfg t u a b = higher_elim (key cfg) (TagFits cfg) t u a b

-- one key, one tag
one_tag : (cfg : Config) → Valid cfg → (t u : Tag) → TagFits cfg t → TagFits cfg u → same_key (key cfg) t u ≡ true → t ≡ u
one_tag cfg valid t u a b h =
    key_one cfg valid t u (small cfg valid t a.0) (small cfg valid u b.0) (eqb-true (key cfg t) (key cfg u) h)

-- ---- what a message of the configuration says

module _ (cfg : Config) (m : BoardMessage) (h : of_config cfg m ≡ true) where
  rule : (i : ℕ) → get_or (message_clauses cfg m) i true ≡ true
  unfolding of_config
  rule i = all_at (message_clauses cfg m) h i

  operation_within : within 1 highest_number m.operation ≡ true
  unfolding message_clauses
  operation_within = rule 0

  element_sized : sized cfg m.element ≡ true
  unfolding message_clauses
  element_sized = rule 2

  own_clause : own_tag (kind_number m.kind) m.client m.tag ≡ true
  unfolding message_clauses
  own_clause = rule 4

  pub client_within : within 1 cfg.c m.client ≡ true
  unfolding message_clauses
  client_within = rule 6

  pub server-within : within 1 cfg.n m.server ≡ true
  unfolding message_clauses
  server-within = rule 7

  pub message_fits : TagFits cfg m.tag
  unfolding message_clauses
  message_fits = (rule 8, leb-true m.tag.number highest_number (rule 1))

-- and what makes it one
is-of : (cfg : Config) (kind : Kind) (c s o : ℕ) (t : Tag) (e : Option Element)
    → within 1 highest_number o ≡ true → within 1 cfg.c c ≡ true → within 1 cfg.n s ≡ true → TagFits cfg t → sized cfg e ≡ true
    → query_tag (kind_number kind) t ≡ true → own_tag (kind_number kind) c t ≡ true → presence (kind_number kind) (is_present e) ≡ true
    → of_config cfg (record { kind = kind; client = c; server = s; operation = o; tag = t; element = e }) ≡ true
unfolding of_config all message_clauses
is-of cfg kind c s o t e ho hc hs ht he q w p =
    rw (ho, le-leb t.number highest_number ht.1, he, q, w, p, hc, hs, ht.0)

-- an element of a board whose length fits
encoded_sized : (cfg : Config) (v : Board) → v.length ≤ board_length cfg → (s : ℕ) → sized cfg (some (encode cfg v s)) ≡ true
encoded_sized cfg v fits s =
    ap₂ ◌&&◌ (eq-eqb (length (element cfg v.bytes s)) cfg.e (length_element cfg v.bytes s)) (le-leb v.length (board_length cfg) fits)

-- ---- a client

-- what its move leaves fits, and so does what it sends
pub record MovedFits (cfg : Config) (x : BoardMoved) : Type 0 where
  pub sends : Sound cfg x.sends
  pub phase : PhaseFits cfg x.client.phase

module _ (cfg : Config) where
  stays_fits : (x : BoardClient) → PhaseFits cfg x.phase → MovedFits cfg (stays x)
  unfolding stays
  stays_fits x h = record { sends = sound_none; phase = h }

  ends_fits : (o : ℕ) (how : BoardEnded) → MovedFits cfg (ends o how)
  unfolding ends PhaseFits
  ends_fits o how = record { sends = sound_none; phase = tt }

module _ (cfg : Config) (c : ℕ) (own : within 1 cfg.c c ≡ true) (o : ℕ) (ho : within 1 highest_number o ≡ true) where
  each_sound : (kind : Kind) (t : Tag) (e : ℕ → Option Element) → TagFits cfg t → ((s : ℕ) → sized cfg (e s) ≡ true)
      → query_tag (kind_number kind) t ≡ true → own_tag (kind_number kind) c t ≡ true → ((s : ℕ) → presence (kind_number kind) (is_present (e s)) ≡ true)
      → Sound cfg (send_each cfg kind c o t e)
  unfolding send_each
  each_sound kind t e ht he q w p =
      sound_to_each cfg.n _ (λ s l k. is-of cfg kind c s o t (e s) ho own (within_true 1 cfg.n s l k) ht (he s) q w (p s))

  next_fits : (t : Tag) → t.number < highest_number → TagFits cfg (next_tag t c)
  unfolding next_tag
  next_fits t h =
      let some_number : t.number + 1 ≡ 0 → ⊥ = λ e. omega (arith, e) in
      (rw (ne_eqb (t.number + 1) 0 some_number) own, omega (arith, h))

  pre_writes_fit : (v : Board) → v.length ≤ board_length cfg → (t : Tag) → t.number < highest_number
      → MovedFits cfg (send_pre_writes (encode cfg) cfg c o v (next_tag t c))
  unfolding send_pre_writes PhaseFits next_tag
  pre_writes_fit v fits t h =
      record {
        sends =
            each_sound PreWrite (next_tag t c) (λ s. some (encode cfg v s)) (next_fits t h) (encoded_sized cfg v fits) refl (eq-eqb c c refl) (λ s. refl);
        phase = next_fits t h;
      }

  reads_fit : (t : Tag) → TagFits cfg t → MovedFits cfg (send_read_finalises cfg c o t)
  unfolding send_read_finalises PhaseFits
  reads_fit t h = record { sends = each_sound ReadFinalise t nothing_yet h (λ s. refl) refl refl (λ s. refl); phase = h }

  asked_fits : (b : Option Board) → BoardFits cfg b → (t : Tag) → TagFits cfg t → MovedFits cfg (asked (encode cfg) cfg c o b t)
  unfolding asked
  asked_fits none fits t h = reads_fit t h
  asked_fits (some v) fits t h =
      cond_elim (MovedFits cfg) (ltb t.number highest_number) (send_pre_writes (encode cfg) cfg c o v (next_tag t c)) (ends o client.spent)
      (λ e. pre_writes_fit v fits t (ltb-true t.number highest_number e)) (λ _. ends_fits cfg o client.spent)

  writes_fit : (t : Tag) → TagFits cfg t → t.client ≡ c → MovedFits cfg (send_write_finalises cfg c o t)
  unfolding send_write_finalises PhaseFits
  writes_fit t h e =
      record { sends = each_sound WriteFinalise t nothing_yet h (λ s. refl) refl (eq-eqb t.client c e) (λ s. refl); phase = h }

  module _ (valid : Valid cfg) (m : BoardMessage) (good : of_config cfg m ≡ true) (mine : m.client ≡ c) where
    -- an awaited answer to a pre-write has the client's own tag
    own-tag : (t : Tag) (cs : ℕ → Bool) → TagFits cfg t → (is_first 4 cs m && same_key (key cfg) m.tag t) ≡ true → t.client ≡ c
    own-tag t cs h a =
        let parts = of-tag (key cfg) 4 cs m t a in
        let four = first_kind 4 cs m (λ e. omega arith) parts.0 in
        let one = one_tag cfg valid m.tag t (message_fits cfg m good) h parts.1 in
        let own : own_tag 4 m.client m.tag ≡ true = subst (λ k. own_tag k m.client m.tag ≡ true) four (own_clause cfg m good) in
        sym (ap (λ u. u.client) one) ∙ eqb-true m.tag.client m.client own ∙ mine

    settled_fits : (p : BoardPhase) → PhaseFits cfg p → awaits (key cfg) p m ≡ true
        → MovedFits cfg (settling (encode cfg) (decode cfg) cfg c o (counting (key cfg) p m))
    unfolding settling counting PhaseFits awaits client.end_read
    settled_fits idle h a = stays_fits cfg _ tt
    settled_fits (asking b t cs) h a =
        let f = higher_fits cfg t m.tag h.0 (message_fits cfg m good) in
        cond_elim (MovedFits cfg) (enough cfg _) _ _ (λ _. asked_fits b h.1 (higher (key cfg) t m.tag) f) (λ _. stays_fits cfg _ (f, h.1))
    settled_fits (pre_writing t cs) h a =
        cond_elim (MovedFits cfg) (enough cfg _) _ _ (λ _. writes_fit t h (own-tag t cs h a)) (λ _. stays_fits cfg _ h)
    settled_fits (finalising_write t cs) h a = cond_elim (MovedFits cfg) (enough cfg _) _ _ (λ _. ends_fits cfg o _) (λ _. stays_fits cfg _ h)
    settled_fits (finalising_read t cs es) h a =
        cond_elim (MovedFits cfg) (enough_to_read cfg _ _) _ _ (λ _. ends_fits cfg o _) (λ _. stays_fits cfg _ h)
    settled_fits down h a = stays_fits cfg _ tt

module _ (cfg : Config) (c : ℕ) (own : within 1 cfg.c c ≡ true) (x : BoardClient) where
  -- it begins
  pub begun_sound : x.operation < highest_number → (board : Option Board) → Sound cfg (begin_client cfg c x board).sends
  unfolding client.begin_client
  begun_sound h board =
      let next = within_true 1 highest_number (x.operation + 1) (omega arith) (omega (arith, h)) in
      each_sound cfg c own (x.operation + 1) next Query start nothing_yet (start_fits cfg) (λ s. refl) refl refl (λ s. refl)

  begun_fits : x.operation < highest_number → (board : Option Board) → BoardFits cfg board → MovedFits cfg (begin_client cfg c x board)
  unfolding client.begin_client PhaseFits
  begun_fits h board fits = record { sends = begun_sound h board; phase = (start_fits cfg, fits) }

  -- it asks again
  again_fits : MovedFits cfg (client.ask_again cfg c x.operation)
  unfolding client.ask_again client.begin_client
  again_fits =
      cond_elim (MovedFits cfg) (ltb x.operation highest_number) (client.send_queries cfg c (x.operation + 1) none) (ends x.operation client.spent)
      (λ h. begun_fits (ltb-true x.operation highest_number h) none tt) (λ _. ends_fits cfg x.operation client.spent)

  -- it is handed an answer
  pub step_fits : Valid cfg → PhaseFits cfg x.phase → (m : BoardMessage) → of_config cfg m ≡ true → m.client ≡ c
      → MovedFits cfg (client_step cfg c x m)
  unfolding client.client_step client.receives client.settle client.counted awaited
  step_fits valid fits m good mine =
      cond_elim (MovedFits cfg) (awaited (key cfg) x m) (client.receives (key cfg) (encode cfg) (decode cfg) cfg c x m) (stays x)
      (λ a.
      cond_elim (MovedFits cfg) (client.is_cleared m.kind) (client.ask_again cfg c x.operation)
      (settling (encode cfg) (decode cfg) cfg c x.operation (counting (key cfg) x.phase m))
      (λ _. again_fits)
      (λ _. settled_fits cfg c own x.operation (subst (λ n. within 1 highest_number n ≡ true) (of_operation (key cfg) m x a) (operation_within cfg m good)) valid m good mine
      x.phase fits (awaits_it (key cfg) m x a)))
      (λ _. stays_fits cfg x fits)

-- ---- a server

module _ (cfg : Config) where
  add_fits : (xs : List BoardStored) (y : BoardStored) → StoreFits cfg xs → StoredFits cfg y → StoreFits cfg (xs ++ (y ∷ []))
  unfolding StoreFits
  add_fits [] y h k = (k, tt)
  add_fits (x ∷ xs) y h k = (h.0, add_fits xs y h.1 k)

  in_place_fits : (u : Tag) (xs : List BoardStored) (y : BoardStored) → StoreFits cfg xs → StoredFits cfg y → StoreFits cfg (in_place_of (key cfg) u y xs)
  unfolding StoreFits in_place_of
  in_place_fits u [] y h k = tt
  in_place_fits u (x ∷ xs) y h k =
      cond_elim (StoreFits cfg) (same_key (key cfg) x.tag u) (y ∷ xs) (x ∷ in_place_of (key cfg) u y xs) (λ _. (k, h.1)) (λ _. (h.0, in_place_fits u xs y h.1 k))

  others_fit : (u : Tag) (xs : List BoardStored) (y : BoardStored) → StoreFits cfg xs → StoredFits cfg y → StoreFits cfg (others (key cfg) u y xs)
  unfolding others
  others_fit u xs y h k =
      cond_elim (StoreFits cfg) (same_key (key cfg) u y.tag) xs (in_place_of (key cfg) u y xs) (λ _. h) (λ _. in_place_fits u xs y h k)

  store_fits : (v : BoardServer) (y : BoardStored) → ServerFits cfg v → StoredFits cfg y → ServerFits cfg (store (key cfg) cfg.d v y)
  unfolding store add_last drop_smallest
  store_fits v y h k =
      cond_elim (ServerFits cfg) (is_stored (key cfg) y.tag v.stored || at_or_below_floor (key cfg) y.tag v.floor) v
      (cond (ltb (length v.stored) (cfg.d + 1)) (add_last v y) (drop_smallest (key cfg) v y)) (λ _. h)
      (λ _. cond_elim (ServerFits cfg) (ltb (length v.stored) (cfg.d + 1)) (add_last v y) (drop_smallest (key cfg) v y)
      (λ _. record { highest = h.highest; stored = add_fits v.stored y h.stored k })
      (λ _. record { highest = h.highest; stored = others_fit (smallest (key cfg) y.tag v.stored) v.stored y h.stored k }))

  element_fits : (v : BoardServer) (t : Tag) (e : Option Element) → ServerFits cfg v → TagFits cfg t → sized cfg e ≡ true
      → ServerFits cfg (store_element (key cfg) cfg.d v t e)
  unfolding store_element
  element_fits v t none h k z = h
  element_fits v t (some e) h k z = store_fits v (record { tag = t; element = e }) h (k, z)

  finalised_fits : (v : BoardServer) (t : Tag) → ServerFits cfg v → TagFits cfg t → ServerFits cfg (finalised (key cfg) v t)
  unfolding finalised
  finalised_fits v t h k = record { highest = higher_fits cfg v.highest t h.highest k; stored = h.stored }

  -- a stored element has E bytes and a length that fits
  stored_sized : (t : Tag) (xs : List BoardStored) → StoreFits cfg xs → sized cfg (element_of (key cfg) t xs) ≡ true
  unfolding StoreFits element_of
  stored_sized t [] h = refl
  stored_sized t (x ∷ xs) h =
      cond_elim (λ o. sized cfg o ≡ true) (same_key (key cfg) x.tag t) (some x.element) (element_of (key cfg) t xs)
      (λ _. h.0.1) (λ _. stored_sized t xs h.1)

module _ (cfg : Config) (s : ℕ) (v : BoardServer) (fits : ServerFits cfg v) (m : BoardMessage) (good : of_config cfg m ≡ true) (mine : m.server ≡ s) where
  -- an answer that carries a tag and an element within the limits
  answer_is_of : (kind : Kind) (t : Tag) (e : Option Element) → TagFits cfg t → sized cfg e ≡ true → query_tag (kind_number kind) t ≡ true
      → own_tag (kind_number kind) m.client t ≡ true → presence (kind_number kind) (is_present e) ≡ true → Sound cfg (to_list (some (answer_to s m kind t e)))
  unfolding answer_to to_list
  answer_is_of kind t e ht he q w p =
      sound_one _ (is-of cfg kind m.client s m.operation t e (operation_within cfg m good) (client_within cfg m good)
      (subst (λ n. within 1 cfg.n n ≡ true) mine (server-within cfg m good)) ht he q w p)

  -- kinds 3 and 5 carry a tag of the record's own client
  own_of : (kind : Kind) → m.kind ≡ kind → own_tag (kind_number kind) m.client m.tag ≡ true
  own_of kind e = subst (λ (k : Kind). own_tag (kind_number k) m.client m.tag ≡ true) e (own_clause cfg m good)

  read_sound : (e : Option Element) → sized cfg e ≡ true → Sound cfg (to_list (some (read_answer (key cfg) s v.floor m e)))
  unfolding read_answer to_list
  read_sound none h =
      cond_elim (λ (kind : Kind). Sound cfg (to_list (some (answer_to s m kind m.tag none)))) (at_or_below_floor (key cfg) m.tag v.floor) Cleared ReadFinaliseAnswer
      (λ _. answer_is_of Cleared m.tag none (message_fits cfg m good) refl refl refl refl)
      (λ _. answer_is_of ReadFinaliseAnswer m.tag none (message_fits cfg m good) refl refl refl refl)
  read_sound (some e) h = answer_is_of ReadFinaliseAnswer m.tag (some e) (message_fits cfg m good) h refl refl refl

  sound_of : (kind : Kind) → m.kind ≡ kind → Sound cfg (to_list (server_step_of kind (key cfg) cfg.d s v m).answer)
  unfolding server_step_of server.query server.pre_write server.write_finalise server.read_finalise to_list
  sound_of Query e = answer_is_of QueryAnswer v.highest none fits.highest refl refl refl refl
  sound_of QueryAnswer e = sound_none
  sound_of PreWrite e = answer_is_of PreWriteAnswer m.tag none (message_fits cfg m good) refl refl (own_of PreWrite e) refl
  sound_of PreWriteAnswer e = sound_none
  sound_of WriteFinalise e = answer_is_of WriteFinaliseAnswer m.tag none (message_fits cfg m good) refl refl (own_of WriteFinalise e) refl
  sound_of WriteFinaliseAnswer e = sound_none
  sound_of ReadFinalise e = read_sound (element_of (key cfg) m.tag v.stored) (stored_sized cfg m.tag v.stored fits.stored)
  sound_of ReadFinaliseAnswer e = sound_none
  sound_of Cleared e = sound_none

  fits_of : (kind : Kind) → ServerFits cfg (server_step_of kind (key cfg) cfg.d s v m).server
  unfolding server_step_of server.query server.pre_write server.write_finalise server.read_finalise
  fits_of Query = fits
  fits_of QueryAnswer = fits
  fits_of PreWrite = element_fits cfg v m.tag m.element fits (message_fits cfg m good) (element_sized cfg m good)
  fits_of PreWriteAnswer = fits
  fits_of WriteFinalise = finalised_fits cfg v m.tag fits (message_fits cfg m good)
  fits_of WriteFinaliseAnswer = fits
  fits_of ReadFinalise = finalised_fits cfg v m.tag fits (message_fits cfg m good)
  fits_of ReadFinaliseAnswer = fits
  fits_of Cleared = fits

  -- what a server answers
  pub answer_sound : Sound cfg (to_list (server_step cfg s v m).answer)
  unfolding server.server_step
  answer_sound = sound_of m.kind refl

  -- and what it keeps
  pub server_fits : ServerFits cfg (server_step cfg s v m).server
  unfolding server.server_step
  server_fits = fits_of m.kind

-- ---- the parties

module _ (cfg : Config) where
  pub fresh_fits : (board : Board) → board.length ≤ board_length cfg → PartiesFit cfg (fresh_parties cfg board)
  unfolding parties.fresh_parties client.fresh_client fresh_server no_server PhaseFits StoreFits
  fresh_fits board fits =
      record {
        servers = λ s.
            cond_elim (ServerFits cfg) (within 1 cfg.n s) (fresh_server (encode cfg board s)) no_server
            (λ _. record { highest = start_fits cfg; stored = ((start_fits cfg, encoded_sized cfg board fits s), tt) })
            (λ _. record { highest = start_fits cfg; stored = tt });
        clients = λ c. tt;
      }

module _ (cfg : Config) (p : BoardParties) (fits : PartiesFit cfg p) where
  pub quiet_fits : ActedFits cfg (quiet p)
  unfolding quiet
  quiet_fits = record { parties = fits; sends = sound_none }

  pub client_acts_fits : (c : ℕ) (o : BoardMoved) → MovedFits cfg o → ActedFits cfg (client_acts p c o)
  unfolding client_acts parties.with_client
  client_acts_fits c o h =
      record {
        parties =
            record {
              servers = fits.servers;
              clients = λ d. upd_elim (λ (x : BoardClient). PhaseFits cfg x.phase) p.clients c o.client d (λ _. h.phase) (λ _. fits.clients d);
            };
        sends = h.sends;
      }

  pub begin_fits : (c : ℕ) → within 1 cfg.c c ≡ true → (p.clients c).operation < highest_number → (board : Option Board)
      → BoardFits cfg board → ActedFits cfg (begin cfg p c board)
  unfolding parties.begin
  begin_fits c own h board fits = client_acts_fits c (begin_client cfg c (p.clients c) board) (begun_fits cfg c own (p.clients c) h board fits)

  module _ (valid : Valid cfg) (m : BoardMessage) (good : of_config cfg m ≡ true) where
    pub to_server_fits : ActedFits cfg (server_acts p m.server (server_step cfg m.server (p.servers m.server) m))
    unfolding server_acts parties.with_server
    to_server_fits =
        let s = m.server in
        record {
          parties =
              record {
                servers = λ z.
                    upd_elim (ServerFits cfg) p.servers s (server_step cfg s (p.servers s) m).server z
                    (λ _. server_fits cfg s (p.servers s) (fits.servers s) m good refl) (λ _. fits.servers z);
                clients = fits.clients;
              };
          sends = answer_sound cfg s (p.servers s) (fits.servers s) m good refl;
        }

    pub deliver_fits : ActedFits cfg (deliver cfg p m)
    unfolding parties.deliver
    deliver_fits =
        cond_elim (ActedFits cfg) (is_for_server m.kind) _ _
        (λ _. cond_elim (ActedFits cfg) (p.up m.server) _ (quiet p) (λ _. to_server_fits) (λ _. quiet_fits))
        (λ _. client_acts_fits m.client _
        (step_fits cfg m.client (client_within cfg m good) (p.clients m.client) valid (fits.clients m.client) m good refl))

  pub up_fits : (s : ℕ) (up : Bool) → ActedFits cfg (quiet (with_up p s up))
  unfolding quiet
  up_fits s up = record { parties = record { servers = fits.servers; clients = fits.clients }; sends = sound_none }

  pub crash_client_fits : (c : ℕ) → ActedFits cfg (crash_client p c)
  unfolding crash_client quiet parties.with_client PhaseFits
  crash_client_fits c =
      record {
        parties =
            record {
              servers = fits.servers;
              clients = λ d. upd_elim (λ (x : BoardClient). PhaseFits cfg x.phase) p.clients c _ d (λ _. tt) (λ _. fits.clients d);
            };
        sends = sound_none;
      }
