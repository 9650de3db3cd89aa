-- "With all ranks equal and at most 3, every answer is the one given today." Two keys that put the tags of the clients, and the starting tag, in one
-- order give the same steps of servers and clients and the same events of the rig; the key with ranks, where all are equal, and the key without are
-- two such. Assumes nothing.
use Prim.Native.Nat.{ℕ, ◌+◌, ◌≤◌}
use mathlib.Core.Path.{◌≡◌, refl, sym, ◌∙◌, ap, ap₂}
use mathlib.Core.Bool.{Bool, true, false, cond, ◌&&◌, ◌||◌}
use mathlib.Core.Option.{Option, none, some}
use mathlib.Core.List.{List, [], ◌∷◌, ◌++◌}
use native.Mathlib.Decide.{ℕ_discrete}
use native.Mathlib.Omega.{arith}
use lib.Dec.{eqb, leb, ltb}
use lib.ListN.{get_elem?, length}
use borrow.Author.Tests.{eq-eqb, eqb-true, le-leb, le-ltb, lt-leb, ltb-false, ltb-true, ne_eqb}
use Rattle.config.specs.declared.Config.{Config}
use Rattle.config.specs.Config.{RanksEqual, Valid}
use Rattle.config.specs.Questions.{ask, first_no, within}
use Rattle.config.proofs.Questions.{none_first, within_high, yes_next}
use Rattle.tag.specs.declared.Tag.{Tag}
use Rattle.tag.specs.Tag.{plain_key}
use Rattle.tag.proofs.Ranks.{equal_key}
use Rattle.record.specs.declared.Kind.{Kind}
use Rattle.record.specs.declared.Kind.TheVariants.{Query, QueryAnswer, PreWrite, PreWriteAnswer, WriteFinalise, WriteFinaliseAnswer, ReadFinalise, ReadFinaliseAnswer, Cleared}
use Rattle.record.specs.Kinds.{is_for_server}
use Rattle.record.specs.Message.{Message}
use Rattle.protocol.specs.Number.{to_list, upd}
use Rattle.protocol.specs.Tags.{higher, lower, same_key}
use Rattle.protocol.specs.Server.{Server, Stored, add_last, answer_to, at_or_below_floor, drop_smallest, element_of, finalised, in_place_of, is_stored, others, pre_write, query, read_answer, read_finalise, server_step, server_step_of, smallest, store, store_element, write_finalise}
use Rattle.protocol.specs.Client.{Client, Phase, idle, asking, pre_writing, finalising_write, finalising_read, down, awaited, awaits, begin_client, begin_questions, client_step, counted, counting, is_cleared, is_first, receives, send_queries, settle, settling, stays}
use Rattle.protocol.specs.Board.{Call}
use Rattle.protocol.specs.Parties as parties
use Rattle.protocol.specs.Parties.{Acted, begin, client_acts, deliver, questions_to_begin, quiet, server_acts}
use Rattle.protocol.specs.Rig.{Code, Rig, Turn, begin_write, begin_read, code_of, crash_client, crash_server, deliver_at, double, event, fresh_rig, handOver, has_room, leaves, lose, move, move_of, questions, questions_after6, questions_to11, restart_server, run, unless_no, without, write_fits}
use Rattle.protocol.specs.Boards as boards
use Rattle.protocol.specs.Boards.{Board, BoardCall, BoardClient, BoardMessage, BoardRig, BoardServer, decode, encode, fits_in, order}
use Rattle.protocol.proofs.Basics.{cond_elim}
use Rattle.protocol.proofs.Flight.{at_mem, doubled_mem, without_mem}
use Rattle.protocol.proofs.Limited.{Every, Limited, LimitedMessage, LimitedMoved, LimitedPhase, LimitedServed, LimitedServer, WithinLimit, among, asks_again, client-acts, client_crashed, first, fresh_limited, joined, later, no_one, one_more, one_of, queries, server-acts, settles, still}

-- ---- one thing, got in two ways, of which something holds

pub record Same {A : Type 0} (P : A → Type 0) (x y : A) : Type 0 where
  pub same : x ≡ y
  pub holds : P x

itself : {A : Type 0} {P : A → Type 0} {x : A} → P x → Same P x x
itself h = record { same = refl; holds = h }

-- what is made of it
through : {A B : Type 0} {P : A → Type 0} (Q : B → Type 0) (f : A → B) → ((x : A) → P x → Q (f x)) → {x y : A} → Same P x y → Same Q (f x) (f y)
through Q f keeps {x} h = record { same = ap f h.same; holds = keeps x h.holds }

-- one of two, by two tests that are one
choose : {A : Type 0} {P : A → Type 0} {b c : Bool} → b ≡ c → {x x' y y' : A} → Same P x x' → Same P y y' → Same P (cond b x y) (cond c x' y')
choose {P = P} {b = b} e h k = record { same = λ i. cond (e i) (h.same i) (k.same i); holds = one_of P b h.holds k.holds }

-- ---- two keys

-- two keys have the tags of clients up to a limit in one order
abbrev pub Agree : ℕ → (Tag → ℕ) → (Tag → ℕ) → Type 0
Agree limit key key' = (t u : Tag) → Limited limit t → Limited limit u → ltb (key t) (key u) ≡ ltb (key' t) (key' u)

-- the tests of at most and of equal, from those of below
at_most_by : (x y u v : ℕ) → ltb y x ≡ ltb v u → leb x y ≡ leb u v
at_most_by x y u v e = go (ltb y x) refl
  where
    go : (b : Bool) → ltb y x ≡ b → leb x y ≡ leb u v
    go true h = lt-leb x y (ltb-true y x h) ∙ sym (lt-leb u v (ltb-true v u (sym e ∙ h)))
    go false h = le-leb x y (ltb-false y x h) ∙ sym (le-leb u v (ltb-false v u (sym e ∙ h)))

equal_by : (x y u v : ℕ) → ltb x y ≡ ltb u v → ltb y x ≡ ltb v u → eqb x y ≡ eqb u v
equal_by x y u v e f = elim (ℕ_discrete x y) as (λ _. eqb x y ≡ eqb u v) [
  | yes h ↦ eq-eqb x y h ∙ sym (eq-eqb u v (omega (arith, ltb-false u v (sym e ∙ le-ltb x y (omega arith)), ltb-false v u (sym f ∙ le-ltb y x (omega arith)))))
  | no n ↦ ne_eqb x y n ∙ sym (ne_eqb u v (λ h. n (omega (arith, ltb-false x y (e ∙ le-ltb u v (omega arith)), ltb-false y x (f ∙ le-ltb v u (omega arith))))))
]

module _ (limit : ℕ) (key key' : Tag → ℕ) (agree : Agree limit key key') where
  same_tag : (t u : Tag) → Limited limit t → Limited limit u → same_key key t u ≡ same_key key' t u
  same_tag t u h k = equal_by (key t) (key u) (key' t) (key' u) (agree t u h k) (agree u t k h)

  higher_tag : (t u : Tag) → Limited limit t → Limited limit u → Same (Limited limit) (higher key t u) (higher key' t u)
  unfolding higher
  higher_tag t u h k = choose (agree t u h k) (itself k) (itself h)

  lower-tag : (t u : Tag) → Limited limit t → Limited limit u → Same (Limited limit) (lower key t u) (lower key' t u)
  unfolding lower
  lower-tag t u h k = choose (agree u t k h) (itself k) (itself h)

  below_floor : (t : Tag) → Limited limit t → (f : Option Tag) → Every (Limited limit) (to_list f) → at_or_below_floor key t f ≡ at_or_below_floor key' t f
  unfolding at_or_below_floor to_list
  below_floor t h none k = refl
  below_floor t h (some f) k = at_most_by (key t) (key f) (key' t) (key' f) (agree f t (first k) h)

  -- ---- a server

  module _ {Element : Type 0} where
    abbrev Kept : Stored Element → Type 0
    Kept x = Limited limit x.tag

    is-stored : (t : Tag) → Limited limit t → (xs : List (Stored Element)) → Every Kept xs → is_stored key t xs ≡ is_stored key' t xs
    unfolding is_stored
    is-stored t h [] all = refl
    is-stored t h (x ∷ xs) all = ap₂ ◌||◌ (same_tag x.tag t (first all) h) (is-stored t h xs (later all))

    element-of : (t : Tag) → Limited limit t → (xs : List (Stored Element)) → Every Kept xs → element_of key t xs ≡ element_of key' t xs
    unfolding element_of
    element-of t h [] all = refl
    element-of t h (x ∷ xs) all =
        ap₂ (λ b e. cond b (some x.element) e) (same_tag x.tag t (first all) h) (element-of t h xs (later all))

    smallest_of : (t : Tag) → Limited limit t → (xs : List (Stored Element)) → Every Kept xs → Same (Limited limit) (smallest key t xs) (smallest key' t xs)
    unfolding smallest
    smallest_of t h [] all = itself h
    smallest_of t h (x ∷ xs) all =
        let low = lower-tag t x.tag h (first all) in
        let rest = smallest_of (lower key t x.tag) low.holds xs (later all) in
        record { same = rest.same ∙ ap (λ u. smallest key' u xs) low.same; holds = rest.holds }

    in-place-of : (u : Tag) → Limited limit u → (y : Stored Element) → Kept y → (xs : List (Stored Element)) → Every Kept xs
        → Same (Every Kept) (in_place_of key u y xs) (in_place_of key' u y xs)
    unfolding in_place_of
    in-place-of u h y k [] all = itself all
    in-place-of u h y k (x ∷ xs) all =
        choose (same_tag x.tag u (first all) h) (itself (one_more k (later all)))
        (through (Every Kept) (λ zs. x ∷ zs) (λ zs. one_more (first all)) (in-place-of u h y k xs (later all)))

    module _ {v : Server Element} (limited : LimitedServer limit v) where
      dropped : (y : Stored Element) → Kept y → Same (LimitedServer limit) (drop_smallest key v y) (drop_smallest key' v y)
      unfolding drop_smallest others to_list
      dropped y k =
          let low = smallest_of y.tag k v.stored limited.stored in
          let u = smallest key y.tag v.stored in
          let rest = choose (same_tag u y.tag low.holds k) (itself limited.stored) (in-place-of u low.holds y k v.stored limited.stored) in
          record {
            same = λ i. record { highest = v.highest; floor = some (low.same i); stored = (rest.same ∙ ap (λ w. others key' w y v.stored) low.same) i };
            holds = record { highest = limited.highest; floor = one_more low.holds no_one; stored = rest.holds };
          }

      added : (y : Stored Element) → Kept y → LimitedServer limit (add_last v y)
      unfolding add_last
      added y k = record { highest = limited.highest; floor = limited.floor; stored = joined limited.stored (one_more k no_one) }

      stored_element : (d : ℕ) (t : Tag) → Limited limit t → (e : Option Element) → Same (LimitedServer limit) (store_element key d v t e) (store_element key' d v t e)
      unfolding store_element store
      stored_element d t h none = itself limited
      stored_element d t h (some e) =
          let y : Stored Element = record { tag = t; element = e } in
          choose (ap₂ ◌||◌ (is-stored t h v.stored limited.stored) (below_floor t h v.floor limited.floor)) (itself limited)
          (choose {b = ltb (length v.stored) (d + 1)} refl (itself (added y h)) (dropped y h))

      raised : (t : Tag) → Limited limit t → Same (LimitedServer limit) (finalised key v t) (finalised key' v t)
      unfolding finalised
      raised t h =
          through (LimitedServer limit) (λ top. record { highest = top; floor = v.floor; stored = v.stored })
          (λ top k. record { highest = k; floor = limited.floor; stored = limited.stored }) (higher_tag v.highest t limited.highest h)

      -- its step: the server that is left, and the answer
      module _ (d s : ℕ) {m : Message Element} (sent : LimitedMessage limit m) where
        answered : (kind : Kind) (t : Tag) (e : Option Element) → Limited limit t → LimitedMessage limit (answer_to s m kind t e)
        unfolding answer_to
        answered kind t e h = record { client = sent.client; tag = h }

        read-answer : (e : Option Element) → Same (LimitedMessage limit) (read_answer key s v.floor m e) (read_answer key' s v.floor m e)
        unfolding read_answer
        read-answer (some e) = itself (answered ReadFinaliseAnswer m.tag (some e) sent.tag)
        read-answer none =
            record {
              same = ap (λ b. answer_to s m (cond b Cleared ReadFinaliseAnswer) m.tag none) (below_floor m.tag sent.tag v.floor limited.floor);
              holds = answered (cond (at_or_below_floor key m.tag v.floor) Cleared ReadFinaliseAnswer) m.tag none sent.tag;
            }

        -- a server and an answer
        serves : {w w' : Server Element} {x x' : Message Element} → Same (LimitedServer limit) w w' → Same (LimitedMessage limit) x x'
            → Same (LimitedServed limit) (record { server = w; answer = some x }) (record { server = w'; answer = some x' })
        unfolding to_list
        serves a b = record { same = λ i. record { server = a.same i; answer = some (b.same i) }; holds = (a.holds, one_more b.holds no_one) }

        by_kind : (kind : Kind) → Same (LimitedServed limit) (server_step_of kind key d s v m) (server_step_of kind key' d s v m)
        unfolding server_step_of query pre_write write_finalise read_finalise to_list
        by_kind Query = serves (itself limited) (itself (answered QueryAnswer v.highest none limited.highest))
        by_kind QueryAnswer = itself (limited, no_one)
        by_kind PreWrite = serves (stored_element d m.tag sent.tag m.element) (itself (answered PreWriteAnswer m.tag none sent.tag))
        by_kind PreWriteAnswer = itself (limited, no_one)
        by_kind WriteFinalise = serves (raised m.tag sent.tag) (itself (answered WriteFinaliseAnswer m.tag none sent.tag))
        by_kind WriteFinaliseAnswer = itself (limited, no_one)
        by_kind ReadFinalise =
            let e = element-of m.tag sent.tag v.stored limited.stored in
            let x = read-answer (element_of key m.tag v.stored) in
            serves (raised m.tag sent.tag) (record { same = x.same ∙ ap (read_answer key' s v.floor m) e; holds = x.holds })
        by_kind ReadFinaliseAnswer = itself (limited, no_one)
        by_kind Cleared = itself (limited, no_one)

        pub server_same : Same (LimitedServed limit) (server_step key d s v m) (server_step key' d s v m)
        unfolding server_step
        server_same = by_kind m.kind

  -- ---- a client

  module _ {Value Element : Type 0} {m : Message Element} (sent : LimitedMessage limit m) where
    awaits_same : (p : Phase Value Element) → LimitedPhase limit p → awaits key p m ≡ awaits key' p m
    unfolding awaits
    awaits_same idle h = refl
    awaits_same (asking b t cs) h = refl
    awaits_same (pre_writing t cs) h = ap (λ b. is_first 4 cs m && b) (same_tag m.tag t sent.tag h)
    awaits_same (finalising_write t cs) h = ap (λ b. is_first 6 cs m && b) (same_tag m.tag t sent.tag h)
    awaits_same (finalising_read t cs es) h = ap (λ b. is_first 8 cs m && b) (same_tag m.tag t sent.tag h)
    awaits_same down h = refl

    pub awaited_same : (x : Client Value Element) → LimitedPhase limit x.phase → awaited key x m ≡ awaited key' x m
    unfolding awaited
    awaited_same x h = ap (λ b. eqb m.operation x.operation && b) (awaits_same x.phase h)

    counting_same : (p : Phase Value Element) → LimitedPhase limit p → Same (LimitedPhase limit) (counting key p m) (counting key' p m)
    unfolding counting
    counting_same idle h = itself tt
    counting_same (asking b t cs) h =
        through (LimitedPhase limit) (λ u. asking b u (upd cs m.server true)) (λ u k. k) (higher_tag t m.tag h sent.tag)
    counting_same (pre_writing t cs) h = itself h
    counting_same (finalising_write t cs) h = itself h
    counting_same (finalising_read t cs es) h = itself h
    counting_same down h = itself tt

    -- client c's step
    pub client_same : (encode : Value → ℕ → Element) (decode : List (ℕ × Element) → Value) (cfg : Config) (c : ℕ) → c ≤ limit → (x : Client Value Element) → LimitedPhase limit x.phase
        → Same (LimitedMoved limit) (client_step key encode decode cfg c x m) (client_step key' encode decode cfg c x m)
    unfolding client_step receives settle counted stays
    client_same encode decode cfg c high x h =
        let o = x.operation in
        choose (awaited_same x h)
        (choose {b = is_cleared m.kind} refl (itself (asks_again cfg c high encode decode o))
        (through (LimitedMoved limit) (settling encode decode cfg c o) (settles cfg c high encode decode o) (counting_same x.phase h)))
        (itself (h, no_one))

-- ---- the rig, with C for the limit

module _ {Value Element : Type 0} (cfg : Config) (key key' : Tag → ℕ) (agree : Agree cfg.c key key') (encode : Value → ℕ → Element) (decode : List (ℕ × Element) → Value) where
  module _ {r : Rig Value Element} (limited : WithinLimit cfg.c r) where
    -- a message is handed over, and these are left in flight
    module _ {ms : List (Message Element)} (rest : Every (LimitedMessage cfg.c) ms) where
      abbrev Left : Acted Value Element → Type 0
      Left x = WithinLimit cfg.c (leaves ms x).rig

      pub deliver_same : (m : Message Element) → LimitedMessage cfg.c m → Same Left (deliver key encode decode cfg r.parties m) (deliver key' encode decode cfg r.parties m)
      unfolding deliver leaves quiet
      deliver_same m sent =
          let s = m.server in
          let c = m.client in
          let p = r.parties in
          choose {b = is_for_server m.kind} refl
          (choose {b = p.up s} refl
          (through Left (server_acts p s) (server-acts limited rest s) (server_same cfg.c key key' agree (limited.servers s) cfg.d s sent))
          (itself (still limited rest p.up)))
          (through Left (client_acts p c) (client-acts limited rest c)
          (client_same cfg.c key key' agree sent encode decode cfg c sent.client (p.clients c) (limited.clients c)))

      handed : (o : Option (Message Element)) → ((m : Message Element) → o ≡ some m → LimitedMessage cfg.c m)
          → Same Left (deliver_at key encode decode cfg r.parties o) (deliver_at key' encode decode cfg r.parties o)
      unfolding deliver_at leaves quiet
      handed none h = itself (still limited rest r.parties.up)
      handed (some m) h = deliver_same m (h m refl)

    module _ (a : Call Value) where
      -- question 8 of a client that is to begin
      begun : (board : Option Value) → first_no (questions_to_begin cfg r.parties a.party) ≡ 0
          → WithinLimit cfg.c (leaves r.in_flight (begin cfg r.parties a.party board)).rig
      unfolding questions_to_begin begin begin_client
      begun board e =
          let c = a.party in
          let x = r.parties.clients c in
          let high = within_high 1 cfg.c c (yes_next 8 (within 1 cfg.c c) (begin_questions x) (omega arith) e).0 in
          client-acts limited limited.messages c (send_queries cfg c (x.operation + 1) board) (queries cfg c high (x.operation + 1) board)

      lost : Every (LimitedMessage cfg.c) (without a.position r.in_flight)
      lost = among (without_mem a.position r.in_flight) limited.messages

      -- what an event does: it keeps to the limit, where 8 to 11 are answered with yes
      pub move_same : (w : Code) → Same (λ t. first_no (questions_to11 cfg r a w) ≡ 0 → WithinLimit cfg.c t.rig) (move key encode decode cfg r a w) (move key' encode decode cfg r a w)
      unfolding move questions_to11 leaves quiet parties.crash_server parties.restart_server
      move_same begin_write = itself (begun (some a.board))
      move_same begin_read = itself (begun none)
      move_same handOver =
          through _ (leaves (without a.position r.in_flight)) (λ x h _. h)
          (handed lost (get_elem? r.in_flight a.position) (λ m e. limited.messages.each m (at_mem r.in_flight a.position m e)))
      move_same lose = itself (λ _. still limited lost r.parties.up)
      move_same double = itself (λ _. still limited (among (doubled_mem a.position r.in_flight) limited.messages) r.parties.up)
      move_same crash_server = itself (λ _. still limited limited.messages (upd r.parties.up a.party false))
      move_same crash_client = itself (λ _. client_crashed limited limited.messages a.party)
      move_same restart_server = itself (λ _. still limited limited.messages (upd r.parties.up a.party true))

      pub questions_same : (most : ℕ) (formed : Bool) (w : Option Code) → questions key encode decode cfg most r a formed w ≡ questions key' encode decode cfg most r a formed w
      unfolding questions
      questions_same most formed none = refl
      questions_same most formed (some w) =
          ap (λ t. ask 7 true ∷ questions_to11 cfg r a w ++ ask 12 formed ∷ ask 13 (has_room most t) ∷ []) (move_same w).same

      module _ (fits : Value → Bool) (most : ℕ) where
        abbrev number : Option Code → ℕ
        number w = first_no (questions_after6 key encode decode cfg fits most r a true w)

        -- no question is answered with no
        accepted : (w : Option Code) → number w ≡ 0 → WithinLimit cfg.c (move_of key encode decode cfg r a w).rig
        unfolding move_of questions
        accepted none e = limited
        accepted (some w) e =
            let to11 = questions_to11 cfg r a w in
            let rest = ask 12 true ∷ ask 13 (has_room most (move key encode decode cfg r a w)) ∷ [] in
            let fit = yes_next 19 (write_fits fits a (some w)) (ask 7 true ∷ to11 ++ rest) (omega arith) e in
            (move_same w).holds (none_first to11 rest (yes_next 7 true (to11 ++ rest) (omega arith) fit.1).1)

        move-of : (w : Option Code) → move_of key encode decode cfg r a w ≡ move_of key' encode decode cfg r a w
        unfolding move_of
        move-of none = refl
        move-of (some w) = (move_same w).same

        pub event_same : Same (λ t. WithinLimit cfg.c t.rig) (event key encode decode cfg fits most r a) (event key' encode decode cfg fits most r a)
        unfolding event unless_no
        event_same =
            let w = code_of a.code in
            record {
              same = ap₂ (λ t qs. unless_no r t (first_no (ask 19 (write_fits fits a w) ∷ qs))) (move-of w) (questions_same most true w);
              holds = cond_elim (λ (t : Turn Value Element). WithinLimit cfg.c t.rig) (eqb (number w) 0) (move_of key encode decode cfg r a w) _
                  (λ e. accepted w (eqb-true (number w) 0 e)) (λ _. limited);
            }

  pub run_same : (fits : Value → Bool) (most : ℕ) (r : Rig Value Element) → WithinLimit cfg.c r → (calls : List (Call Value))
      → run key encode decode cfg fits most r calls ≡ run key' encode decode cfg fits most r calls
  unfolding run
  run_same fits most r limited [] = refl
  run_same fits most r limited (a ∷ calls) =
      let t = event_same limited a fits most in
      ap₂ ◌∷◌ (ap (λ u. record { call = a; answer = u.answer }) t.same)
      (run_same fits most (event key encode decode cfg fits most r a).rig t.holds calls ∙ ap (λ u. run key' encode decode cfg fits most u.rig calls) t.same)

-- ---- the documents' tags: all ranks equal

module _ (cfg : Config) (valid : Valid cfg) (equal : RanksEqual cfg) where
  pub equal_order : Agree cfg.c (order cfg) plain_key
  equal_order t u h k = equal_key cfg equal u t k h valid

  pub equal_server : (s : ℕ) (v : BoardServer) (m : BoardMessage) → LimitedServer cfg.c v → LimitedMessage cfg.c m
      → boards.server_step cfg s v m ≡ server_step plain_key cfg.d s v m
  equal_server s v m h k = (server_same cfg.c (order cfg) plain_key equal_order h cfg.d s k).same

  pub equal_awaited : (x : BoardClient) (m : BoardMessage) → LimitedPhase cfg.c x.phase → LimitedMessage cfg.c m
      → boards.awaited cfg x m ≡ awaited plain_key x m
  equal_awaited x m h k = awaited_same cfg.c (order cfg) plain_key equal_order k x h

  pub equal_client : (c : ℕ) (x : BoardClient) (m : BoardMessage) → c ≤ cfg.c → LimitedPhase cfg.c x.phase → LimitedMessage cfg.c m
      → boards.client_step cfg c x m ≡ client_step plain_key (encode cfg) (decode cfg) cfg c x m
  equal_client c x m high h k = (client_same cfg.c (order cfg) plain_key equal_order k (encode cfg) (decode cfg) cfg c high x h).same

  pub equal_event : (most : ℕ) (r : BoardRig) (a : BoardCall) → WithinLimit cfg.c r
      → boards.event cfg most r a ≡ event plain_key (encode cfg) (decode cfg) cfg (fits_in cfg) most r a
  equal_event most r a h = (event_same cfg (order cfg) plain_key equal_order (encode cfg) (decode cfg) h a (fits_in cfg) most).same

  -- every answer, from the fresh rig of any starting board
  pub equal_run : (most : ℕ) (board : Board) (calls : List BoardCall)
      → boards.run cfg most (boards.fresh_rig cfg board) calls ≡ run plain_key (encode cfg) (decode cfg) cfg (fits_in cfg) most (fresh_rig cfg (encode cfg) board) calls
  equal_run most board calls =
      run_same cfg (order cfg) plain_key equal_order (encode cfg) (decode cfg) (fits_in cfg) most (boards.fresh_rig cfg board) (fresh_limited cfg (encode cfg) board) calls
