-- "The order of stored elements in the store is free": of two rigs that differ in it alone, where each stored tag is there once, every event is
-- refused alike or answers alike, and leaves two such rigs; so a list of calls gets the same answers of both. Assumes nothing.
use Prim.Native.Nat.{ℕ}
use mathlib.Core.Path.{◌≡◌, refl, sym, ap, ap₂, subst}
use mathlib.Core.Bool.{Bool, true, false, cond}
use mathlib.Core.Option.{Option, none, some}
use mathlib.Core.List.{List, [], ◌∷◌}
use lib.Dec.{eqb}
use lib.ListN.{get_elem?}
use borrow.Author.Tests.{eqb-true}
use Rattle.config.specs.declared.Config.{Config}
use Rattle.config.specs.Questions.{Question, ask, first_no, within}
use Rattle.tag.specs.declared.Tag.{Tag}
use Rattle.record.specs.Kinds.{is_for_server}
use Rattle.record.specs.Message.{Message}
use Rattle.protocol.specs.Number.{to_list, upd}
use Rattle.protocol.specs.Server.{Server, fresh_server, is_stored, no_server, server_step}
use Rattle.protocol.specs.Client.{Client}
use Rattle.protocol.specs.Board.{Call, refused}
use Rattle.protocol.specs.Parties as parties
use Rattle.protocol.specs.Parties.{Acted, Parties, begin, client_acts, deliver, fresh_parties, questions_to_begin, questions_to_crash_client, questions_to_crash_server, questions_to_restart_server, quiet, server_acts, with_client, with_server, with_up}
use Rattle.protocol.specs.Rig.{Code, Rig, Turn, begin_write, begin_read, code_of, crash_client, crash_server, deliver_at, double, event, handOver, has_room, leaves, lose, move, move_of, questions, questions_after6, questions_to11, restart_server, run, unless_no, write_fits}
use Rattle.protocol.specs.Alike.{AlikeRigs, AlikeTurns, StoredOnce, OnceEach, SameButOrder}
use Rattle.protocol.proofs.Basics.{cond_elim}
use Rattle.protocol.proofs.Reordered.{answer_same, same_order, server_same, step_once}

-- the two of a server: they differ in the order alone, and the first has each tag once
record Like {Element : Type 0} (key : Tag → ℕ) (v w : Server Element) : Type 0 where
  same : SameButOrder v w
  once : StoredOnce key v.stored

module _ {Value Element : Type 0} (key : Tag → ℕ) where
  -- the same of parties, and of what they do
  record LikeParties (p q : Parties Value Element) : Type 0 where
    servers : (s : ℕ) → Like key (p.servers s) (q.servers s)
    up : p.up ≡ q.up
    clients : p.clients ≡ q.clients

  record LikeActed (x y : Acted Value Element) : Type 0 where
    parties : LikeParties x.parties y.parties
    sends : x.sends ≡ y.sends
    answer : x.answer ≡ y.answer

  record LikeTurns (t u : Turn Value Element) : Type 0 where
    parties : LikeParties t.rig.parties u.rig.parties
    in_flight : t.rig.in_flight ≡ u.rig.in_flight
    answer : t.answer ≡ u.answer

  choose_like : (b : Bool) {x y x' y' : Acted Value Element} → LikeActed x x' → LikeActed y y' → LikeActed (cond b x y) (cond b x' y')
  choose_like true h k = h
  choose_like false h k = k

-- a rig and itself
pub alike_self : {Value Element : Type 0} (r : Rig Value Element) → AlikeRigs r r
alike_self r =
    record {
      parties = record {
        servers = λ s. record { highest = refl; floor = refl; stored = same_order (r.parties.servers s).stored };
        up = refl;
        clients = refl;
      };
      in_flight = refl;
    }

-- an event with its refusals: by one number
pub unless_alike : {Value Element : Type 0} {r z : Rig Value Element} → AlikeRigs r z → {t u : Turn Value Element} {n k : ℕ} → n ≡ k
    → (n ≡ 0 → AlikeTurns t u) → AlikeTurns (unless_no r t n) (unless_no z u k)
unfolding unless_no
unless_alike {r = r} {z = z} alike {t} {u} {n} e h = subst (λ k. AlikeTurns (unless_no r t n) (unless_no z u k)) e (by (eqb n 0) refl)
  where
    by : (b : Bool) → eqb n 0 ≡ b → AlikeTurns (cond b t (record { rig = r; answer = refused n })) (cond b u (record { rig = z; answer = refused n }))
    by true f = h (eqb-true n 0 f)
    by false f = record { answer = refl; rig = alike }

module _ {Value Element : Type 0} (key : Tag → ℕ) (encode : Value → ℕ → Element) (decode : List (ℕ × Element) → Value) (cfg : Config) where
  -- ---- two rigs that have their clients, the servers that are up and the messages in flight in common

  module _ (f g : ℕ → Server Element) (like : (s : ℕ) → Like key (f s) (g s)) (up : ℕ → Bool) (clients : ℕ → Client Value Element) (ms : List (Message Element)) where
    abbrev p : Parties Value Element
    p = record { servers = f; up = up; clients = clients }

    abbrev q : Parties Value Element
    q = record { servers = g; up = up; clients = clients }

    abbrev r : Rig Value Element
    r = record { parties = p; in_flight = ms }

    abbrev z : Rig Value Element
    z = record { parties = q; in_flight = ms }

    -- events that touch no server's store
    quiet_like : LikeActed key (quiet p) (quiet q)
    unfolding quiet
    quiet_like = record { parties = record { servers = like; up = refl; clients = refl }; sends = refl; answer = refl }

    begin_like : (c : ℕ) (board : Option Value) → LikeActed key (begin cfg p c board) (begin cfg q c board)
    unfolding begin client_acts with_client
    begin_like c board = record { parties = record { servers = like; up = refl; clients = refl }; sends = refl; answer = refl }

    up_like : (s : ℕ) (up : Bool) → LikeActed key (quiet (with_up p s up)) (quiet (with_up q s up))
    unfolding quiet
    up_like s up = record { parties = record { servers = like; up = refl; clients = refl }; sends = refl; answer = refl }

    crash_client_like : (c : ℕ) → LikeActed key (parties.crash_client p c) (parties.crash_client q c)
    unfolding parties.crash_client quiet with_client
    crash_client_like c = record { parties = record { servers = like; up = refl; clients = refl }; sends = refl; answer = refl }

    -- a message is handed over
    served_like : (m : Message Element) (s : ℕ) → LikeActed key (server_acts p s (server_step key cfg.d s (f s) m)) (server_acts q s (server_step key cfg.d s (g s) m))
    unfolding server_acts with_server upd
    served_like m s =
        let v = server_step key cfg.d s (f s) m in
        let w = server_step key cfg.d s (g s) m in
        let stepped : Like key v.server w.server = record {
          same = server_same key cfg.d (f s) (g s) (like s).same (like s).once s m;
          once = step_once key cfg.d (f s) (like s).once s m;
        } in
        record {
          parties = record { servers = λ n. by n (eqb n s) v.server w.server stepped; up = refl; clients = refl };
          sends = ap to_list (answer_same key cfg.d (f s) (g s) (like s).same (like s).once s m);
          answer = refl;
        }
      where
        by : (n : ℕ) (b : Bool) (v w : Server Element) → Like key v w → Like key (cond b v (f n)) (cond b w (g n))
        by n true v w h = h
        by n false v w h = like n

    deliver_like : (m : Message Element) → LikeActed key (deliver key encode decode cfg p m) (deliver key encode decode cfg q m)
    unfolding deliver client_acts with_client
    deliver_like m =
        choose_like key (is_for_server m.kind) (choose_like key (up m.server) (served_like m m.server) quiet_like)
        (record { parties = record { servers = like; up = refl; clients = refl }; sends = refl; answer = refl })

    deliver_at_like : (o : Option (Message Element)) → LikeActed key (deliver_at key encode decode cfg p o) (deliver_at key encode decode cfg q o)
    unfolding deliver_at
    deliver_at_like none = quiet_like
    deliver_at_like (some m) = deliver_like m

    leaves_like : (left : List (Message Element)) {x y : Acted Value Element} → LikeActed key x y → LikeTurns key (leaves left x) (leaves left y)
    unfolding leaves
    leaves_like left {x} h =
        record {
          parties = h.parties;
          in_flight = ap (λ sends. (leaves left (record { parties = x.parties; sends = sends; answer = x.answer })).rig.in_flight) h.sends;
          answer = h.answer;
        }

    module _ (a : Call Value) where
      move_like : (w : Code) → LikeTurns key (move key encode decode cfg r a w) (move key encode decode cfg z a w)
      unfolding move
      move_like begin_write = leaves_like _ (begin_like a.party (some a.board))
      move_like begin_read = leaves_like _ (begin_like a.party none)
      move_like handOver = leaves_like _ (deliver_at_like (get_elem? ms a.position))
      move_like lose = leaves_like _ quiet_like
      move_like double = leaves_like _ quiet_like
      move_like crash_server = leaves_like _ (unfold parties.crash_server in up_like a.party false)
      move_like crash_client = leaves_like _ (crash_client_like a.party)
      move_like restart_server = leaves_like _ (unfold parties.restart_server in up_like a.party true)

      -- 8 to 11 ask nothing of what servers store
      to_11_like : (w : Code) → questions_to11 cfg r a w ≡ questions_to11 cfg z a w
      unfolding questions_to11 questions_to_begin questions_to_crash_server questions_to_crash_client questions_to_restart_server
      to_11_like begin_write = refl
      to_11_like begin_read = refl
      to_11_like handOver = refl
      to_11_like lose = refl
      to_11_like double = refl
      to_11_like crash_server = refl
      to_11_like crash_client = refl
      to_11_like restart_server = refl

      questions_like : (most : ℕ) (formed : Bool) (w : Option Code)
          → questions key encode decode cfg most r a formed w ≡ questions key encode decode cfg most z a formed w
      unfolding questions has_room
      questions_like most formed none = refl
      questions_like most formed (some w) = simp (to_11_like w, (move_like w).in_flight)

  -- ---- two rigs that are alike

  module _ (r z : Rig Value Element) (alike : AlikeRigs r z) (once : OnceEach key r.parties) (a : Call Value) where
    -- the first, with what they have in common taken from the second
    common : r ≡ record { parties = record { servers = r.parties.servers; up = z.parties.up; clients = z.parties.clients }; in_flight = z.in_flight }
    common = λ i. record {
      parties = record { servers = r.parties.servers; up = alike.parties.up i; clients = alike.parties.clients i };
      in_flight = alike.in_flight i;
    }

    each_like : (s : ℕ) → Like key (r.parties.servers s) (z.parties.servers s)
    each_like s = record { same = alike.parties.servers s; once = once s }

    like_turns : (w : Option Code) → LikeTurns key (move_of key encode decode cfg r a w) (move_of key encode decode cfg z a w)
    unfolding move_of
    like_turns none =
        record {
          parties = record { servers = each_like; up = alike.parties.up; clients = alike.parties.clients };
          in_flight = alike.in_flight;
          answer = refl;
        }
    like_turns (some w) =
        subst (λ x. LikeTurns key (move key encode decode cfg x a w) (move key encode decode cfg z a w)) (sym common)
        (move_like r.parties.servers z.parties.servers each_like z.parties.up z.parties.clients z.in_flight a w)

    -- what an event does: one answer, and two rigs alike
    pub move_alike : (w : Option Code) → AlikeTurns (move_of key encode decode cfg r a w) (move_of key encode decode cfg z a w)
    move_alike w =
        let h = like_turns w in
        record {
          answer = h.answer;
          rig = record {
            parties = record { servers = λ s. (h.parties.servers s).same; up = h.parties.up; clients = h.parties.clients };
            in_flight = h.in_flight;
          };
        }

    -- every question of an event has the same answer
    pub questions_alike : (most : ℕ) (formed : Bool) (w : Option Code)
        → questions key encode decode cfg most r a formed w ≡ questions key encode decode cfg most z a formed w
    questions_alike most formed w =
        subst (λ x. questions key encode decode cfg most x a formed w ≡ questions key encode decode cfg most z a formed w) (sym common)
        (questions_like r.parties.servers z.parties.servers each_like z.parties.up z.parties.clients z.in_flight a most formed w)

    -- the event, refused or not
    pub event_alike : (fits : Value → Bool) (most : ℕ) → AlikeTurns (event key encode decode cfg fits most r a) (event key encode decode cfg fits most z a)
    unfolding event
    event_alike fits most =
        let w = code_of a.code in
        unless_alike alike (ap (λ (qs : List Question). first_no (ask 19 (write_fits fits a w) ∷ qs)) (questions_alike most true w)) (λ _. move_alike w)

    -- and each stored tag is there once afterwards
    pub event_once : (fits : Value → Bool) (most : ℕ) → OnceEach key (event key encode decode cfg fits most r a).rig.parties
    unfolding event unless_no
    event_once fits most =
        let w = code_of a.code in
        let n = first_no (questions_after6 key encode decode cfg fits most r a true w) in
        cond_elim (λ t. OnceEach key t.rig.parties) (eqb n 0) (move_of key encode decode cfg r a w) (record { rig = r; answer = refused n })
        (λ _ s. ((like_turns w).parties.servers s).once) (λ _. once)

  -- along a list of calls: the same events
  pub run_alike : (fits : Value → Bool) (most : ℕ) (calls : List (Call Value)) (r z : Rig Value Element) → AlikeRigs r z → OnceEach key r.parties
      → run key encode decode cfg fits most r calls ≡ run key encode decode cfg fits most z calls
  unfolding run
  run_alike fits most [] r z alike once = refl
  run_alike fits most (a ∷ later) r z alike once =
      let next = event_alike r z alike once a fits most in
      ap₂ (λ x rest. record { call = a; answer = x } ∷ rest) next.answer
      (run_alike fits most later (event key encode decode cfg fits most r a).rig (event key encode decode cfg fits most z a).rig next.rig
      (event_once r z alike once a fits most))

  -- a fresh rig has each stored tag once: fresh servers store one, and where there is no server none is stored
  pub fresh_once : (start : Value) → OnceEach key (fresh_parties cfg encode start)
  unfolding fresh_parties fresh_server no_server StoredOnce is_stored
  fresh_once start s = cond_elim (λ v. StoredOnce key v.stored) (within 1 cfg.n s) (fresh_server (encode start s)) no_server (λ _. (refl, tt)) (λ _. tt)
