-- While a server is down it keeps what it has, whatever happens: only its own step changes it, and only event 8 brings it back. In order: what
-- parties do; an event of a rig, and of a network; the crash and the restart themselves; lists. Assumes nothing.
use Prim.Native.Nat.{ℕ}
use mathlib.Core.Path.{◌≡◌, refl, sym, ap, subst, ◌∙◌}
use mathlib.Core.Bool.{Bool, true, false, cond, ◌&&◌, false≢true}
use mathlib.Core.Option.{Option, none, some}
use mathlib.Core.List.{List, map}
use lib.Dec.{eqb}
use lib.ListN.{get_elem?}
use borrow.Author.Tests.{eq-eqb, eqb-true}
use Rattle.config.specs.declared.Config.{Config}
use Rattle.config.specs.declared.Room.{Room}
use Rattle.config.specs.Questions.{within}
use Rattle.tag.specs.declared.Tag.{Tag}
use Rattle.record.specs.Kinds.{is_for_server}
use Rattle.record.specs.Message.{Message}
use Rattle.protocol.specs.Board.{Answer, Call, Event, is_accepted, refused}
use Rattle.protocol.specs.Client.{Client, client_step}
use Rattle.protocol.specs.Server.{server_step}
use Rattle.protocol.specs.Parties as parties
use Rattle.protocol.specs.Parties.{Acted, Parties, begin, client_acts, deliver, quiet, server_acts, with_client, with_server}
use Rattle.protocol.specs.Rig as rig
use Rattle.protocol.specs.Rig.{Code, Rig, Turn, begin_write, begin_read, code_of, crash_client, crash_server, deliver_at, double, handOver, leaves, lose, restart_server, unless_no}
use Rattle.protocol.specs.Network.{Network, NetworkTurn, among_all, board_move, network_move, network_move_of, on_each, placed, turned_on, turned_on_each, unless_refused}
use Rattle.protocol.specs.GoesOn.{GoesOn, goes, stays}
use Rattle.protocol.specs.Restart.{Kept, NoRestart, is_done, restarts}
use Rattle.protocol.proofs.Basics.{and-true, cond_elim, upd_elim, upd_other, upd_same}
use Rattle.protocol.proofs.Move.{code_number, code-number}

-- an event that doesn't start server s again is no restart, where restarts are accepted, or it is one of another server
another : {Value : Type 0} (s : ℕ) (a : Call Value) (w : Code) → code_of a.code ≡ some w → (answer : Code → Answer Value) → is_accepted (answer restart_server) ≡ true
    → restarts s (record { call = a; answer = answer w }) ≡ false → w ≡ restart_server → a.party ≡ s → ⊥
unfolding is_done code_number
another s a w e answer taken not its party =
    let eight : a.code ≡ 8 = code-number a.code w e ∙ ap code_number its in
    let accepted : is_accepted (answer w) ≡ true = subst (λ z. is_accepted (answer z) ≡ true) (sym its) taken in
    false≢true (sym not ∙ rw (accepted, eq-eqb a.code 8 eight, eq-eqb a.party s party) refl)

module _ {Value Element : Type 0} (key : Tag → ℕ) (encode : Value → ℕ → Element) (decode : List (ℕ × Element) → Value) (cfg : Config) (s : ℕ) where
  -- ---- what parties do

  module _ (p : Parties Value Element) (down : p.up s ≡ false) where
    abbrev Keeps : Acted Value Element → Type 0
    Keeps x = Kept s false p x.parties

    -- only clients change
    same : (clients : ℕ → Client Value Element) → Kept s false p (record { servers = p.servers; up = p.up; clients = clients })
    same clients = record { server = refl; up = down }

    deliver_keeps : (m : Message Element) → Keeps (deliver key encode decode cfg p m)
    unfolding deliver server_acts client_acts with_server with_client quiet
    deliver_keeps m =
        cond_elim Keeps (is_for_server m.kind) (cond (p.up m.server) (server_acts p m.server (server_step key cfg.d m.server (p.servers m.server) m)) (quiet p)) (client_acts p m.client (client_step key encode decode cfg m.client (p.clients m.client) m))
        (λ _. cond_elim Keeps (p.up m.server) (server_acts p m.server (server_step key cfg.d m.server (p.servers m.server) m)) (quiet p)
        (λ up. record {
          server = upd_other p.servers m.server _ s (λ its. false≢true (sym down ∙ ap p.up its ∙ up));
          up = down;
        })
        (λ _. same p.clients))
        (λ _. same _)

    deliver_at_keeps : (o : Option (Message Element)) → Keeps (deliver_at key encode decode cfg p o)
    unfolding deliver_at quiet
    deliver_at_keeps none = same p.clients
    deliver_at_keeps (some m) = deliver_keeps m

    up_keeps : (t : ℕ) (up : Bool) → (up ≡ true → t ≡ s → ⊥) → Kept s false p (parties.with_up p t up)
    up_keeps t up other =
        record {
          server = refl;
          up = upd_elim (λ u. u ≡ false) p.up t up s (λ its. by up other (sym its)) (λ _. down);
        }
      where
        by : (u : Bool) → (u ≡ true → t ≡ s → ⊥) → t ≡ s → u ≡ false
        by true h its = absurd (h refl its)
        by false h its = refl

  -- ---- an event of a rig

  -- every event but a restart of the server itself
  pub move_keeps : (r : Rig Value Element) → r.parties.up s ≡ false → (a : Call Value) (w : Code) → (w ≡ restart_server → a.party ≡ s → ⊥)
      → Kept s false r.parties (rig.move key encode decode cfg r a w).rig.parties
  unfolding rig.move leaves begin client_acts with_client quiet parties.crash_server parties.crash_client parties.restart_server
  move_keeps r down a begin_write other = same r.parties down _
  move_keeps r down a begin_read other = same r.parties down _
  move_keeps r down a handOver other = deliver_at_keeps r.parties down (get_elem? r.in_flight a.position)
  move_keeps r down a lose other = same r.parties down _
  move_keeps r down a double other = same r.parties down _
  move_keeps r down a crash_server other = up_keeps r.parties down a.party false (λ e. absurd (false≢true e))
  move_keeps r down a crash_client other = same r.parties down _
  move_keeps r down a restart_server other = up_keeps r.parties down a.party true (λ _. other refl)

  module _ (r : Rig Value Element) (down : r.parties.up s ≡ false) (a : Call Value) where
    abbrev turn : Option Code → Turn Value Element
    turn o = rig.move_of key encode decode cfg r a o

    abbrev Turns : Turn Value Element → Type 0
    Turns t = restarts s (record { call = a; answer = t.answer }) ≡ false → Kept s false r.parties t.rig.parties

    move_of_keeps : (o : Option Code) → code_of a.code ≡ o → Turns (turn o)
    unfolding rig.move_of
    move_of_keeps none e not = same r.parties down _
    move_of_keeps (some w) e not =
        move_keeps r down a w (another s a w e (λ v. (rig.move key encode decode cfg r a v).answer) (unfold rig.move leaves parties.restart_server quiet is_accepted in refl) not)

    -- whatever it answers: `number` is that of the first question answered no, or 0
    pub event_keeps : (number : ℕ) → Turns (unless_no r (turn (code_of a.code)) number)
    unfolding unless_no
    event_keeps number =
        cond_elim Turns (eqb number 0) (turn (code_of a.code)) (record { rig = r; answer = refused number }) (λ _. move_of_keeps (code_of a.code) refl)
        (λ _ _. same r.parties down _)

  -- ---- an event of a network, for board b

  module _ (room : Room) (n : Network Value Element) (b : ℕ) (down : (n.parties b).up s ≡ false) where
    -- the board's parties, in whatever is in flight
    abbrev alone : Rig Value Element
    alone = record { parties = n.parties b; in_flight = n.in_flight }

    each_keeps : (f : Parties Value Element → Parties Value Element) → Kept s false (n.parties b) (f (n.parties b))
        → Kept s false (n.parties b) ((on_each room f n).parties b)
    unfolding on_each
    each_keeps f h = cond_elim (Kept s false (n.parties b)) (within 1 room.boards b) (f (n.parties b)) (n.parties b) (λ _. h) (λ _. same (n.parties b) down _)

    board_keeps : (o : ℕ) (a : Call Value) (w : Code) → (w ≡ restart_server → a.party ≡ s → ⊥)
        → Kept s false (n.parties b) ((board_move key encode decode cfg n o a w).network.parties b)
    unfolding board_move turned_on among_all placed
    board_keeps o a w other =
        upd_elim (Kept s false (n.parties b)) n.parties o _ b
        (λ its. subst (λ c. Kept s false (n.parties b) (rig.move key encode decode cfg (among_all c n) (placed c n a) w).rig.parties) its
        (move_keeps (among_all b n) down (placed b n a) w other))
        (λ _. same (n.parties b) down _)

    network_move_keeps : (o : ℕ) (a : Call Value) (w : Code) → (w ≡ restart_server → a.party ≡ s → ⊥)
        → Kept s false (n.parties b) ((network_move key encode decode cfg room n o a w).network.parties b)
    unfolding network_move turned_on_each rig.move leaves
    network_move_keeps o a begin_write other = board_keeps o a begin_write other
    network_move_keeps o a begin_read other = board_keeps o a begin_read other
    network_move_keeps o a handOver other = board_keeps o a handOver other
    network_move_keeps o a lose other = board_keeps o a lose other
    network_move_keeps o a double other = board_keeps o a double other
    network_move_keeps o a crash_server other = each_keeps _ (move_keeps alone down a crash_server other)
    network_move_keeps o a crash_client other = each_keeps _ (move_keeps alone down a crash_client other)
    network_move_keeps o a restart_server other = each_keeps _ (move_keeps alone down a restart_server other)

    module _ (o : ℕ) (a : Call Value) where
      abbrev network_turn : Option Code → NetworkTurn Value Element
      network_turn c = network_move_of key encode decode cfg room n o a c

      abbrev NetworkTurns : NetworkTurn Value Element → Type 0
      NetworkTurns t = restarts s (record { call = a; answer = t.answer }) ≡ false → Kept s false (n.parties b) (t.network.parties b)

      network_move_of_keeps : (c : Option Code) → code_of a.code ≡ c → NetworkTurns (network_turn c)
      unfolding network_move_of
      network_move_of_keeps none e not = same (n.parties b) down _
      network_move_of_keeps (some w) e not =
          network_move_keeps o a w (another s a w e (λ v. (network_move key encode decode cfg room n o a v).answer) (unfold network_move turned_on_each is_accepted in refl) not)

      -- whatever it answers
      pub network_event_keeps : (number : ℕ) → NetworkTurns (unless_refused n (network_turn (code_of a.code)) number)
      unfolding unless_refused
      network_event_keeps number =
          cond_elim NetworkTurns (eqb number 0) (network_turn (code_of a.code)) (record { network = n; answer = refused number })
          (λ _. network_move_of_keeps (code_of a.code) refl) (λ _ _. same (n.parties b) down _)

-- ---- the crash and the restart themselves

-- what it says that an event of a code was accepted
done_says : {Value : Type 0} (code s : ℕ) (x : Event Value) → is_done code s x ≡ true
    → (is_accepted x.answer ≡ true) × (x.call.code ≡ code) × (x.call.party ≡ s)
unfolding is_done
done_says code s x h =
    let first = and-true (is_accepted x.answer && eqb x.call.code code) (eqb x.call.party s) h in
    let second = and-true (is_accepted x.answer) (eqb x.call.code code) first.0 in
    (second.0, eqb-true x.call.code code second.1, eqb-true x.call.party s first.1)

up_is : {Value Element : Type 0} (p : Parties Value Element) (s : ℕ) (up : Bool) → Kept s up p (parties.with_up p s up)
up_is p s up = record { server = refl; up = upd_same p.up s up }

-- the codes of the two, by what the server is then
abbrev pub code_for : Bool → ℕ
code_for up = cond up 8 6

module _ {Value Element : Type 0} (key : Tag → ℕ) (encode : Value → ℕ → Element) (decode : List (ℕ × Element) → Value) (cfg : Config) where
  -- of a rig
  module _ (r : Rig Value Element) (a : Call Value) where
    moved_up : (up : Bool) → a.code ≡ code_for up → Kept a.party up r.parties (rig.move_of key encode decode cfg r a (code_of a.code)).rig.parties
    unfolding code_of rig.move_of rig.move leaves parties.crash_server parties.restart_server quiet
    moved_up true e = rw e (up_is r.parties a.party true)
    moved_up false e = rw e (up_is r.parties a.party false)

    pub done_keeps : (number s : ℕ) (up : Bool)
        → is_done (code_for up) s (record { call = a; answer = (unless_no r (rig.move_of key encode decode cfg r a (code_of a.code)) number).answer }) ≡ true
        → Kept s up r.parties (unless_no r (rig.move_of key encode decode cfg r a (code_of a.code)) number).rig.parties
    unfolding unless_no
    done_keeps number s up =
        cond_elim (λ (t : Turn Value Element). is_done (code_for up) s (record { call = a; answer = t.answer }) ≡ true → Kept s up r.parties t.rig.parties)
        (eqb number 0) (rig.move_of key encode decode cfg r a (code_of a.code)) (record { rig = r; answer = refused number })
        (λ _ h. let says = done_says (code_for up) s _ h in subst (λ z. Kept z up r.parties (rig.move_of key encode decode cfg r a (code_of a.code)).rig.parties) says.2 (moved_up up says.1))
        (λ _ h. absurd (false≢true (unfold is_accepted in (done_says (code_for up) s _ h).0)))

  -- of a network, on each board that there is
  module _ (room : Room) (n : Network Value Element) (b : ℕ) (exists : within 1 room.boards b ≡ true) (o : ℕ) (a : Call Value) where
    network_moved_up : (up : Bool) → a.code ≡ code_for up
        → Kept a.party up (n.parties b) ((network_move_of key encode decode cfg room n o a (code_of a.code)).network.parties b)
    unfolding code_of network_move_of network_move turned_on_each on_each parties.crash_server parties.restart_server quiet
    network_moved_up true e = rw (e, exists) (up_is (n.parties b) a.party true)
    network_moved_up false e = rw (e, exists) (up_is (n.parties b) a.party false)

    pub network_done_keeps : (number s : ℕ) (up : Bool)
        → is_done (code_for up) s (record { call = a; answer = (unless_refused n (network_move_of key encode decode cfg room n o a (code_of a.code)) number).answer }) ≡ true
        → Kept s up (n.parties b) ((unless_refused n (network_move_of key encode decode cfg room n o a (code_of a.code)) number).network.parties b)
    unfolding unless_refused
    network_done_keeps number s up =
        cond_elim (λ (t : NetworkTurn Value Element). is_done (code_for up) s (record { call = a; answer = t.answer }) ≡ true → Kept s up (n.parties b) (t.network.parties b))
        (eqb number 0) (network_move_of key encode decode cfg room n o a (code_of a.code)) (record { network = n; answer = refused number })
        (λ _ h. let says = done_says (code_for up) s _ h in subst (λ z. Kept z up (n.parties b) ((network_move_of key encode decode cfg room n o a (code_of a.code)).network.parties b)) says.2 (network_moved_up up says.1))
        (λ _ h. absurd (false≢true (unfold is_accepted in (done_says (code_for up) s _ h).0)))

-- ---- lists that go on

-- over a list of events, each of which keeps a server that is down
module _ {Value Element State E : Type 0} (OneEvent : State → E → State → Type 0) (seen : State → Parties Value Element) (event : E → Event Value) (s : ℕ)
    (keeps : (x : State) (e : E) (y : State) → OneEvent x e y → (seen x).up s ≡ false → restarts s (event e) ≡ false → Kept s false (seen x) (seen y))
  where
    pub goes_on_keeps : {x y : State} {es : List E} → GoesOn OneEvent x es y → (seen x).up s ≡ false → NoRestart s (map event es) → Kept s false (seen x) (seen y)
    unfolding NoRestart
    goes_on_keeps stays down not = record { server = refl; up = down }
    goes_on_keeps (goes {x} {y} {z} {e} step later) down not =
        let first = keeps x e y step down not.0 in
        let rest = goes_on_keeps later first.up not.1 in
        record { server = rest.server ∙ first.server; up = rest.up }

    -- from its crash to its restart
    pub comes_back : {w x y z : State} {es : List E} → Kept s false (seen w) (seen x) → GoesOn OneEvent x es y → NoRestart s (map event es)
        → Kept s true (seen y) (seen z) → Kept s true (seen w) (seen z)
    comes_back crashed between not restarted =
        let down = goes_on_keeps between crashed.up not in
        record { server = restarted.server ∙ down.server ∙ crashed.server; up = restarted.up }
