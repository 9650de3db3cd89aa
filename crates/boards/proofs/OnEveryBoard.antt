-- A crash or a restart on every board is the network's event: where one board refuses it all do, with one number, and else each board's parties are
-- as the network's event leaves them. In order: the event's code; lists by their places; the event on one board; the number; the boards after it.
-- Assumes nothing.
use Prim.Native.Nat.{ℕ, zero, suc, ◌+◌, ◌-◌, ◌≤◌, ◌<◌}
use mathlib.Core.Path.{◌≡◌, refl, sym, ap, ap₂, subst, fun_ext, ◌∙◌}
use mathlib.Core.Bool.{Bool, true, false, cond, not, ◌&&◌}
use mathlib.Core.Option.{Option, some, some-injective}
use mathlib.Core.List.{List, [], ◌∷◌, ◌++◌, append-nil}
use native.Mathlib.Omega.{arith}
use native.Mathlib.Decide.{ℕ_discrete, dec_lt}
use borrow.Author.Tests.{eq-eqb, eqb-true, le-leb, ne_eqb}
use lib.Dec.{eqb, leb}
use lib.ListN.{length, take, get_elem?}
use Rattle.laws.specs.Owners.{place_of}
use Rattle.laws.proofs.Below.{below_all}
use Rattle.laws.proofs.Bools.{and_left, and_right}
use Rattle.config.specs.declared.Config.{Config}
use Rattle.config.specs.declared.Room.{Room}
use Rattle.config.specs.Config.{board_length, rig_questions}
use Rattle.config.specs.Questions.{Question, ask, first_no, within}
use Rattle.config.specs.Room.{fits_room, owners_within, room_questions}
use Rattle.config.proofs.Questions.{first_no_pass, first_no_yes, last_yes, rig_questions_numbered, within_high, within_low, within_true}
use Rattle.config.proofs.Rooms.{room_five, room_questions_numbered}
use Rattle.flight.specs.Flight.{records}
use Rattle.protocol.specs.Board.{nothing_ended, refused}
use Rattle.protocol.specs.Boards.{BoardCall, BoardMessage, BoardNetwork, BoardNetworkTurn, BoardRig, BoardTurn, decode, encode, move, move_of, network_after6, network_move, network_move_of, order, write_fits}
use Rattle.protocol.specs.Network as network
use Rattle.protocol.specs.Network.{On, asked_board, board_exists, names_board, network_to11, on_each, rig_of, turned_on_each, unless_refused}
use Rattle.protocol.specs.Parties as parties
use Rattle.protocol.specs.Parties.{questions_to_crash_client, questions_to_crash_server, questions_to_restart_server, quiet}
use Rattle.protocol.specs.Rig as protocol
use Rattle.protocol.specs.Rig.{Code, code_of, crash_client, crash_server, leaves, questions_to11, restart_server, unless_no}
use Rattle.protocol.proofs.Cut.{length_cut}
use Rattle.protocol.proofs.NetworkMoves.{every_answer, every_elim, every_flight, every_move, every_owners}
use Rattle.protocol.proofs.Together.{SameUp, Together, alive, move_together}
use Rattle.parties.specs.Acts.{answer_of}
use Rattle.events.specs.declared.Rig.{Rig as OneRig}
use Rattle.events.specs.declared.Turn.{Turn as OneTurn}
use Rattle.events.specs.Calls.{EventPost as OneEventPost, called as one_called, event_no as one_event_no, outcome as one_outcome, records_after}
use Rattle.events.specs.Questions as one
use Rattle.events.specs.Questions.{formed_for}
use Rattle.events.specs.View as oneView
use Rattle.events.specs.View.{messages_of, parties_of}
use Rattle.events.proofs.Numbers as numbering
use Rattle.rig.specs.Calls.{rig_no}
use Rattle.boards.specs.declared.Call.{Call}
use Rattle.boards.specs.declared.Rig.{Rig}
use Rattle.boards.specs.declared.Turn.{Turn}
use Rattle.boards.specs.View.{Lent, board_by, flight, lent_at, owners_of, rig_at, rig_with, view}
use Rattle.boards.specs.Questions.{all_sized, board_within, event_questions, rig_within, sized, up_alike}
use Rattle.boards.specs.Calls.{EventPost, called, event_no, outcome}
use Rattle.boards.specs.inner.CrashOrRestart.{AllPost, as_one}
use Rattle.boards.proofs.Codes.{past}
use Rattle.boards.proofs.OneOf.{counting, same_parties}
use Rattle.boards.proofs.UpAlike.{up-alike}
use Rattle.boards.proofs.Whole.{Passed, count_is, parties_at, parties_none, parties_there, passed}

-- ---- the event's code

-- a code from 6 to 8 is that of an event that names no board
every_code : (n : ℕ) → 6 ≤ n → n ≤ 8 → (w : Code) × (code_of n ≡ some w) × (names_board (some w) ≡ false)
unfolding code_of names_board
every_code n low high =
    past P 6 n low (crash_server, refl, refl) (λ h. past P 7 n h (crash_client, refl, refl) (λ h.
    let e : n ≡ 8 = omega (arith, h, high) in (restart_server, ap code_of e, refl)))
  where
    P : ℕ → Type 0
    P k = (w : Code) × (code_of k ≡ some w) × (names_board (some w) ≡ false)

-- ---- lists by their places

-- lists of which the same stands at each place
same_places : {A : Type 0} (xs ys : List A) → ((i : ℕ) → get_elem? xs i ≡ get_elem? ys i) → xs ≡ ys
same_places [] [] h = refl
same_places [] (y ∷ ys) h = cc (h 0)
same_places (x ∷ xs) [] h = cc (h 0)
same_places (x ∷ xs) (y ∷ ys) h = ap₂ ◌∷◌ (some-injective x y (h 0)) (same_places xs ys (λ i. h (suc i)))

-- where something stands there is a place
stands_below : {A : Type 0} (xs : List A) (i : ℕ) (x : A) → get_elem? xs i ≡ some x → i < length xs
stands_below [] i x e = let z : zero ≡ suc zero = cc in absurd (omega (arith, z))
stands_below (y ∷ ys) zero x e = omega arith
stands_below (y ∷ ys) (suc i) x e = omega (arith, stands_below ys i x e)

stands_at : {A : Type 0} (xs : List A) (i : ℕ) → i < length xs → (x : A) × (get_elem? xs i ≡ some x)
stands_at [] i h = absurd (omega (arith, h))
stands_at (y ∷ ys) zero h = (y, refl)
stands_at (y ∷ ys) (suc i) h = stands_at ys i (omega (arith, h))

-- ---- the event on one board

module _ (cfg : Config) (w : Code) (everywhere : names_board (some w) ≡ false) where
  -- 8 and 9 go by which parties are up, and by the party's number
  same_asked : (v u : BoardRig) (a x : BoardCall) → SameUp v.parties u.parties → a.party ≡ x.party
      → questions_to11 cfg v a w ≡ questions_to11 cfg u x w
  unfolding questions_to11 questions_to_crash_server questions_to_crash_client questions_to_restart_server
  same_asked v u a x up e =
      every_elim (λ z. questions_to11 cfg v a z ≡ questions_to11 cfg u x z)
      (ap (λ p. ask 8 (within 1 cfg.n p) ∷ ask 9 (v.parties.up p) ∷ []) e ∙ ap (λ b. ask 8 (within 1 cfg.n x.party) ∷ ask 9 b ∷ []) (up.servers x.party))
      (ap (λ p. ask 8 (within 1 cfg.c p) ∷ ask 9 (alive v.parties p) ∷ []) e ∙ ap (λ b. ask 8 (within 1 cfg.c x.party) ∷ ask 9 b ∷ []) (up.clients x.party))
      (ap (λ p. ask 8 (within 1 cfg.n p) ∷ ask 9 (not (v.parties.up p)) ∷ []) e ∙ ap (λ b. ask 8 (within 1 cfg.n x.party) ∷ ask 9 (not b) ∷ []) (up.servers x.party))
      w everywhere

  -- what is left of the parties goes by them, and by the party's number
  same_move : (v u : BoardRig) (a x : BoardCall) → v.parties ≡ u.parties → a.party ≡ x.party
      → (move cfg v a w).rig.parties ≡ (move cfg u x w).rig.parties
  unfolding protocol.move leaves parties.crash_server parties.crash_client parties.restart_server quiet
  same_move v u a x own e =
      every_elim (λ z. (move cfg v a z).rig.parties ≡ (move cfg u x z).rig.parties)
      (ap₂ (λ p s. (parties.crash_server p s).parties) own e)
      (ap₂ (λ p c. (parties.crash_client p c).parties) own e)
      (ap₂ (λ p s. (parties.restart_server p s).parties) own e)
      w everywhere

  -- it asks nothing else, ends nothing and leaves the messages
  every_fits : (a : BoardCall) → write_fits cfg a (some w) ≡ true
  unfolding protocol.write_fits
  every_fits a = every_elim (λ z. write_fits cfg a (some z) ≡ true) refl refl refl w everywhere

  every_formed : (rs : List (List ℕ)) (i : ℕ) → formed_for cfg rs i (some w) ≡ true
  unfolding formed_for
  every_formed rs i = every_elim (λ z. formed_for cfg rs i (some z) ≡ true) refl refl refl w everywhere

  every_ends : (v : BoardRig) (a : BoardCall) → (move cfg v a w).answer ≡ nothing_ended
  unfolding protocol.move leaves parties.crash_server parties.crash_client parties.restart_server quiet
  every_ends v a = every_elim (λ z. (move cfg v a z).answer ≡ nothing_ended) refl refl refl w everywhere

  every_room : (m : ℕ) (v : BoardRig) (a : BoardCall) → length v.in_flight ≤ m → protocol.has_room m (move cfg v a w) ≡ true
  unfolding protocol.has_room protocol.move leaves parties.crash_server parties.crash_client parties.restart_server quiet
  every_room m v a few =
      every_elim (λ z. protocol.has_room m (move cfg v a z) ≡ true)
      left left left w everywhere
    where
      left : leb (length (v.in_flight ++ [])) m ≡ true
      left = ap (λ (xs : List BoardMessage). leb (length xs) m) (append-nil v.in_flight) ∙ le-leb (length v.in_flight) m few

  every_records : (rs : List (List ℕ)) (i : ℕ) (ms : List BoardMessage) → records_after cfg rs i ms (some w) ≡ rs
  unfolding records_after
  every_records rs i ms = every_elim (λ z. records_after cfg rs i ms (some z) ≡ rs) refl refl refl w everywhere

-- ---- the number

-- questions that are all answered yes, behind others
then_yes : (first rest : List Question) → first_no rest ≡ 0 → first_no (first ++ rest) ≡ first_no first
unfolding first_no
then_yes [] rest h = h
then_yes (ask number true ∷ first) rest h = then_yes first rest h
then_yes (ask number false ∷ first) rest h = refl

module _ (cfg : Config) (room : Room) (r : Rig) (l : Lent) (six : Passed cfg room r l) where
  abbrev n : BoardNetwork
  n = view cfg room r l

  module _ (a : Call) (board read : List ℕ) (board_long : length board ≡ board_length cfg) (read_long : length read ≡ board_length cfg) (w : Code)
      (code : code_of a.code ≡ some w) (everywhere : names_board (some w) ≡ false) where
    abbrev x : On BoardCall
    x = called a board

    abbrev y : BoardCall
    y = one_called (as_one a) board

    abbrev place : ℕ
    place = place_of a.board a.position (owners_of r l)

    -- of 8 and 9, asked of board 1
    abbrev k : ℕ
    k = first_no (network_to11 cfg n a.board x.it w)

    abbrev moved : BoardNetworkTurn
    moved = network_move cfg room n a.board x.it w

    to_first : network_to11 cfg n a.board x.it w ≡ questions_to11 cfg (rig_of 1 n) x.it w
    unfolding network_to11 asked_board
    to_first = ap (λ t. questions_to11 cfg (rig_of (cond t a.board 1) n) x.it w) everywhere

    abbrev seen_at : ℕ → BoardRig
    seen_at i = oneView.view cfg (rig_at r i) (lent_at cfg l i)

    -- those of each board are the same
    one_asked : (i : ℕ) → i < room.boards → questions_to11 cfg (seen_at i) y w ≡ network_to11 cfg n a.board x.it w
    unfolding oneView.view rig_of
    one_asked i low =
        let exists = within_true 1 room.boards (i + 1) (omega arith) (omega (arith, low)) in
        same_asked cfg w everywhere (seen_at i) (rig_of 1 n) y x.it
        (subst (λ p. SameUp p (n.parties 1)) (parties_at cfg room r l i low) (six.together.up (i + 1) 1 exists six.first_exists)) refl
        ∙ sym to_first

    one_long : (i : ℕ) → i < room.boards → one.all_sized cfg room.m y.board.bytes read (lent_at cfg l i) ≡ true
    one_long i low =
        ap₂ ◌&&◌
        (ap₂ ◌&&◌ (eq-eqb (length y.board.bytes) (board_length cfg) (length_cut 0 board ∙ board_long)) (eq-eqb (length read) (board_length cfg) read_long))
        (six.sized_at i low)

    one_passed : (i : ℕ) → i < room.boards → rig_no cfg room.m (rig_at r i) ≡ 0
    one_passed i low =
        last_yes (rig_questions cfg room.m) 6 (one.rig_within cfg room.m (rig_at r i)) (rig_questions_numbered cfg room.m)
        (room_five cfg room six.accepted) (six.within i low)

    one_six : (i : ℕ) → i < room.boards
        → first_no (rig_questions cfg room.m ++ ask 6 (one.all_sized cfg room.m y.board.bytes read (lent_at cfg l i) && one.rig_within cfg room.m (rig_at r i)) ∷ []) ≡ 0
    one_six i low =
        last_yes (rig_questions cfg room.m) 6 (one.all_sized cfg room.m y.board.bytes read (lent_at cfg l i) && one.rig_within cfg room.m (rig_at r i))
        (rig_questions_numbered cfg room.m) (room_five cfg room six.accepted) (ap₂ ◌&&◌ (one_long i low) (six.within i low))

    one-number : (i : ℕ) → i < room.boards → one_event_no cfg room.m (rig_at r i) y read (lent_at cfg l i) ≡ k
    one-number i low = elim (ℕ_discrete k 0) as (λ _. one_event_no cfg room.m (rig_at r i) y read (lent_at cfg l i) ≡ k) [
      | yes z ↦
          numbering.accepted_number cfg room.m (rig_at r i) y read (lent_at cfg l i) (one_six i low) w code (every_fits cfg w everywhere y)
          (ap first_no (one_asked i low) ∙ z) (every_formed cfg w everywhere (oneView.flight (rig_at r i) (lent_at cfg l i)) 0)
          (every_room cfg w everywhere room.m (seen_at i) y
          (omega (arith, six.few, numbering.many cfg (rig_at r i) (lent_at cfg l i), count_is (get_elem? r.boards i) r.count)))
          ∙ sym z
      | no ne ↦
          numbering.early_number cfg room.m (rig_at r i) y read (lent_at cfg l i) (one_six i low) w code (every_fits cfg w everywhere y) k
          (ap first_no (one_asked i low)) ne
    ]

    -- the network's event asks of board 1 too
    abbrev all-long : Bool
    all-long = all_sized cfg room x.it.board.bytes read l && rig_within cfg room r l.owners

    after-six : Option Code → ℕ
    after-six o = first_no (network_after6 cfg room n a.board x.it (formed_for cfg (flight r l) place o) o)

    exists : board_exists room a.board (code_of a.code) ≡ true
    unfolding board_exists
    exists = ap (board_exists room a.board) code ∙ ap (λ t. cond t (within 1 room.boards a.board) true) everywhere

    all_yes : all-long ≡ true
    all_yes =
        ap₂ ◌&&◌
        (ap₂ ◌&&◌
        (ap₂ ◌&&◌ (eq-eqb (length x.it.board.bytes) (board_length cfg) (length_cut a.length board ∙ board_long))
        (eq-eqb (length read) (board_length cfg) read_long))
        six.sized)
        six.rig

    abbrev thirteen : Bool
    thirteen = fits_room room moved.network.owners

    last_two : first_no (ask 12 (formed_for cfg (flight r l) place (some w)) ∷ ask 13 thirteen ∷ []) ≡ 0
    unfolding first_no view
    last_two =
        first_no_yes 12 (formed_for cfg (flight r l) place (some w)) (ask 13 thirteen ∷ []) (every_formed cfg w everywhere (flight r l) place)
        ∙ first_no_yes 13 thirteen [] (ap (fits_room room) (every_owners (order cfg) (encode cfg) (decode cfg) cfg room n a.board x.it w everywhere) ∙ six.roomy)

    number : event_no cfg room r x read l ≡ k
    unfolding event_questions network.network_from7 after-six
    number =
        first_no_pass (room_questions cfg room) _ (room_questions_numbered cfg room) six.accepted
        ∙ first_no_yes 22 (board_exists room a.board (code_of a.code)) _ exists
        ∙ first_no_yes 6 all-long _ all_yes
        ∙ ap after-six code
        ∙ first_no_yes 19 (write_fits cfg x.it (some w)) _ (every_fits cfg w everywhere x.it)
        ∙ first_no_yes 7 true _ refl
        ∙ then_yes (network_to11 cfg n a.board x.it w) _ last_two

    -- ---- the boards after it

    module _ (t : Turn) (post : AllPost cfg room r a t) where
      abbrev turn_at : (i : ℕ) → i < room.boards → OneTurn
      turn_at i low = (post.each i low).turn

      event_at : (i : ℕ) (low : i < room.boards)
          → OneEventPost cfg room.m (rig_at r i) y read (lent_at cfg l i) (turn_at i low) read (lent_at cfg l i)
      event_at i low = (post.each i low).turned.event (one_passed i low) board read (lent_at cfg l i) (one_long i low)

      first_event : OneEventPost cfg room.m (rig_at r 0) y read (lent_at cfg l 0) post.first read (lent_at cfg l 0)
      first_event = post.answers.event (one_passed 0 six.first) board read (lent_at cfg l 0) (one_long 0 six.first)

      left_at : (i : ℕ) (low : i < room.boards) → rig_at t.rig i ≡ counting (turn_at i low).rig t.rig.count
      unfolding rig_with
      left_at i low = ap (λ o. rig_with o t.rig.count) (post.each i low).is

      -- refused, on every board
      module _ (ne : k ≡ 0 → ⊥) where
        held_at : (i : ℕ) → get_elem? t.rig.boards i ≡ get_elem? r.boards i
        unfolding rig_with
        held_at i = elim (dec_lt i room.boards) as (λ _. get_elem? t.rig.boards i ≡ get_elem? r.boards i) [
          | yes low ↦
              let p = post.each i low in
              let here = stands_at r.boards i (omega (arith, post.long, stands_below t.rig.boards i (board_by p.turn.rig) p.is)) in
              p.is
              ∙ ap (λ (z : OneRig). some (board_by z)) ((event_at i low).held (λ z. ne (sym (one-number i low) ∙ z))).0
              ∙ ap (λ o. some (board_by (rig_with o r.count))) here.1
              ∙ sym here.1
          | no low ↦ post.rest i (omega (arith, low))
        ]

        rig_held : t.rig ≡ r
        rig_held = λ i. record { boards = same_places t.rig.boards r.boards held_at i; count = post.count i }

        outcome_no : outcome cfg room r x read l ≡ record { network = n; answer = refused k }
        unfolding unless_refused
        outcome_no =
            ap (unless_refused n (network_move_of cfg room n a.board x.it (code_of a.code))) number ∙ rw (ne_eqb k 0 ne)

        one_outcome_no : (one_outcome cfg room.m (rig_at r 0) y read (lent_at cfg l 0)).answer ≡ refused k
        unfolding unless_no
        one_outcome_no =
            ap (λ j. (unless_no (seen_at 0) (move_of cfg (seen_at 0) y (code_of a.code)) j).answer) (one-number 0 six.first) ∙ rw (ne_eqb k 0 ne)

        refused_post : EventPost cfg room r x read l t read l
        refused_post =
            record {
              answer =
                  ap (λ z. answer_of z read) post.answer ∙ first_event.answer ∙ one_outcome_no
                  ∙ sym (ap (λ (z : BoardNetworkTurn). z.answer) outcome_no);
              untouched = λ _. refl;
              seen = ap (λ z. view cfg room z l) rig_held ∙ sym (ap (λ (z : BoardNetworkTurn). z.network) outcome_no);
              records = λ z. absurd (ne (sym number ∙ z));
              within = λ z. absurd (ne (sym number ∙ z));
              lengths = refl;
              held = λ _. (rig_held, refl);
              buffers_stay = λ _. refl;
            }

      -- done, on every board
      module _ (z : k ≡ 0) where
        outcome_yes : outcome cfg room r x read l ≡ moved
        unfolding unless_refused network.network_move_of
        outcome_yes =
            ap (unless_refused n (network_move_of cfg room n a.board x.it (code_of a.code))) (number ∙ z)
            ∙ ap (network_move_of cfg room n a.board x.it) code

        one_outcome_yes : (i : ℕ) → i < room.boards → one_outcome cfg room.m (rig_at r i) y read (lent_at cfg l i) ≡ move cfg (seen_at i) y w
        unfolding unless_no protocol.move_of
        one_outcome_yes i low =
            ap (unless_no (seen_at i) (move_of cfg (seen_at i) y (code_of a.code))) (one-number i low ∙ z) ∙ ap (move_of cfg (seen_at i) y) code

        -- the parties of a board that there is
        there_left : (b : ℕ) → within 1 room.boards b ≡ true → (view cfg room t.rig l).parties b ≡ moved.network.parties b
        unfolding oneView.view rig_of
        there_left b e =
            let i = b - 1 in
            let low : i < room.boards = omega (arith, within_low 1 room.boards b e, within_high 1 room.boards b e) in
            parties_there cfg room t.rig l b e
            ∙ ap (λ q. parties_of cfg q (lent_at cfg l i)) (left_at i low)
            ∙ same_parties cfg (turn_at i low).rig t.rig.count (lent_at cfg l i) l.messages
            ∙ ap (λ (v : BoardRig). v.parties) ((event_at i low).seen ∙ ap (λ (v : BoardTurn). v.rig) (one_outcome_yes i low))
            ∙ same_move cfg w everywhere (seen_at i) (rig_of b n) y x.it (sym (parties_there cfg room r l b e)) refl
            ∙ sym (ap (λ (v : BoardRig). v.parties) (every_move (order cfg) (encode cfg) (decode cfg) cfg room n a.board x.it b e w everywhere))

        -- and of another
        none_left : (b : ℕ) → within 1 room.boards b ≡ false → moved.network.parties b ≡ n.parties b
        unfolding network.network_move turned_on_each on_each
        none_left b e =
            every_elim (λ v. (network_move cfg room n a.board x.it v).network.parties b ≡ n.parties b) (rw e) (rw e) (rw e) w everywhere

        parties_left : (b : ℕ) → (view cfg room t.rig l).parties b ≡ moved.network.parties b
        parties_left b = go (within 1 room.boards b) refl
          where
            go : (s : Bool) → within 1 room.boards b ≡ s → (view cfg room t.rig l).parties b ≡ moved.network.parties b
            go true e = there_left b e
            go false e = parties_none cfg room t.rig l b e ∙ sym (none_left b e ∙ parties_none cfg room r l b e)

        view_left : view cfg room t.rig l ≡ moved.network
        unfolding view
        view_left = λ j. record {
          parties = fun_ext parties_left j;
          in_flight =
              (ap (λ c. messages_of cfg (records c l.messages)) post.count
              ∙ sym (every_flight (order cfg) (encode cfg) (decode cfg) cfg room n a.board x.it w everywhere)) j;
          owners =
              (ap (λ c. take c l.owners) post.count
              ∙ sym (every_owners (order cfg) (encode cfg) (decode cfg) cfg room n a.board x.it w everywhere)) j;
        }

        left_together : Together room (view cfg room t.rig l)
        left_together =
            subst (Together room) (sym view_left)
            (move_together (order cfg) (encode cfg) (decode cfg) cfg room n six.together a.board x.it w z)

        one_left : (i : ℕ) → i < room.boards → one.rig_within cfg room.m (rig_at t.rig i) ≡ true
        unfolding one.rig_within
        one_left i low =
            let q = (turn_at i low).rig in
            subst (λ (v : OneRig). one.rig_within cfg room.m v ≡ true) (sym (left_at i low))
            (ap₂ ◌&&◌ (le-leb t.rig.count room.m (omega (arith, six.few, post.count)))
            (and_right (leb q.count room.m) (one.parties_within cfg q) ((event_at i low).within (one-number i low ∙ z))))

        alike_left : (i : ℕ) → i < room.boards → up_alike cfg (rig_at t.rig i) (rig_at t.rig 0) ≡ true
        alike_left i low =
            let exists = within_true 1 room.boards (i + 1) (omega arith) (omega (arith, low)) in
            up-alike cfg (rig_at t.rig i) (rig_at t.rig 0) (lent_at cfg l i) (lent_at cfg l 0)
            (subst (λ p. SameUp p (parties_of cfg (rig_at t.rig 0) (lent_at cfg l 0))) (parties_at cfg room t.rig l i low)
            (subst (SameUp ((view cfg room t.rig l).parties (i + 1))) (parties_at cfg room t.rig l 0 six.first)
            (left_together.up (i + 1) 1 exists six.first_exists)))

        within_left : rig_within cfg room t.rig l.owners ≡ true
        unfolding rig_within board_within
        within_left =
            ap₂ ◌&&◌
            (ap₂ ◌&&◌ (below_all room.boards (board_within cfg room t.rig) (λ i low. ap₂ ◌&&◌ (one_left i low) (alike_left i low)))
            (ap (λ c. owners_within room (take c l.owners)) post.count ∙ six.owners))
            (ap (λ c. fits_room room (take c l.owners)) post.count ∙ six.roomy)

        moved_post : EventPost cfg room r x read l t read l
        moved_post =
            record {
              answer =
                  ap (λ v. answer_of v read) post.answer ∙ first_event.answer
                  ∙ ap (λ (v : BoardTurn). v.answer) (one_outcome_yes 0 six.first)
                  ∙ every_ends cfg w everywhere (seen_at 0) y
                  ∙ sym (ap (λ (v : BoardNetworkTurn). v.answer) outcome_yes
                  ∙ every_answer (order cfg) (encode cfg) (decode cfg) cfg room n a.board x.it w everywhere);
              untouched = λ _. refl;
              seen = view_left ∙ sym (ap (λ (v : BoardNetworkTurn). v.network) outcome_yes);
              records = λ _.
                  ap (λ c. records c l.messages) post.count
                  ∙ sym (ap (records_after cfg (flight r l) place (outcome cfg room r x read l).network.in_flight) code
                  ∙ every_records cfg w everywhere (flight r l) place (outcome cfg room r x read l).network.in_flight);
              within = λ _. within_left;
              lengths = refl;
              held = λ ne. absurd (ne (number ∙ z));
              buffers_stay = λ _. refl;
            }

      either_post : EventPost cfg room r x read l t read l
      either_post = elim (ℕ_discrete k 0) as (λ _. EventPost cfg room r x read l t read l) [
        | yes z ↦ moved_post z
        | no ne ↦ refused_post ne
      ]

-- Events 6, 7 and 8: the event on every board is the network's.
pub every_event : (cfg : Config) (room : Room) (r : Rig) (a : Call) (board read : List ℕ) (l : Lent) (t : Turn)
    → first_no (room_questions cfg room) ≡ 0 → all_sized cfg room board read l ≡ true → rig_within cfg room r l.owners ≡ true
    → 6 ≤ a.code → a.code ≤ 8 → AllPost cfg room r a t → EventPost cfg room r (called a board) read l t read l
every_event cfg room r a board read l t accepted long whole low high post =
    let f = every_code a.code low high in
    let both = eqb (length board) (board_length cfg) && eqb (length read) (board_length cfg) in
    let handed = and_left both (sized cfg room l) long in
    either_post cfg room r l (passed cfg room r l accepted (and_right both (sized cfg room l) long) whole) a board read
    (eqb-true (length board) (board_length cfg) (and_left (eqb (length board) (board_length cfg)) (eqb (length read) (board_length cfg)) handed))
    (eqb-true (length read) (board_length cfg) (and_right (eqb (length board) (board_length cfg)) (eqb (length read) (board_length cfg)) handed))
    f.0 f.1 f.2 t post
