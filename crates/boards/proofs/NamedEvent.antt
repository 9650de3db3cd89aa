-- The event of the board that is named, from the event of a rig of one board on its parties to the network's. Assumes nothing.
use Prim.Native.Nat.{ℕ, ◌+◌, ◌-◌, ◌*◌, ◌≤◌, ◌<◌}
use mathlib.Core.Path.{◌≡◌, refl, sym, ap, ap₂, ◌∙◌}
use mathlib.Core.Bool.{Bool, true, false, false≢true, true≢false}
use mathlib.Core.Option.{Option, none, some}
use mathlib.Core.List.{List, [], ◌∷◌, ◌++◌}
use native.Mathlib.Omega.{arith}
use native.Mathlib.Decide.{ℕ_discrete}
use borrow.Author.Tests.{eq-eqb, lt-leb, ltb-true, ne_eqb}
use lib.Dec.{leb}
use lib.ListN.{length, take, length-append}
use Rattle.laws.specs.Owners.{place_of}
use Rattle.config.specs.declared.Config.{Config}
use Rattle.config.specs.declared.Room.{Room}
use Rattle.config.specs.Config.{record_length}
use Rattle.config.specs.Questions.{ask, first_no, numbered}
use Rattle.config.specs.Room.{fits_room, kept_free, room_within}
use Rattle.config.proofs.Questions.{none_first, none_rest, yes_next}
use Rattle.config.proofs.Rooms.{room_is, room_most, room_valid}
use Rattle.flight.specs.Flight.{records}
use Rattle.protocol.specs.Boards.{Board, BoardCall, BoardNetwork, BoardParties, BoardRig, BoardTurn, fits_in, move, network_after6, network_move, questions_after6}
use Rattle.protocol.specs.Client.{begin_client, send_each}
use Rattle.protocol.specs.Network.{among_all, asked_board, names_board, network_from7, network_to11, placed, rig_of}
use Rattle.protocol.specs.Parties.{begin, client_acts, questions_to_begin}
use Rattle.protocol.specs.Rig as protocol
use Rattle.protocol.specs.Rig.{Code, begin_write, begin_read, handOver, lose, double, crash_server, crash_client, restart_server, code_of, leaves, position_questions, questions_to11, write_fits}
use Rattle.protocol.proofs.Basics.{length_to_each}
use Rattle.protocol.proofs.Room.{numbered_to_11}
use Rattle.events.specs.declared.Rig as one
use Rattle.events.specs.Calls as oneCalls
use Rattle.events.specs.Questions as oneQuestions
use Rattle.events.specs.View as oneView
use Rattle.events.proofs.Numbers as oneNumbers
use Rattle.boards.specs.declared.Call.{Call}
use Rattle.boards.specs.declared.Rig.{Rig}
use Rattle.boards.specs.Calls.{called, event_no}
use Rattle.boards.specs.Questions.{formed_at}
use Rattle.boards.specs.View.{Lent, flight, owners_of, rig_at, view}
use Rattle.boards.specs.inner.Named.{NamedPre, at_least_one, bare, cut_to, taken}
use Rattle.boards.proofs.Coded.{Coded, begins, coded}
use Rattle.boards.proofs.OnBoard as on
use Rattle.boards.proofs.OneOf.{counting}
use Rattle.boards.proofs.Whole.{many}

-- a begin sends N messages
many_sends : (cfg : Config) (p : BoardParties) (c : ℕ) (board : Option Board) → length (begin cfg p c board).sends ≡ cfg.n
unfolding begin client_acts begin_client send_each
many_sends cfg p c board = length_to_each cfg.n _

begin_adds : (cfg : Config) (v : BoardRig) (c : BoardCall) (w : Code) → begins w ≡ true → length (move cfg v c w).rig.in_flight ≡ length v.in_flight + cfg.n
unfolding protocol.move leaves
begin_adds cfg v c begin_write h = length-append v.in_flight _ ∙ ap (λ k. length v.in_flight + k) (many_sends cfg v.parties c.party (some c.board))
begin_adds cfg v c begin_read h = length-append v.in_flight _ ∙ ap (λ k. length v.in_flight + k) (many_sends cfg v.parties c.party none)
begin_adds cfg v c handOver h = absurd (false≢true h)
begin_adds cfg v c lose h = absurd (false≢true h)
begin_adds cfg v c double h = absurd (false≢true h)
begin_adds cfg v c crash_server h = absurd (false≢true h)
begin_adds cfg v c crash_client h = absurd (false≢true h)
begin_adds cfg v c restart_server h = absurd (false≢true h)

-- what a begin is asked hangs on the parties alone
begin_asks : (cfg : Config) (v z : BoardRig) (c d : BoardCall) (w : Code) → begins w ≡ true → v.parties ≡ z.parties → c.party ≡ d.party
    → questions_to11 cfg v c w ≡ questions_to11 cfg z d w
unfolding questions_to11
begin_asks cfg v z c d begin_write h p e = ap₂ (questions_to_begin cfg) p e
begin_asks cfg v z c d begin_read h p e = ap₂ (questions_to_begin cfg) p e
begin_asks cfg v z c d handOver h p e = absurd (false≢true h)
begin_asks cfg v z c d lose h p e = absurd (false≢true h)
begin_asks cfg v z c d double h p e = absurd (false≢true h)
begin_asks cfg v z c d crash_server h p e = absurd (false≢true h)
begin_asks cfg v z c d crash_client h p e = absurd (false≢true h)
begin_asks cfg v z c d restart_server h p e = absurd (false≢true h)

-- and of the record handed over nothing is
begin_formed : (cfg : Config) (rs : List (List ℕ)) (p : ℕ) (w : Code) → begins w ≡ true → oneQuestions.formed_for cfg rs p (some w) ≡ true
unfolding oneQuestions.formed_for
begin_formed cfg rs p begin_write h = refl
begin_formed cfg rs p begin_read h = refl
begin_formed cfg rs p handOver h = absurd (false≢true h)
begin_formed cfg rs p lose h = absurd (false≢true h)
begin_formed cfg rs p double h = absurd (false≢true h)
begin_formed cfg rs p crash_server h = absurd (false≢true h)
begin_formed cfg rs p crash_client h = absurd (false≢true h)
begin_formed cfg rs p restart_server h = absurd (false≢true h)

-- 19 is asked of the board that a call brings
fits_board : (fits : Board → Bool) (c d : BoardCall) (o : Option Code) → c.board ≡ d.board → write_fits fits c o ≡ write_fits fits d o
unfolding write_fits
fits_board fits c d none e = refl
fits_board fits c d (some begin_write) e = ap fits e
fits_board fits c d (some begin_read) e = refl
fits_board fits c d (some handOver) e = refl
fits_board fits c d (some lose) e = refl
fits_board fits c d (some double) e = refl
fits_board fits c d (some crash_server) e = refl
fits_board fits c d (some crash_client) e = refl
fits_board fits c d (some restart_server) e = refl

-- of an event that names a board and does not begin, the position is asked
pub position_low : (cfg : Config) (v : BoardRig) (c : BoardCall) (w : Code) → names_board (some w) ≡ true → begins w ≡ false → first_no (questions_to11 cfg v c w) ≡ 0
    → c.position < length v.in_flight
unfolding questions_to11 position_questions names_board
position_low cfg v c begin_write h f e = absurd (true≢false f)
position_low cfg v c begin_read h f e = absurd (true≢false f)
position_low cfg v c handOver h f e = ltb-true c.position (length v.in_flight) (yes_next 8 _ [] (omega arith) e).0
position_low cfg v c lose h f e = ltb-true c.position (length v.in_flight) (yes_next 8 _ [] (omega arith) e).0
position_low cfg v c double h f e = ltb-true c.position (length v.in_flight) (yes_next 8 _ [] (omega arith) e).0
position_low cfg v c crash_server h f e = absurd (false≢true h)
position_low cfg v c crash_client h f e = absurd (false≢true h)
position_low cfg v c restart_server h f e = absurd (false≢true h)

numbered_11 : (cfg : Config) (n : BoardNetwork) (b : ℕ) (a : BoardCall) (w : Code) → numbered (network_to11 cfg n b a w) ≡ true
unfolding network_to11
numbered_11 cfg n b a w = numbered_to_11 cfg (rig_of (asked_board b w) n) a w

-- where nothing is refused, 8 to 11 and 13 are answered yes
pub passed_all : (cfg : Config) (room : Room) (n : BoardNetwork) (b : ℕ) (a : BoardCall) (formed : Bool) (w : Code)
    → first_no (network_after6 cfg room n b a formed (some w)) ≡ 0
    → (first_no (network_to11 cfg n b a w) ≡ 0) × (fits_room room (network_move cfg room n b a w).network.owners ≡ true)
unfolding network_from7
passed_all cfg room n b a formed w h =
    let fits = write_fits (fits_in cfg) a (some w) in
    let roomy = fits_room room (network_move cfg room n b a w).network.owners in
    let last = ask 13 roomy ∷ [] in
    let ends = ask 12 formed ∷ last in
    let asks = network_to11 cfg n b a w in
    let after19 = (yes_next 19 fits (ask 7 true ∷ asks ++ ends) (omega arith) h).1 in
    let after7 = (yes_next 7 true (asks ++ ends) (omega arith) after19).1 in
    let after11 = none_rest asks ends (numbered_11 cfg n b a w) after7 in
    let after12 = (yes_next 12 formed last (omega arith) after11).1 in
    (none_first asks ends after7, (yes_next 13 roomy [] (omega arith) after12).0)

module _ (cfg : Config) (room : Room) (r : Rig) (a : Call) (board read : List ℕ) (l : Lent) (pre : NamedPre cfg room r a board read l) where
  abbrev pub b : ℕ
  b = a.board

  abbrev pub i : ℕ
  i = b - 1

  abbrev pub n : BoardNetwork
  n = view cfg room r l

  abbrev pub call : BoardCall
  call = (called a board).it

  abbrev pub limit : ℕ
  limit = room.m - kept_free room b (owners_of r l)

  abbrev pub most : ℕ
  most = at_least_one limit

  abbrev pub count : ℕ
  count = taken limit a.code r.count

  abbrev pub x : one.Rig
  x = counting (rig_at r i) count

  abbrev pub handed : oneView.Lent
  handed = cut_to cfg most i (bare l)

  abbrev pub number : ℕ
  number = event_no cfg room r (called a board) read l

  abbrev pub k : Coded a.code
  k = coded a.code pre.code

  abbrev pub w : Code
  w = k.w

  abbrev pub place : ℕ
  place = place_of b a.position (owners_of r l)

  abbrev pub T : BoardTurn
  T = move cfg (among_all b n) (placed b n call) w

  abbrev pub one_number : ℕ
  one_number = oneCalls.event_no cfg most x (oneCalls.called (on.its cfg room r a board read l pre) board) read handed

  abbrev is_room : room_within room ≡ true
  is_room = room_is cfg room pre.accepted

  pub same : length n.owners ≡ length n.in_flight
  same = on.beside cfg room r a board read l pre

  -- how many may be in flight, and are
  abbrev pub Bounds : Type 0
  Bounds = (most ≤ room.m) × (1 ≤ most) × (count ≤ most)

  pub bounds : Bounds
  bounds = elim (ℕ_discrete limit 0) as (λ _. Bounds) [
    | yes z ↦ full z (leb a.code 2) refl
    | no ne ↦ rw (ne_eqb limit 0 ne) (omega arith, omega (arith, ne), on.within_limit cfg room r a board read l pre)
  ]
    where
      full : limit ≡ 0 → (f : Bool) → leb a.code 2 ≡ f → Bounds
      full z true e = rw (eq-eqb limit 0 z, e) ((room_most cfg room pre.accepted).0, omega arith, omega arith)
      full z false e =
          rw (eq-eqb limit 0 z, e)
          ((room_most cfg room pre.accepted).0, omega arith, omega (arith, z, on.within_limit cfg room r a board read l pre))

  abbrev pub few : most ≤ room.m
  few = bounds.0

  -- ---- the two numbers are one

  pub placed_is : oneCalls.called (on.its cfg room r a board read l pre) board ≡ placed b n call
  unfolding placed view
  placed_is = refl

  abbrev pub after : BoardNetwork
  after = (network_move cfg room n b call w).network

  pub room_is_limit : fits_room room after.owners ≡ leb (length T.rig.in_flight) limit
  unfolding view
  room_is_limit =
      on.thirteen cfg room n same b call w k.named is_room pre.exists
      (on.known cfg room r a board read l pre).owners
      (on.known cfg room r a board read l pre).roomy

  -- the one-board number, by what is seen of the board
  one_asks : (v : BoardRig) (formed : Bool) → oneView.view cfg x handed ≡ v → oneQuestions.formed_for cfg (oneView.flight x handed) place (code_of a.code) ≡ formed
      → one_number ≡ first_no (questions_after6 cfg most v (placed b n call) formed (some w))
  one_asks v formed seen form =
      on.one-number cfg room r a board read l pre most few count bounds.2 bounds.1
      ∙ ap₂ (λ (z : BoardRig) (f : Bool). first_no (questions_after6 cfg most z (oneCalls.called (on.its cfg room r a board read l pre) board) f (code_of a.code))) seen form
      ∙ ap₂ (λ (c : BoardCall) (o : Option Code). first_no (questions_after6 cfg most v c formed o)) placed_is k.is

  pub network_asks : number ≡ first_no (network_after6 cfg room n b call (formed_at cfg r (called a board) l) (some w))
  network_asks =
      on.network_number cfg room r a board read l pre w k.is k.named
      ∙ ap (λ (o : Option Code). first_no (network_after6 cfg room n b call (formed_at cfg r (called a board) l) o)) k.is

  fits_placed : write_fits (fits_in cfg) (placed b n call) (some w) ≡ write_fits (fits_in cfg) call (some w)
  unfolding placed
  fits_placed = fits_board (fits_in cfg) (placed b n call) call (some w) refl

  -- there is room for some, or the event does not begin
  module _ (normal : (limit ≡ 0 → begins w ≡ false)) where
    count_is : count ≡ r.count
    count_is = elim (ℕ_discrete limit 0) as (λ _. count ≡ r.count) [
      | yes z ↦ rw (eq-eqb limit 0 z, k.begin ∙ normal z)
      | no ne ↦ rw (ne_eqb limit 0 ne)
    ]

    abbrev fits_count : r.count ≤ most
    fits_count = omega (arith, count_is, bounds.2)

    seen_there : oneView.view cfg x handed ≡ among_all b n
    seen_there = ap (λ c. oneView.view cfg (counting (rig_at r i) c) handed) count_is ∙ on.seen cfg room r a board read l pre most few fits_count

    flight_there : oneView.flight x handed ≡ flight r l
    flight_there =
        ap (λ c. records c (take (record_length * most) l.messages)) count_is ∙ on.flight_seen cfg room r a board read l pre most r.count fits_count few

    form_there : oneQuestions.formed_for cfg (oneView.flight x handed) place (code_of a.code) ≡ formed_at cfg r (called a board) l
    form_there = ap (λ rs. oneQuestions.formed_for cfg rs place (code_of a.code)) flight_there

    room_there : first_no (network_to11 cfg n b call w) ≡ 0 → protocol.has_room most T ≡ fits_room room after.owners
    unfolding protocol.has_room among_all
    room_there asked = elim (ℕ_discrete limit 0) as (λ _. leb (length T.rig.in_flight) most ≡ fits_room room after.owners) [
      | no ne ↦ rw (ne_eqb limit 0 ne) (sym room_is_limit)
      | yes z ↦
          let there = position_low cfg (among_all b n) (placed b n call) w k.named (normal z)
          (ap first_no (on.to_11_same cfg room n same b call w k.named) ∙ asked) in
          absurd (omega (arith, there, many_among, on.within_limit cfg room r a board read l pre, z))
    ]
      where
        many_among : length (among_all b n).in_flight ≡ r.count
        many_among = many cfg room r l

    pub number_same : one_number ≡ number
    number_same =
        one_asks (among_all b n) (formed_at cfg r (called a board) l) seen_there form_there
        ∙ on.same_questions cfg room n same b call w k.named (among_all b n) (placed b n call) most (formed_at cfg r (called a board) l) fits_same
        (on.to_11_same cfg room n same b call w k.named) room_there
        ∙ sym network_asks
      where
        fits_same : write_fits (fits_in cfg) (placed b n call) (some w) ≡ write_fits (fits_in cfg) call (some w)
        fits_same = fits_placed

  -- or there is room for none, and it begins: it is refused
  module _ (z : limit ≡ 0) (f : begins w ≡ true) where
    abbrev v : BoardRig
    v = oneView.view cfg x handed

    one_taken : count ≡ 1
    one_taken = rw (eq-eqb limit 0 z, k.begin ∙ f)

    one_left : most ≡ 1
    one_left = rw (eq-eqb limit 0 z)

    some_server : 1 ≤ cfg.n
    some_server = (room_valid cfg room pre.accepted).n_low

    parties_same : v.parties ≡ (among_all b n).parties
    unfolding oneView.view among_all
    parties_same = on.parties_seen cfg room r a board read l pre count (take (record_length * most) l.messages)

    no_room : protocol.has_room most (move cfg v (placed b n call) w) ≡ false
    unfolding protocol.has_room
    no_room =
        lt-leb (length (move cfg v (placed b n call) w).rig.in_flight) most
        (omega (arith, begin_adds cfg v (placed b n call) w f, oneNumbers.many cfg x handed, one_taken, one_left, some_server))

    no_room_for_all : fits_room room after.owners ≡ false
    no_room_for_all =
        room_is_limit
        ∙ lt-leb (length T.rig.in_flight) limit (omega (arith, begin_adds cfg (among_all b n) (placed b n call) w f, z, some_server))

    formed_there : (rs : List (List ℕ)) → oneQuestions.formed_for cfg rs place (code_of a.code) ≡ true
    formed_there rs = ap (oneQuestions.formed_for cfg rs place) k.is ∙ begin_formed cfg rs place w f

    pub full_number : one_number ≡ number
    full_number =
        one_asks v true refl (formed_there (oneView.flight x handed))
        ∙ on.same_questions cfg room n same b call w k.named v (placed b n call) most true fits_placed
        (begin_asks cfg v (among_all b n) (placed b n call) (placed b n call) w f parties_same refl ∙ on.to_11_same cfg room n same b call w k.named)
        (λ _. no_room ∙ sym no_room_for_all)
        ∙ ap (λ g. first_no (network_after6 cfg room n b call g (some w))) (sym (formed_there (flight r l)))
        ∙ sym network_asks

    pub full-no : number ≡ 0 → ⊥
    full-no e = true≢false (sym (passed_all cfg room n b call (formed_at cfg r (called a board) l) w (sym network_asks ∙ e)).1 ∙ no_room_for_all)

  -- ---- what the event leaves

  -- in each case the numbers are one; and where it is not refused, the event is seen as it is
  pub record Told : Type 0 where
    pub number_is : one_number ≡ number
    pub count_is_so : number ≡ 0 → count ≡ r.count
    pub seen : number ≡ 0 → oneView.view cfg x handed ≡ among_all b n
    pub flight_is : number ≡ 0 → oneView.flight x handed ≡ flight r l

  pub told : Told
  told = elim (ℕ_discrete limit 0) as (λ _. Told) [
    | no ne ↦ usual (λ z. absurd (ne z))
    | yes z ↦ go z (begins w) refl
  ]
    where
      usual : (limit ≡ 0 → begins w ≡ false) → Told
      usual normal =
          record {
            number_is = number_same normal;
            count_is_so = λ _. count_is normal;
            seen = λ _. seen_there normal;
            flight_is = λ _. flight_there normal;
          }

      go : limit ≡ 0 → (f : Bool) → begins w ≡ f → Told
      go z false e = usual (λ _. e)
      go z true e =
          record {
            number_is = full_number z e;
            count_is_so = λ h. absurd (full-no z e h);
            seen = λ h. absurd (full-no z e h);
            flight_is = λ h. absurd (full-no z e h);
          }
