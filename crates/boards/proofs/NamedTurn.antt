-- What the event of the board that is named leaves is what the network's event leaves. Assumes nothing.
use Prim.Native.Nat.{ℕ, ◌+◌, ◌-◌, ◌*◌, ◌≤◌, ◌<◌}
use mathlib.Core.Path.{◌≡◌, refl, sym, ap, ap₂, subst, fun_ext, ◌∙◌}
use mathlib.Core.Bool.{Bool, true, false, cond, ◌&&◌, false≢true, true≢false}
use mathlib.Core.List.{List, ◌++◌}
use native.Mathlib.Omega.{arith}
use native.Mathlib.Decide.{ℕ_discrete}
use borrow.Author.Tests.{eq-eqb, le-leb, leb-true, ne_eqb}
use lib.Dec.{leb}
use lib.ListN.{length, take, drop, get_elem?, length-append, replicate, length-replicate}
use Rattle.laws.specs.Lists.{without}
use Rattle.laws.specs.Owners.{place_of}
use Rattle.laws.proofs.Below.{below_all}
use Rattle.laws.proofs.Bools.{and_left, and_right}
use Rattle.laws.proofs.Lists.{length_without}
use Rattle.laws.proofs.Parts.{over_length, over_same, part_fits, part_other, part_own}
use Rattle.config.specs.declared.Config.{Config}
use Rattle.config.specs.declared.Room.{Room}
use Rattle.config.specs.Config.{board_length, elements_length, record_length, store_length}
use Rattle.config.specs.Questions.{first_no, within}
use Rattle.config.specs.Room.{fits_room, owners_within}
use Rattle.config.proofs.Questions.{within_low, within_true}
use Rattle.record.proofs.Records.{records_front}
use Rattle.flight.specs.Flight.{records}
use Rattle.protocol.specs.Board.{is_accepted, refused}
use Rattle.protocol.specs.Boards.{BoardNetwork, BoardNetworkTurn, BoardTurn, decode, encode, move_of, network_move, network_move_of, order}
use Rattle.protocol.specs.Network as network
use Rattle.protocol.specs.Network.{among_all, board_move, names_board, network_to11, owners_after, owners_kept, placed, turned_on, unless_refused}
use Rattle.protocol.specs.Number.{upd}
use Rattle.protocol.specs.Rig as protocol
use Rattle.protocol.specs.Rig.{Code, begin_write, begin_read, handOver, lose, double, crash_server, crash_client, restart_server, code_of, unless_no}
use Rattle.protocol.proofs.Basics.{upd_other, upd_same}
use Rattle.protocol.proofs.NetworkMoves.{named_move, owners_stay_within}
use Rattle.protocol.proofs.Together.{SameUp, Together, move_together}
use Rattle.parties.specs.Acts.{answer_of, is_read, is_refusal}
use Rattle.parties.proofs.Refusing.{refusal_is, refusal_told}
use Rattle.events.specs.declared.Turn.{Turn as OneTurn}
use Rattle.events.specs.Calls as oneCalls
use Rattle.events.specs.Calls.{records_after}
use Rattle.events.specs.Questions as oneQuestions
use Rattle.events.specs.View as oneView
use Rattle.events.specs.View.{messages_of, parties_of}
use Rattle.events.proofs.Lengths.{boards_are, elements_are, messages_are, stores_are}
use Rattle.events.proofs.Numbers as oneNumbers
use Rattle.boards.specs.declared.Call.{Call}
use Rattle.boards.specs.declared.Rig.{Rig}
use Rattle.boards.specs.declared.Turn.{Turn}
use Rattle.boards.specs.Calls.{EventPost, called, event_no, outcome}
use Rattle.boards.specs.Questions.{board_within, due, formed_at, rig_within, same_sizes, sized, sizes, up_alike}
use Rattle.boards.specs.View.{Lent, flight, lent, lent_at, owners_of, rig_at, view}
use Rattle.boards.specs.inner.Named.{LentPost, NamedPre, SettlePost, SettlePre, bare, left, put_back, stay}
use Rattle.boards.specs.inner.Outcome.{put_at}
use Rattle.boards.proofs.Coded.{begins, move_accepted, takes_away}
use Rattle.boards.proofs.EachSize.{SameSizes}
use Rattle.boards.proofs.NamedEvent as ev
use Rattle.boards.proofs.OnBoard as on
use Rattle.boards.proofs.OneOf.{any_count, counting, put_other, put_there, same_parties, same_within}
use Rattle.boards.proofs.Refusing.{refused_event}
use Rattle.boards.proofs.UpAlike.{up-alike}
use Rattle.boards.proofs.Whole.{count_is, many, parties_at, parties_none, parties_there}

-- what takes a message away does not begin
away_later : (w : Code) → takes_away w ≡ true → begins w ≡ false
away_later begin_write h = absurd (false≢true h)
away_later begin_read h = absurd (false≢true h)
away_later handOver h = refl
away_later lose h = refl
away_later double h = refl
away_later crash_server h = refl
away_later crash_client h = refl
away_later restart_server h = refl

-- the boards of the messages that stay
kept_is : (w : Code) (p : ℕ) (os : List ℕ) → cond (takes_away w) (without p os) os ≡ owners_kept p os w
unfolding owners_kept
kept_is begin_write p os = refl
kept_is begin_read p os = refl
kept_is handOver p os = refl
kept_is lose p os = refl
kept_is double p os = refl
kept_is crash_server p os = refl
kept_is crash_client p os = refl
kept_is restart_server p os = refl

-- are so many
kept_long : (w : Code) (p : ℕ) (os : List ℕ) → (takes_away w ≡ true → p < length os) → length (owners_kept p os w) ≡ cond (takes_away w) (length os - 1) (length os)
unfolding owners_kept
kept_long begin_write p os h = refl
kept_long begin_read p os h = refl
kept_long handOver p os h = length_without p os (h refl)
kept_long lose p os h = length_without p os (h refl)
kept_long double p os h = refl
kept_long crash_server p os h = refl
kept_long crash_client p os h = refl
kept_long restart_server p os h = refl

module _ (cfg : Config) (room : Room) (r : Rig) (a : Call) (board read : List ℕ) (l : Lent) (pre : NamedPre cfg room r a board read l)
    {t : OneTurn} {read' : List ℕ} {l₁ : oneView.Lent} (post : LentPost cfg (ev.most cfg room r a board read l pre) (a.board - 1) (ev.x cfg room r a board read l pre) (on.its cfg room r a board read l pre) board read (bare l) t read' l₁)
  where
    abbrev b : ℕ
    b = a.board

    abbrev i : ℕ
    i = b - 1

    abbrev n : BoardNetwork
    n = view cfg room r l

    abbrev os : List ℕ
    os = owners_of r l

    abbrev most : ℕ
    most = ev.most cfg room r a board read l pre

    abbrev place : ℕ
    place = place_of b a.position os

    abbrev w : Code
    w = ev.w cfg room r a board read l pre

    abbrev T : BoardTurn
    T = ev.T cfg room r a board read l pre

    abbrev number : ℕ
    number = event_no cfg room r (called a board) read l

    abbrev told : ev.Told cfg room r a board read l pre
    told = ev.told cfg room r a board read l pre

    abbrev y : oneView.Lent
    y = post.after

    abbrev after : BoardNetwork
    after = (network_move cfg room n b (called a board).it w).network

    abbrev its_outcome : BoardTurn
    its_outcome =
        oneCalls.outcome cfg most (ev.x cfg room r a board read l pre) (oneCalls.called (on.its cfg room r a board read l pre) board) read
        (ev.handed cfg room r a board read l pre)

    -- refused, or the move
    refused_there : (number ≡ 0 → ⊥) → answer_of t.answer read' ≡ refused number
    unfolding unless_no
    refused_there ne =
        let no_one : ev.one_number cfg room r a board read l pre ≡ 0 → ⊥ = λ e. ne (sym told.number_is ∙ e) in
        post.event.answer ∙ rw (ne_eqb (ev.one_number cfg room r a board read l pre) 0 no_one) (ap refused told.number_is)

    moved_there : number ≡ 0 → its_outcome ≡ T
    unfolding unless_no protocol.move_of
    moved_there e =
        let none-one : ev.one_number cfg room r a board read l pre ≡ 0 = told.number_is ∙ e in
        rw (eq-eqb (ev.one_number cfg room r a board read l pre) 0 none-one)
        (ap₂ (λ v c. move_of cfg v c (code_of a.code)) (told.seen e) (ev.placed_is cfg room r a board read l pre)
        ∙ ap (move_of cfg (among_all b n) (placed b n (called a board).it)) (ev.k cfg room r a board read l pre).is)

    -- an answer that is no refusal
    pub is-accepted : is_refusal t.answer ≡ false → number ≡ 0
    is-accepted f = elim (ℕ_discrete number 0) as (λ _. number ≡ 0) [
      | yes e ↦ e
      | no ne ↦ absurd (true≢false (sym (refusal_is t.answer read' number (refused_there ne)).0 ∙ f))
    ]

    no_refusal : number ≡ 0 → is_refusal t.answer ≡ false
    no_refusal e =
        refusal_told t.answer read'
        (ap is_accepted (post.event.answer ∙ ap (λ (z : BoardTurn). z.answer) (moved_there e))
        ∙ move_accepted cfg (among_all b n) (placed b n (called a board).it) w)

    -- ---- an event that is not refused

    module _ (e : number ≡ 0) where
      passed_there : (first_no (network_to11 cfg n b (called a board).it w) ≡ 0) × (fits_room room after.owners ≡ true)
      passed_there =
          ev.passed_all cfg room n b (called a board).it (formed_at cfg r (called a board) l) w (sym (ev.network_asks cfg room r a board read l pre) ∙ e)

      rig_seen : oneView.view cfg t.rig y ≡ T.rig
      rig_seen = post.event.seen ∙ ap (λ (z : BoardTurn). z.rig) (moved_there e)

      pub count_seen : t.rig.count ≡ length T.rig.in_flight
      count_seen = sym (oneNumbers.many cfg t.rig y) ∙ ap (λ v. length v.in_flight) rig_seen

      pub position_there : takes_away w ≡ true → place < r.count
      unfolding placed view among_all
      position_there away =
          let there = ev.position_low cfg (among_all b n) (placed b n (called a board).it) w (ev.k cfg room r a board read l pre).named (away_later w away)
          (ap first_no (on.to_11_same cfg room n (ev.same cfg room r a board read l pre) b (called a board).it w (ev.k cfg room r a board read l pre).named) ∙ passed_there.0) in
          omega (arith, there, many cfg room r l)

      left_is : left a.code r.count ≡ length (owners_kept place os w)
      left_is =
          ap (λ z. cond z (r.count - 1) r.count) (ev.k cfg room r a board read l pre).away
          ∙ ap (λ c. cond (takes_away w) (c - 1) c) (sym (on.owners_are cfg room r a board read l pre))
          ∙ sym (kept_long w place os (λ away. omega (arith, position_there away, on.owners_are cfg room r a board read l pre)))

      stay_is : stay a.code place os ≡ owners_kept place os w
      stay_is = ap (λ z. cond z (without place os) os) (ev.k cfg room r a board read l pre).away ∙ kept_is w place os

      owners-after : after.owners ≡ owners_after b place os (length T.rig.in_flight) w
      unfolding board_move turned_on view
      owners-after = ap (λ z. z.network.owners) (named_move (order cfg) (encode cfg) (decode cfg) cfg room n b (called a board).it w (ev.k cfg room r a board read l pre).named)

      pub enough_left : left a.code r.count ≤ t.rig.count
      unfolding owners_after
      enough_left =
          let kept = owners_kept place os w in
          let all = length T.rig.in_flight in
          let long = on.owners_long cfg room n (ev.same cfg room r a board read l pre) b (called a board).it w (ev.k cfg room r a board read l pre).named in
          omega (
            arith,
            left_is,
            count_seen,
            long,
            ap length owners-after,
            length-append kept (replicate (all - length kept) b),
            length-replicate (all - length kept) b,
          )

      within_there : oneQuestions.rig_within cfg most t.rig ≡ true
      within_there = post.event.within (told.number_is ∙ e)

      pub count_most : t.rig.count ≤ room.m
      unfolding oneQuestions.rig_within
      count_most =
          omega (
            arith,
            leb-true t.rig.count most (and_left (leb t.rig.count most) (oneQuestions.parties_within cfg t.rig) within_there),
            ev.few cfg room r a board read l pre,
          )

    abbrev long : SameSizes (sizes l) (due cfg room)
    long = on.long cfg room r a board read l pre

    pub settle_pre : SettlePre r.count place a t l.owners
    settle_pre =
        record {
          few = omega (arith, (on.known cfg room r a board read l pre).few, long.owners);
          there = λ f away. position_there (is-accepted f) (sym (ev.k cfg room r a board read l pre).away ∙ away);
          more = λ f. enough_left (is-accepted f);
          room = λ f. omega (arith, count_most (is-accepted f), long.owners);
        }

    -- ---- the buffers that are left

    abbrev ws : ℕ
    ws = cfg.n * store_length cfg

    abbrev wb : ℕ
    wb = cfg.c * board_length cfg

    abbrev we : ℕ
    we = cfg.c * elements_length cfg

    abbrev end : ℕ
    end = record_length * most

    left_sized : oneQuestions.sized cfg most y ≡ true
    left_sized = post.event.lengths ∙ on.sized_there cfg room r a board read l pre most (ev.few cfg room r a board read l pre)

    messages_left : length y.messages ≡ end
    messages_left = messages_are cfg most (length y.messages) (length y.stores) (length y.boards) (length y.elements) left_sized

    stores_left : length y.stores ≡ ws
    stores_left = stores_are cfg most (length y.messages) (length y.stores) (length y.boards) (length y.elements) left_sized

    boards_left : length y.boards ≡ wb
    boards_left = boards_are cfg most (length y.messages) (length y.stores) (length y.boards) (length y.elements) left_sized

    elements_left : length y.elements ≡ we
    elements_left = elements_are cfg most (length y.messages) (length y.stores) (length y.boards) (length y.elements) left_sized

    abbrev there : i < room.boards
    there = on.place_in cfg room r a board read l pre

    stores_fit : i * ws + ws ≤ length l.stores
    stores_fit = omega (arith, part_fits i room.boards ws there, long.stores)

    boards_fit : i * wb + wb ≤ length l.boards
    boards_fit = omega (arith, part_fits i room.boards wb there, long.boards)

    elements_fit : i * we + we ≤ length l.elements
    elements_fit = omega (arith, part_fits i room.boards we there, long.elements)

    messages_fit : 0 + end ≤ length l.messages
    messages_fit = omega (arith, ev.few cfg room r a board read l pre, long.messages)

    -- as they were, where nothing was changed
    put_same : y ≡ ev.handed cfg room r a board read l pre → put_back cfg most i y (bare l) ≡ bare l
    put_same h =
        ap (λ z. put_back cfg most i z (bare l)) h
        ∙ (λ j. oneView.lent (over_same 0 end l.messages j) (over_same (i * ws) ws l.stores j) (over_same (i * wb) wb l.boards j) (over_same (i * we) we l.elements j))

    abbrev back : oneView.Lent
    back = put_back cfg most i y (bare l)

    -- ---- the event

    module _ {u : Turn} {owners' : List ℕ} (settled : SettlePost r i a place t l.owners u owners') (eight : length r.boards ≡ 8) (few_boards : room.boards ≤ 8) where
      abbrev l' : Lent
      l' = lent back.messages owners' back.stores back.boards back.elements

      refused_left : (number ≡ 0 → ⊥) → EventPost cfg room r (called a board) read l u read' l'
      refused_left ne =
          let says = refused_there ne in
          let is = refusal_is t.answer read' number says in
          let held = post.event.held (λ z. ne (sym told.number_is ∙ z)) in
          let same = settled.held is.0 in
          refused_event cfg room r (called a board) read l ne
          (ap (λ z. answer_of z read') settled.answer ∙ says) same.0 (post.event.untouched is.1)
          (ap₂ (λ (z : oneView.Lent) (o : List ℕ). lent z.messages o z.stores z.boards z.elements) (put_same held.1) same.1)

      module _ (e : number ≡ 0) where
        abbrev k : ℕ
        k = t.rig.count

        rig_left : u.rig ≡ put_at r i t.rig k
        rig_left = settled.rig (no_refusal e)

        low : i < length r.boards
        low = omega (arith, there, eight, few_boards)

        -- the board's own place, and another
        own_rig : rig_at u.rig i ≡ counting t.rig k
        own_rig = ap (λ z. rig_at z i) rig_left ∙ put_there r i t.rig k low

        other_rig : (j : ℕ) → (j ≡ i → ⊥) → rig_at u.rig j ≡ counting (rig_at r j) k
        other_rig j ne = ap (λ z. rig_at z j) rig_left ∙ put_other r i t.rig k j ne ∙ any_count (get_elem? r.boards j) k r.count

        own_parties : parties_of cfg (rig_at u.rig i) (lent_at cfg l' i) ≡ T.rig.parties
        unfolding oneView.view
        own_parties =
            (λ j. parties_of cfg (own_rig j) (oneView.lent back.messages
            (part_own ws i y.stores l.stores stores_left stores_fit j)
            (part_own wb i y.boards l.boards boards_left boards_fit j)
            (part_own we i y.elements l.elements elements_left elements_fit j)))
            ∙ same_parties cfg t.rig k y back.messages
            ∙ ap (λ v. v.parties) (rig_seen e)

        other_parties : (j : ℕ) → (j ≡ i → ⊥) → parties_of cfg (rig_at u.rig j) (lent_at cfg l' j) ≡ parties_of cfg (rig_at r j) (lent_at cfg l j)
        other_parties j ne =
            (λ d. parties_of cfg (other_rig j ne d) (oneView.lent back.messages
            (part_other ws i y.stores l.stores stores_left stores_fit j ne d)
            (part_other wb i y.boards l.boards boards_left boards_fit j ne d)
            (part_other we i y.elements l.elements elements_left elements_fit j ne d)))
            ∙ same_parties cfg (rig_at r j) k (lent_at cfg l j) back.messages

        parties_left : (c : ℕ) → (view cfg room u.rig l').parties c ≡ upd n.parties b T.rig.parties c
        parties_left c = elim (ℕ_discrete c b) as (λ _. (view cfg room u.rig l').parties c ≡ upd n.parties b T.rig.parties c) [
          | yes h ↦
              subst (λ z. (view cfg room u.rig l').parties z ≡ upd n.parties b T.rig.parties z) (sym h)
              (parties_there cfg room u.rig l' b pre.exists ∙ own_parties ∙ sym (upd_same n.parties b T.rig.parties))
          | no ne ↦ another (within 1 room.boards c) refl ne ∙ sym (upd_other n.parties b T.rig.parties c ne)
        ]
          where
            another : (f : Bool) → within 1 room.boards c ≡ f → (c ≡ b → ⊥) → (view cfg room u.rig l').parties c ≡ n.parties c
            another true h ne =
                parties_there cfg room u.rig l' c h
                ∙ other_parties (c - 1)
                (λ z. ne (omega (arith, z, within_low 1 room.boards c h, within_low 1 room.boards b pre.exists)))
                ∙ sym (parties_there cfg room r l c h)
            another false h ne = parties_none cfg room u.rig l' c h ∙ sym (parties_none cfg room r l c h)

        -- the records in flight
        records_left : flight u.rig l' ≡ oneView.flight t.rig y
        unfolding oneQuestions.rig_within
        records_left =
            let most-there = leb-true k most (and_left (leb k most) (oneQuestions.parties_within cfg t.rig) (within_there e)) in
            ap (λ (z : Rig). records z.count back.messages) rig_left
            ∙ records_front k y.messages (drop (0 + end) l.messages) (omega (arith, messages_left, most-there))

        flight_left : messages_of cfg (flight u.rig l') ≡ T.rig.in_flight
        unfolding oneView.view
        flight_left = ap (messages_of cfg) records_left ∙ ap (λ v. v.in_flight) (rig_seen e)

        owners_left : owners_of u.rig l' ≡ owners_after b place os (length T.rig.in_flight) w
        unfolding owners_after
        owners_left =
            ap (λ (z : Rig). take z.count owners') rig_left
            ∙ settled.kept (no_refusal e)
            ∙ ap₂ (λ (xs : List ℕ) (c : ℕ). xs ++ replicate c b) (stay_is e)
            (ap₂ ◌-◌ (count_seen e) (left_is e))

        -- the network's event
        network_out : outcome cfg room r (called a board) read l ≡ turned_on b place n w T
        unfolding unless_refused network.network_move_of board_move view
        network_out =
            rw (eq-eqb number 0 e)
            (ap (network_move_of cfg room n b (called a board).it) (ev.k cfg room r a board read l pre).is
            ∙ named_move (order cfg) (encode cfg) (decode cfg) cfg room n b (called a board).it w (ev.k cfg room r a board read l pre).named)

        seen_left : view cfg room u.rig l' ≡ (turned_on b place n w T).network
        seen_left = unfold view turned_on in λ j. record {
          parties = fun_ext parties_left j;
          in_flight = flight_left j;
          owners = owners_left j;
        }

        owners_now : owners_of u.rig l' ≡ after.owners
        owners_now = owners_left ∙ sym (owners-after e)

        tied : Together room (view cfg room u.rig l')
        tied =
            subst (Together room) (sym (seen_left ∙ sym after_is))
            (move_together (order cfg) (encode cfg) (decode cfg) cfg room n
            (on.known cfg room r a board read l pre).together b (called a board).it w (passed_there e).0)
          where
            after_is : after ≡ (turned_on b place n w T).network
            after_is =
                ap (λ (z : BoardNetworkTurn). z.network)
                (named_move (order cfg) (encode cfg) (decode cfg) cfg room n b (called a board).it w (ev.k cfg room r a board read l pre).named ∙ board-move)
              where
                board-move : board_move (order cfg) (encode cfg) (decode cfg) cfg n b (called a board).it w ≡ turned_on b place n w T
                board-move = unfold board_move view in refl

        -- every board passes
        board-within : (j : ℕ) → j < room.boards → board_within cfg room u.rig j ≡ true
        unfolding board_within oneQuestions.rig_within
        board-within j h =
            ap₂ ◌&&◌ (ap₂ ◌&&◌ count_yes parties_yes) alike
          where
            count_yes : leb (rig_at u.rig j).count room.m ≡ true
            count_yes =
                le-leb (rig_at u.rig j).count room.m
                (omega (arith, count_is (get_elem? u.rig.boards j) u.rig.count, ap (λ (z : Rig). z.count) rig_left, count_most e))

            parties_yes : oneQuestions.parties_within cfg (rig_at u.rig j) ≡ true
            parties_yes = elim (ℕ_discrete j i) as (λ _. oneQuestions.parties_within cfg (rig_at u.rig j) ≡ true) [
              | yes z ↦
                  ap (λ d. oneQuestions.parties_within cfg (rig_at u.rig d)) z
                  ∙ ap (oneQuestions.parties_within cfg) own_rig
                  ∙ same_within cfg t.rig k
                  ∙ and_right (leb k most) (oneQuestions.parties_within cfg t.rig) (within_there e)
              | no ne ↦
                  ap (oneQuestions.parties_within cfg) (other_rig j ne)
                  ∙ same_within cfg (rig_at r j) k
                  ∙ (on.known cfg room r a board read l pre).parties j h
            ]

            alike : up_alike cfg (rig_at u.rig j) (rig_at u.rig 0) ≡ true
            alike =
                up-alike cfg (rig_at u.rig j) (rig_at u.rig 0) (lent_at cfg l' j) (lent_at cfg l' 0)
                (subst (λ p. SameUp p (parties_of cfg (rig_at u.rig 0) (lent_at cfg l' 0))) (parties_at cfg room u.rig l' j h)
                (subst (λ p. SameUp ((view cfg room u.rig l').parties (j + 1)) p) (parties_at cfg room u.rig l' 0 (omega (arith, h)))
                (tied.up (j + 1) 1 (within_true 1 room.boards (j + 1) (omega arith) (omega (arith, h))) (within_true 1 room.boards 1 (omega arith) (omega (arith, h))))))

        rig-within : rig_within cfg room u.rig owners' ≡ true
        unfolding rig_within view
        rig-within =
            ap₂ ◌&&◌
            (ap₂ ◌&&◌ (below_all room.boards (board_within cfg room u.rig) board-within)
            (ap (owners_within room) owners_now
            ∙ owners_stay_within (order cfg) (encode cfg) (decode cfg) cfg room n (ev.same cfg room r a board read l pre) b (called a board).it w (ev.k cfg room r a board read l pre).named
            pre.exists (on.known cfg room r a board read l pre).owners))
            (ap (fits_room room) owners_now ∙ (passed_there e).1)

        lengths_left : sized cfg room l' ≡ sized cfg room l
        unfolding same_sizes
        lengths_left = λ j. same_sizes (record {
          messages = over_length 0 end y.messages l.messages messages_left messages_fit j;
          owners = settled.long j;
          stores = over_length (i * ws) ws y.stores l.stores stores_left stores_fit j;
          boards = over_length (i * wb) wb y.boards l.boards boards_left boards_fit j;
          elements = over_length (i * we) we y.elements l.elements elements_left elements_fit j;
        }) (due cfg room)

        accepted_left : EventPost cfg room r (called a board) read l u read' l'
        accepted_left =
            record {
              answer =
                  ap (λ z. answer_of z read') settled.answer
                  ∙ post.event.answer
                  ∙ ap (λ (z : BoardTurn). z.answer) (moved_there e)
                  ∙ sym (ap (λ (z : BoardNetworkTurn). z.answer) network_out ∙ turned_answer);
              untouched = λ h. post.event.untouched (sym (ap is_read settled.answer) ∙ h);
              seen = seen_left ∙ sym (ap (λ (z : BoardNetworkTurn). z.network) network_out);
              records = λ _.
                  records_left
                  ∙ post.event.records (told.number_is ∙ e)
                  ∙ ap₂ (λ rs ms. records_after cfg rs place ms (code_of a.code)) (told.flight_is e)
                  (ap (λ (z : BoardTurn). z.rig.in_flight) (moved_there e) ∙ sym (ap (λ (z : BoardNetworkTurn). z.network.in_flight) network_out ∙ turned_flight));
              within = λ _. rig-within;
              lengths = lengths_left;
              held = λ ne. absurd (ne e);
              buffers_stay = λ none_named. absurd (false≢true (sym none_named ∙ ap names_board (ev.k cfg room r a board read l pre).is ∙ (ev.k cfg room r a board read l pre).named));
            }
          where
            turned_answer : (turned_on b place n w T).answer ≡ T.answer
            turned_answer = unfold turned_on in refl

            turned_flight : (turned_on b place n w T).network.in_flight ≡ T.rig.in_flight
            turned_flight = unfold turned_on in refl

      pub named_event : l₁ ≡ back → EventPost cfg room r (called a board) read l u read' (lent l₁.messages owners' l₁.stores l₁.boards l₁.elements)
      named_event h =
          subst (λ (z : oneView.Lent). EventPost cfg room r (called a board) read l u read' (lent z.messages owners' z.stores z.boards z.elements)) (sym h)
          (elim (ℕ_discrete number 0) as (λ _. EventPost cfg room r (called a board) read l u read' l') [
            | yes e ↦ accepted_left e
            | no ne ↦ refused_left ne
          ])
