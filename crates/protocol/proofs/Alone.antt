-- An event in a network beside the same event of one board by itself, where 13 is not asked: for a call that names the board, unless 13 is the
-- answer, and for a crash or a restart the answer and what is left of the board are the same; any other call leaves the board as it is.
use Prim.Native.Nat.{ℕ}
use mathlib.Core.Path.{◌≡◌, refl, sym, ap, ap₂, subst, ◌∙◌}
use mathlib.Core.Bool.{Bool, true, false, cond, ◌&&◌, false≢true, not}
use mathlib.Core.Option.{Option, none, some}
use mathlib.Core.List.{List, [], ◌∷◌, ◌++◌, append_assoc}
use native.Mathlib.Decide.{ℕ_discrete}
use native.Mathlib.Omega.{arith}
use lib.Dec.{eqb}
use lib.ListN.{length}
use borrow.Author.Tests.{eqb-false}
use Rattle.config.specs.declared.Config.{Config}
use Rattle.config.specs.declared.Room.{Room}
use Rattle.config.specs.Questions.{Question, ask, first_no, numbered, within}
use Rattle.config.specs.Room.{fits_room}
use Rattle.config.proofs.Questions.{first_no_pass, first_no_stop, first_no_yes, numbered_both, within_high, within_low, within_true}
use Rattle.tag.specs.declared.Tag.{Tag}
use Rattle.protocol.specs.Board.{Call, refused}
use Rattle.protocol.specs.Parties.{questions_to_crash_client, questions_to_crash_server, questions_to_restart_server}
use Rattle.protocol.specs.Rig as rig
use Rattle.protocol.specs.Rig.{Code, Rig, Turn, code_of, questions_to11, unless_no, write_fits}
use Rattle.protocol.specs.Network.{Network, NetworkTurn, On, asked_board, board_exists, names_board, network_event, network_from7, network_move, network_move_of, network_questions, network_to11, rig_of, unless_refused}
use Rattle.protocol.specs.Agree.{alone, concerns, from7_to12, is_on_every_board}
use Rattle.protocol.proofs.Basics.{cond_elim}
use Rattle.protocol.proofs.NetworkMoves.{other_stays, own_answer, own_move, every_answer, every_elim, every_move, every_own_answer, every_owners}
use Rattle.protocol.proofs.NetworkCalls.{asks}
use Rattle.protocol.proofs.NetworkRoom.{Ready}
use Rattle.protocol.proofs.Room.{numbered_to_11}

-- ---- the questions, with 13 and without

-- where 13 is not the refusal, it changes nothing
but_13 : (qs : List Question) (r : Bool) → numbered qs ≡ true → (first_no (qs ++ ask 13 r ∷ []) ≡ 13 → ⊥) → first_no (qs ++ ask 13 r ∷ []) ≡ first_no qs
unfolding first_no
but_13 qs r known not = elim (ℕ_discrete (first_no qs) 0) as (λ _. first_no (qs ++ ask 13 r ∷ []) ≡ first_no qs) [
  | yes e ↦ by r (first_no_pass qs (ask 13 r ∷ []) known e) e
  | no n ↦ first_no_stop qs (ask 13 r ∷ []) n
]
  where
    by : (t : Bool) → first_no (qs ++ ask 13 r ∷ []) ≡ first_no (ask 13 t ∷ []) → first_no qs ≡ 0 → first_no (qs ++ ask 13 r ∷ []) ≡ first_no qs
    by true h e = h ∙ sym e
    by false h e = absurd (not h)

-- nor where there is room
room_left : (qs : List Question) → first_no (qs ++ ask 13 true ∷ []) ≡ first_no qs
unfolding first_no
room_left [] = refl
room_left (ask k true ∷ qs) = room_left qs
room_left (ask k false ∷ qs) = refl

-- ---- which calls concern a board

-- a crash or a restart names none
every_is : (o : Option Code) → is_on_every_board o ≡ true → (w : Code) × (o ≡ some w) × (names_board (some w) ≡ false)
unfolding is_on_every_board
every_is none h = absurd (false≢true h)
every_is (some w) h = (w, refl, by (names_board (some w)) h)
  where
    by : (b : Bool) → not b ≡ true → b ≡ false
    by true e = absurd (false≢true e)
    by false e = refl

pub every_names : (o : Option Code) → is_on_every_board o ≡ true → names_board o ≡ false
every_names o h = let found = every_is o h in ap names_board found.1 ∙ found.2

-- an event that is none of b's, no crash and no restart names another board
another : (b c : ℕ) (o : Option Code) → cond (is_on_every_board o) true (names_board o && eqb c b) ≡ false
    → (w : Code) → o ≡ some w → (names_board (some w) ≡ true) × (b ≡ c → ⊥)
unfolding is_on_every_board
another b c o h w e = by (names_board (some w)) (ap (λ z. cond (is_on_every_board z) true (names_board z && eqb c b)) (sym e) ∙ h)
  where
    by : (f : Bool) → cond (not f) true (f && eqb c b) ≡ false → (f ≡ true) × (b ≡ c → ⊥)
    by true k = (refl, λ i. eqb-false c b k (sym i))
    by false k = absurd (false≢true (sym k))

module _ {Value Element : Type 0} where
  -- an event of the network, and one of board b by itself: the same answer, and the same left of the board
  pub record Agrees (b : ℕ) (t : NetworkTurn Value Element) (u : Turn Value Element) : Type 0 where
    pub answer : t.answer ≡ u.answer
    pub rig : rig_of b t.network ≡ u.rig

  -- with their refusals, by one number
  pub unless_agrees : (b : ℕ) (n : Network Value Element) (t : NetworkTurn Value Element) (u : Turn Value Element) (j k : ℕ) → j ≡ k → Agrees b t u
      → Agrees b (unless_refused n t j) (unless_no (rig_of b n) u k)
  unfolding unless_refused unless_no
  unless_agrees b n t u j k e h = subst (λ i. Agrees b (unless_refused n t j) (unless_no (rig_of b n) u i)) e (by (eqb j 0))
    where
      by : (c : Bool) → Agrees b (cond c t (record { network = n; answer = refused j })) (cond c u (record { rig = rig_of b n; answer = refused j }))
      by true = h
      by false = record { answer = refl; rig = refl }

module _ {Value Element : Type 0} (key : Tag → ℕ) (encode : Value → ℕ → Element) (decode : List (ℕ × Element) → Value) (cfg : Config) (fits : Value → Bool) where
  -- the questions of a board by itself
  abbrev own_asks : Rig Value Element → Call Value → Option Code → List Question
  own_asks r a o = ask 19 (write_fits fits a o) ∷ from7_to12 key encode decode cfg r a true o

  own_numbered : (r : Rig Value Element) (a : Call Value) (w : Code) → numbered (own_asks r a (some w)) ≡ true
  unfolding from7_to12 numbered
  own_numbered r a w = numbered_both (questions_to11 cfg r a w) (ask 12 true ∷ []) (numbered_to_11 cfg r a w) refl

  module _ (room : Room) (n : Network Value Element) where
    abbrev room_after : ℕ → Call Value → Code → Bool
    room_after c a w = fits_room room (network_move key encode decode cfg room n c a w).network.owners

    -- the network's are those of the board that is asked, and 13, where the named board exists
    asks_are : (c : ℕ) (a : Call Value) (w : Code) → board_exists room c (some w) ≡ true
        → first_no (asks key encode decode cfg fits room n c a (some w)) ≡ first_no (own_asks (rig_of (asked_board c w) n) a (some w) ++ ask 13 (room_after c a w) ∷ [])
    unfolding network_from7 from7_to12 network_to11
    asks_are c a w e =
        first_no_yes 22 (board_exists room c (some w)) _ e
        ∙ ap (λ (qs : List Question). first_no (ask 19 (write_fits fits a (some w)) ∷ ask 7 true ∷ qs))
        (sym (append_assoc (questions_to11 cfg (rig_of (asked_board c w) n) a w) (ask 12 true ∷ []) (ask 13 (room_after c a w) ∷ [])))

    -- an event of the network, and of a board by itself
    abbrev left : ℕ → Call Value → Option Code → NetworkTurn Value Element
    left c a o = unless_refused n (network_move_of key encode decode cfg room n c a o) (first_no (asks key encode decode cfg fits room n c a o))

    abbrev single : ℕ → Call Value → Option Code → Turn Value Element
    single b a o = unless_no (rig_of b n) (rig.move_of key encode decode cfg (rig_of b n) a o) (first_no (own_asks (rig_of b n) a o))

    -- an event that names board b
    own_by : length n.owners ≡ length n.in_flight → (b : ℕ) → within 1 room.boards b ≡ true → (a : Call Value) (o : Option Code) → names_board o ≡ true
        → ((left b a o).answer ≡ refused 13 → ⊥) → Agrees b (left b a o) (single b a o)
    own_by same b exists a none named not = absurd (false≢true (unfold names_board in named))
    own_by same b exists a (some w) named not =
        unless_agrees b n (network_move_of key encode decode cfg room n b a (some w)) (rig.move_of key encode decode cfg (rig_of b n) a (some w)) _ _ number
        (unfold network_move_of rig.move_of in record {
          answer = own_answer key encode decode cfg room n same b a w named;
          rig = own_move key encode decode cfg room n same b a w named;
        })
      where
        there : board_exists room b (some w) ≡ true
        there = unfold board_exists in ap (λ t. cond t (within 1 room.boards b) true) named ∙ exists

        it : asked_board b w ≡ b
        it = unfold asked_board in ap (λ t. cond t b 1) named

        are : first_no (asks key encode decode cfg fits room n b a (some w)) ≡ first_no (own_asks (rig_of b n) a (some w) ++ ask 13 (room_after b a w) ∷ [])
        are = asks_are b a w there ∙ ap (λ c. first_no (own_asks (rig_of c n) a (some w) ++ ask 13 (room_after b a w) ∷ [])) it

        thirteen : first_no (asks key encode decode cfg fits room n b a (some w)) ≡ 13 → ⊥
        thirteen e = not (unfold unless_refused in ap (λ k. (unless_refused n (network_move_of key encode decode cfg room n b a (some w)) k).answer) e)

        number : first_no (asks key encode decode cfg fits room n b a (some w)) ≡ first_no (own_asks (rig_of b n) a (some w))
        number = are ∙ but_13 (own_asks (rig_of b n) a (some w)) (room_after b a w) (own_numbered (rig_of b n) a w) (λ e. thirteen (are ∙ e))

    -- a crash or a restart, accepted or refused
    every_by : Ready room n → (b : ℕ) → within 1 room.boards b ≡ true → (c : ℕ) (a : Call Value) (w : Code) → names_board (some w) ≡ false
        → Agrees b (left c a (some w)) (single b a (some w))
    every_by ready b exists c a w everywhere =
        unless_agrees b n (network_move_of key encode decode cfg room n c a (some w)) (rig.move_of key encode decode cfg (rig_of b n) a (some w)) _ _ number
        (unfold network_move_of rig.move_of in record {
          answer = every_answer key encode decode cfg room n c a w everywhere ∙ sym (every_own_answer key encode decode cfg room n c a b w everywhere);
          rig = every_move key encode decode cfg room n c a b exists w everywhere;
        })
      where
        there : board_exists room c (some w) ≡ true
        there = unfold board_exists in ap (λ t. cond t (within 1 room.boards c) true) everywhere

        it : asked_board c w ≡ 1
        it = unfold asked_board in ap (λ t. cond t c 1) everywhere

        roomy : room_after c a w ≡ true
        roomy = ap (fits_room room) (every_owners key encode decode cfg room n c a w everywhere) ∙ ready.roomy

        one : within 1 room.boards 1 ≡ true
        one = within_true 1 room.boards 1 (omega arith) (omega (arith, within_low 1 room.boards b exists, within_high 1 room.boards b exists))

        same : questions_to11 cfg (rig_of 1 n) a w ≡ questions_to11 cfg (rig_of b n) a w
        same = every_elim (λ x. questions_to11 cfg (rig_of 1 n) a x ≡ questions_to11 cfg (rig_of b n) a x)
            (unfold questions_to11 questions_to_crash_server rig_of in ap (λ t. ask 8 (within 1 cfg.n a.party) ∷ ask 9 t ∷ []) ((ready.together.up 1 b one exists).servers a.party))
            (unfold questions_to11 questions_to_crash_client rig_of in ap (λ t. ask 8 (within 1 cfg.c a.party) ∷ ask 9 t ∷ []) ((ready.together.up 1 b one exists).clients a.party))
            (unfold questions_to11 questions_to_restart_server rig_of in ap (λ t. ask 8 (within 1 cfg.n a.party) ∷ ask 9 (not t) ∷ []) ((ready.together.up 1 b one exists).servers a.party))
            w everywhere

        number : first_no (asks key encode decode cfg fits room n c a (some w)) ≡ first_no (own_asks (rig_of b n) a (some w))
        number =
            asks_are c a w there
            ∙ ap₂ (λ o r. first_no (own_asks (rig_of o n) a (some w) ++ ask 13 r ∷ [])) it roomy
            ∙ room_left (own_asks (rig_of 1 n) a (some w))
            ∙ (unfold from7_to12 in ap (λ (qs : List Question). first_no (ask 19 (write_fits fits a (some w)) ∷ ask 7 true ∷ qs ++ ask 12 true ∷ [])) same)

    -- an event that names another board, or none and is unknown
    other_by : length n.owners ≡ length n.in_flight → (b c : ℕ) (a : Call Value) (o : Option Code)
        → ((w : Code) → o ≡ some w → (names_board (some w) ≡ true) × (b ≡ c → ⊥)) → rig_of b (left c a o).network ≡ rig_of b n
    unfolding unless_refused
    other_by same b c a o other =
        cond_elim (λ (t : NetworkTurn Value Element). rig_of b t.network ≡ rig_of b n) (eqb (first_no (asks key encode decode cfg fits room n c a o)) 0)
        (network_move_of key encode decode cfg room n c a o) _ (λ _. moved o other) (λ _. refl)
      where
        moved : (x : Option Code) → ((w : Code) → x ≡ some w → (names_board (some w) ≡ true) × (b ≡ c → ⊥)) → rig_of b (network_move_of key encode decode cfg room n c a x).network ≡ rig_of b n
        moved none h = unfold network_move_of in refl
        moved (some w) h = unfold network_move_of in other_stays key encode decode cfg room n same c a w (h w refl).0 b (h w refl).1

    -- In a network, a board answers to a call that names it what it would answer by itself, unless with 13, and comes to the same.
    pub own_event : length n.owners ≡ length n.in_flight → (x : On (Call Value)) → within 1 room.boards x.board ≡ true
        → names_board (code_of x.it.code) ≡ true → ((network_event key encode decode cfg fits room n x).answer ≡ refused 13 → ⊥)
        → Agrees x.board (network_event key encode decode cfg fits room n x) (alone key encode decode cfg fits (rig_of x.board n) x.it)
    unfolding network_event network_questions alone
    own_event same x exists named not = own_by same x.board exists x.it (code_of x.it.code) named not

    -- a crash or a restart, accepted or refused, is one of each board that there is
    pub every_event : Ready room n → (b : ℕ) → within 1 room.boards b ≡ true → (x : On (Call Value)) → is_on_every_board (code_of x.it.code) ≡ true
        → Agrees b (network_event key encode decode cfg fits room n x) (alone key encode decode cfg fits (rig_of b n) x.it)
    unfolding network_event network_questions alone
    every_event ready b exists x everywhere =
        let found = every_is (code_of x.it.code) everywhere in
        subst (λ o. Agrees b (left x.board x.it o) (single b x.it o)) (sym found.1) (every_by ready b exists x.board x.it found.0 found.2)

    -- a call that names another board, or is unknown, leaves board b as it is
    pub other_event : length n.owners ≡ length n.in_flight → (b : ℕ) (x : On (Call Value)) → concerns b x ≡ false
        → rig_of b (network_event key encode decode cfg fits room n x).network ≡ rig_of b n
    unfolding network_event network_questions concerns
    other_event same b x not = other_by same b x.board x.it (code_of x.it.code) (another b x.board (code_of x.it.code) not)
