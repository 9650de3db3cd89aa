-- A board's part of an execution of a network is an execution of that board by itself: what happens on other boards, a crash and a restart are
-- elsewhere.
use Prim.Native.Nat.{ℕ}
use mathlib.Core.Path.{◌≡◌, refl, sym, ap, ap₂, subst, ◌∙◌}
use mathlib.Core.Bool.{Bool, true, false, cond, ◌&&◌}
use mathlib.Core.Logic.{◌⊎◌, inl, inr}
use mathlib.Core.Option.{some}
use mathlib.Core.List.{List, [], ◌∷◌, ◌++◌, append-nil}
use lib.Dec.{eqb}
use borrow.Author.Tests.{eqb-false, eqb-true}
use Rattle.laws.specs.Owners.{own}
use Rattle.config.specs.declared.Config.{Config}
use Rattle.config.specs.declared.Room.{Room}
use Rattle.config.specs.Questions.{first_no, within}
use Rattle.tag.specs.declared.Tag.{Tag}
use Rattle.protocol.specs.Client.{Client, down}
use Rattle.protocol.specs.Board.{Call, Event, refused}
use Rattle.protocol.specs.Parties as parties
use Rattle.protocol.specs.Parties.{fresh_parties, quiet, with_client}
use Rattle.protocol.specs.Rig as rig
use Rattle.protocol.specs.Rig.{Code, Elsewhere, Execution, Rig, Turn, begin_write, code_of, fresh_rig, leaves, questions_to11}
use Rattle.protocol.specs.Network as network
use Rattle.protocol.specs.Network.{Network, NetworkExecution, NetworkTurn, On, asked_board, events_of, fresh_network, is_of, names_board, network_move, network_to11, no_parties, rig_of}
use Rattle.protocol.proofs.Basics.{upd_elim}
use Rattle.protocol.proofs.NetworkMoves.{every_elim, every_move, other_stays, own_answer, own_move}
use Rattle.protocol.proofs.Together.{Together, fresh_together, move_together}

module _ {Value : Type 0} where
  -- a board's events of two lists
  pub events_append : (b : ℕ) (xs ys : List (On (Event Value))) → events_of b (xs ++ ys) ≡ events_of b xs ++ events_of b ys
  unfolding events_of
  events_append b [] ys = refl
  events_append b (x ∷ xs) ys = by (is_of b x) (events_append b xs ys)
    where
      by : (c : Bool) → events_of b (xs ++ ys) ≡ events_of b xs ++ events_of b ys
          → cond c (x.it ∷ events_of b (xs ++ ys)) (events_of b (xs ++ ys)) ≡ cond c (x.it ∷ events_of b xs) (events_of b xs) ++ events_of b ys
      by true e = ap (λ zs. x.it ∷ zs) e
      by false e = e

-- a board of a fresh network is a fresh rig
pub fresh-rig : {Value Element : Type 0} (cfg : Config) (room : Room) (encode : Value → ℕ → Element) (starts : ℕ → Value) (b : ℕ)
    → within 1 room.boards b ≡ true → rig_of b (fresh_network cfg room encode starts) ≡ fresh_rig cfg encode (starts b)
unfolding rig_of fresh_network fresh_rig own
fresh-rig cfg room encode starts b exists =
    λ i. record { parties = cond (exists i) (fresh_parties cfg encode (starts b)) no_parties; in_flight = [] }

module _ {Value Element : Type 0} (key : Tag → ℕ) (encode : Value → ℕ → Element) (decode : List (ℕ × Element) → Value) (cfg : Config) where
  -- a crash or a restart is elsewhere
  every_elsewhere : (r : Rig Value Element) (a : Call Value) (w : Code) → names_board (some w) ≡ false → Elsewhere r (rig.move key encode decode cfg r a w).rig
  unfolding rig.move leaves parties.crash_server parties.crash_client parties.restart_server quiet with_client
  every_elsewhere r a =
      every_elim (λ w. Elsewhere r (rig.move key encode decode cfg r a w).rig)
      (record { servers = refl; in_flight = append-nil r.in_flight; clients = λ c. inl refl })
      (record {
        servers = refl;
        in_flight = append-nil r.in_flight;
        clients = λ c.
            upd_elim
            (λ (x : Client Value Element). (x ≡ r.parties.clients c) ⊎ (x ≡ record { operation = (r.parties.clients c).operation; phase = down }))
            r.parties.clients a.party _ c
            (λ e. inr (ap (λ d. record { operation = (r.parties.clients d).operation; phase = down }) (sym e))) (λ _. inl refl);
      })
      (record { servers = refl; in_flight = append-nil r.in_flight; clients = λ c. inl refl })

  module _ (IsBoard : Value → Type 0) (room : Room) (starts : ℕ → Value) where
    abbrev Runs : Network Value Element → List (On (Event Value)) → Type 0
    Runs = NetworkExecution key encode decode cfg IsBoard room starts

    -- each message has its board beside it, and the same parties are up on each board
    pub runs_together : {n : Network Value Element} {events : List (On (Event Value))} → Runs n events → Together room n
    runs_together network.fresh = fresh_together key encode decode cfg room starts
    runs_together (network.refuses runs x number) = runs_together runs
    runs_together (network.moves {n = n} runs x w code exists asked board) =
        move_together key encode decode cfg room n (runs_together runs) x.board x.it w asked

    module _ (b : ℕ) (exists : within 1 room.boards b ≡ true) where
      abbrev Run : Rig Value Element → List (Event Value) → Type 0
      Run = Execution key encode decode cfg IsBoard (starts b)

      -- the events of b with one more of the network
      more : (events : List (On (Event Value))) (x : On (Event Value)) → events_of b (events ++ (x ∷ [])) ≡ events_of b events ++ cond (is_of b x) (x.it ∷ []) []
      unfolding events_of
      more events x = events_append b events (x ∷ [])

      refused_run : {r : Rig Value Element} {h : List (Event Value)} → Run r h → (a : Call Value) (number : ℕ) (c : Bool)
          → Run r (h ++ cond c (record { call = a; answer = refused number } ∷ []) [])
      refused_run runs a number true = rig.refuses runs a number
      refused_run {r} {h} runs a number false = subst (Run r) (sym (append-nil h)) runs

      module _ (n : Network Value Element) (h : List (Event Value)) (together : Together room n) (runs : Run (rig_of b n) h) (c : ℕ) (a : Call Value) (w : Code)
          (code : code_of a.code ≡ some w) (asked : first_no (network_to11 cfg n c a w) ≡ 0) (board : w ≡ begin_write → IsBoard a.board)
        where
          abbrev turn : ℕ → NetworkTurn Value Element
          turn o = network_move key encode decode cfg room n o a w

          abbrev event : ℕ → Event Value
          event o = record { call = a; answer = (turn o).answer }

          -- its own event
          own_run : names_board (some w) ≡ true → c ≡ b → Run (rig_of b (turn c).network) (h ++ (event c ∷ []))
          unfolding network_to11 asked_board
          own_run named mine =
              subst (λ o. Run (rig_of b (turn o).network) (h ++ (event o ∷ []))) (sym mine)
              (subst (λ z. Run z.rig (h ++ (record { call = a; answer = z.answer } ∷ []))) (sym turned)
              (rig.moves runs a w code (ap₂ (λ t o. first_no (questions_to11 cfg (rig_of (cond t o 1) n) a w)) (sym named) (sym mine) ∙ asked) board))
            where
              turned : ◌≡◌ {A = Turn Value Element} (record { rig = rig_of b (turn b).network; answer = (turn b).answer }) (rig.move key encode decode cfg (rig_of b n) a w)
              turned = λ i. record {
                rig = own_move key encode decode cfg room n together.lengths b a w named i;
                answer = own_answer key encode decode cfg room n together.lengths b a w named i;
              }

          moved_run : (named mine : Bool) → names_board (some w) ≡ named → eqb c b ≡ mine
              → Run (rig_of b (turn c).network) (h ++ cond (named && mine) (event c ∷ []) [])
          moved_run true true e f = own_run e (eqb-true c b f)
          moved_run true false e f =
              subst (Run (rig_of b (turn c).network)) (sym (append-nil h))
              (subst (λ r. Run r h) (sym (other_stays key encode decode cfg room n together.lengths c a w e b (λ i. eqb-false c b f (sym i)))) runs)
          moved_run false mine e f =
              subst (Run (rig_of b (turn c).network)) (sym (append-nil h))
              (subst (λ r. Run r h) (sym (every_move key encode decode cfg room n c a b exists w e)) (rig.elsewhere runs (every_elsewhere (rig_of b n) a w e)))

          next_run : Run (rig_of b (turn c).network) (h ++ cond (is_of b (record { board = c; it = event c })) (event c ∷ []) [])
          unfolding is_of
          next_run = moved_run (names_board (code_of a.code)) (eqb c b) (ap names_board (sym code)) refl

      -- board b's events are those of an execution of that board
      pub board_runs : {n : Network Value Element} {events : List (On (Event Value))} → Runs n events → Run (rig_of b n) (events_of b events)
      board_runs network.fresh = unfold events_of in subst (λ r. Run r []) (sym (fresh-rig cfg room encode starts b exists)) rig.fresh
      board_runs (network.refuses {n = n} {events = events} runs x number) =
          let y : On (Event Value) = record { board = x.board; it = record { call = x.it; answer = refused number } } in
          subst (Run (rig_of b n)) (sym (more events y)) (refused_run (board_runs runs) x.it number (is_of b y))
      board_runs (network.moves {n = n} {events = events} runs x w code _ asked board) =
          subst (Run (rig_of b (network_move key encode decode cfg room n x.board x.it w).network)) (sym (more events _))
          (next_run n (events_of b events) (runs_together runs) (board_runs runs) x.board x.it w code asked board)
