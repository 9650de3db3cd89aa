-- Boards over one network don't disturb each other: an event that names a board leaves every other board's parties and messages, and "a guaranteed
-- share" is one: a board within it meets no 13, whatever the others do. Assumes nothing.
use Prim.Native.Nat.{ℕ, ◌≤◌}
use mathlib.Core.Path.{◌≡◌, sym, ap, ap₂, ◌∙◌}
use mathlib.Core.Bool.{true, false≢true}
use mathlib.Core.Option.{Option, none, some}
use mathlib.Core.List.{List}
use native.Mathlib.Omega.{arith}
use native.Mathlib.Decide.{ℕ_discrete}
use borrow.Author.Tests.{eq-eqb}
use Rattle.laws.specs.Owners.{count_of}
use Rattle.config.specs.declared.Config.{Config}
use Rattle.config.specs.declared.Room.{Room}
use Rattle.config.specs.Questions.{first_no}
use Rattle.config.specs.Room.{share_of}
use Rattle.config.proofs.Questions.{first_no_yes}
use Rattle.protocol.specs.Boards.{BoardCall, BoardEvent, BoardNetworkTurn, decode, encode, fits_in, network_after6, network_move_of, order}
use Rattle.protocol.specs.Network as network
use Rattle.protocol.specs.Network.{On, names_board, network_questions, rig_of, unless_refused}
use Rattle.protocol.specs.Rig.{Code, code_of}
use Rattle.protocol.proofs.NetworkMoves.{other_stays}
use Rattle.protocol.proofs.NetworkRoom as networkRoom
use Rattle.boards.specs.declared.Rig.{Rig}
use Rattle.boards.specs.declared.Turn.{Turn}
use Rattle.boards.specs.View.{Lent, view}
use Rattle.boards.specs.Calls.{EventPost, event_no, outcome}
use Rattle.boards.specs.Runs.{Runs}
use Rattle.boards.proofs.Always.{always_ready, by_number}
use Rattle.boards.proofs.Atomic.{origin}
use Rattle.boards.proofs.Never.{always_twelve}
use Rattle.boards.proofs.Shown.{event_passed}

module _ (cfg : Config) (room : Room) (r : Rig) (a : On BoardCall) (read : List ℕ) (l : Lent) where
  -- No message of one board reaches a party of another: an event that names a board, whatever it answers, leaves the others' parties and messages as
  -- they are. The rig is any, and need not be one of a list.
  pub others : names_board (code_of a.it.code) ≡ true → (o : ℕ) → (o ≡ a.board → ⊥) → {t : Turn} {read' : List ℕ} {l' : Lent}
      → EventPost cfg room r a read l t read' l' → rig_of o (view cfg room t.rig l') ≡ rig_of o (view cfg room r l)
  others named o other {t} {read'} {l'} p =
      elim (ℕ_discrete number 0) as (λ _. rig_of o (view cfg room t.rig l') ≡ rig_of o (view cfg room r l)) [
        | yes z ↦ ap (rig_of o) p.seen ∙ ap (λ (x : BoardNetworkTurn). rig_of o x.network) (accepted z) ∙ moved z (code_of a.it.code) named
        | no some_no ↦ ap₂ (λ x y. rig_of o (view cfg room x y)) (p.held some_no).0 (p.held some_no).1
      ]
    where
      number : ℕ
      number = event_no cfg room r a read l

      accepted : number ≡ 0 → outcome cfg room r a read l ≡ network_move_of cfg room (view cfg room r l) a.board a.it (code_of a.it.code)
      accepted z = unfold unless_refused in rw (eq-eqb number 0 z)

      moved : number ≡ 0 → (w : Option Code) → names_board w ≡ true
          → rig_of o (network_move_of cfg room (view cfg room r l) a.board a.it w).network ≡ rig_of o (view cfg room r l)
      moved z none e = absurd (false≢true (unfold names_board in e))
      moved z (some w) e =
          unfold network.network_move_of in
          other_stays (order cfg) (encode cfg) (decode cfg) cfg room (view cfg room r l) (event_passed cfg room r a read l z).together.lengths a.board
          a.it w e o other

module _ (cfg : Config) (room : Room) (start : List ℕ) {r : Rig} {l : Lent} {events : List (On BoardEvent)} (runs : Runs cfg room start r l events)
    (a : On BoardCall) (read : List ℕ)
  where
    -- "The configuration gives each board a guaranteed share": an event after which the board that it names would have no more messages in flight than
    -- its share is not refused with 13.
    pub share : count_of a.board (network_move_of cfg room (view cfg room r l) a.board a.it (code_of a.it.code)).network.owners ≤ share_of room a.board
        → event_no cfg room r a read l ≡ 13 → ⊥
    unfolding network_questions
    share few =
        by_number cfg room start runs a read (λ k. k ≡ 13 → ⊥) (λ _ e. omega (arith, e)) (λ _ e. omega (arith, e))
        (λ exists e.
        networkRoom.share (order cfg) (encode cfg) (decode cfg) cfg (fits_in cfg) room (origin cfg room start runs).1 (view cfg room r l)
        (always_ready cfg room start runs) a few
        (first_no_yes 22 _ _ exists
        ∙ ap (λ well. first_no (network_after6 cfg room (view cfg room r l) a.board a.it well (code_of a.it.code))) (sym (always_twelve cfg room start runs a))
        ∙ e))
