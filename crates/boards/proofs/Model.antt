-- An event of a list is the network's: where the board handed in and the buffer lent for a read have V bytes, it answers and leaves what the
-- protocol's event does, and else it is refused with 6, or with 22, and all stays. Assumes nothing.
use Prim.Native.Nat.{ℕ}
use mathlib.Core.Path.{◌≡◌, refl, ap, ◌∙◌}
use mathlib.Core.Bool.{Bool, true, false, cond}
use mathlib.Core.List.{List}
use Rattle.config.specs.declared.Config.{Config}
use Rattle.config.specs.declared.Room.{Room}
use Rattle.config.specs.Questions.{first_no}
use Rattle.protocol.specs.Board.{refused}
use Rattle.protocol.specs.Boards.{BoardCall, BoardEvent, BoardNetwork, BoardNetworkTurn, network_after6, network_event, network_move_of}
use Rattle.protocol.specs.Network as network
use Rattle.protocol.specs.Network.{On, board_exists, network_questions, unless_refused}
use Rattle.protocol.specs.Rig.{code_of}
use Rattle.boards.specs.declared.Rig.{Rig}
use Rattle.boards.specs.View.{Lent, view}
use Rattle.boards.specs.Calls.{outcome}
use Rattle.boards.specs.Runs.{Runs}
use Rattle.boards.proofs.Always.{always_asks, lengths}
use Rattle.boards.proofs.Never.{always_twelve}

-- a refusal with 6, or with 22
refused_turn : (n : BoardNetwork) (t : BoardNetworkTurn) (there : Bool)
    → unless_refused n t (cond there 6 22) ≡ record { network = n; answer = refused (cond there 6 22) }
unfolding unless_refused
refused_turn n t true = refl
refused_turn n t false = refl

module _ (cfg : Config) (room : Room) (start : List ℕ) {r : Rig} {l : Lent} {events : List (On BoardEvent)} (runs : Runs cfg room start r l events)
    (a : On BoardCall) (read : List ℕ)
  where
    abbrev there : Bool
    there = board_exists room a.board (code_of a.it.code)

    abbrev moved : BoardNetworkTurn
    moved = network_move_of cfg room (view cfg room r l) a.board a.it (code_of a.it.code)

    pub as_event : lengths cfg room start runs a read ≡ true → outcome cfg room r a read l ≡ network_event cfg room (view cfg room r l) a
    unfolding network.network_event network_questions first_no
    as_event long =
        ap (unless_refused (view cfg room r l) moved)
        (always_asks cfg room start runs a read
        ∙ rw long
        (ap (λ well. cond there (first_no (network_after6 cfg room (view cfg room r l) a.board a.it well (code_of a.it.code))) 22)
        (always_twelve cfg room start runs a)))

    pub as_refused : lengths cfg room start runs a read ≡ false
        → outcome cfg room r a read l ≡ record { network = view cfg room r l; answer = refused (cond (board_exists room a.board (code_of a.it.code)) 6 22) }
    as_refused short =
        ap (unless_refused (view cfg room r l) moved) (always_asks cfg room start runs a read ∙ rw short)
        ∙ refused_turn (view cfg room r l) moved there
