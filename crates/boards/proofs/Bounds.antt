-- How great the lengths of the buffers lent to a rig of several boards can be, of any configuration and room. Assumes nothing.
use Prim.Native.Nat.{◌≤◌}
use mathlib.Core.Path.{subst}
use native.Mathlib.Omega.{arith}
use native.Mathlib.Decide.{ℕ_discrete}
use Rattle.config.specs.declared.Config.{Config}
use Rattle.config.specs.declared.Room.{Room}
use Rattle.config.specs.Questions.{first_no}
use Rattle.config.specs.Room.{room_questions}
use Rattle.config.proofs.Rooms.{room_most}
use Rattle.boards.specs.declared.Sizes.{Sizes}
use Rattle.boards.specs.Questions.{lengths_of}
use Rattle.boards.proofs.Due.{all_boards_small, all_stores_small, due_is, each_elements_small, nothing_is}

pub record Small (x : Sizes) : Type 0 where
  pub messages : x.messages ≤ 40960
  pub owners : x.owners ≤ 512
  pub stores : x.stores ≤ 65536
  pub boards : x.boards ≤ 131072
  pub elements : x.elements ≤ 131072

pub lengths_small : (cfg : Config) (room : Room) → Small (lengths_of cfg room)
lengths_small cfg room = elim (ℕ_discrete (first_no (room_questions cfg room)) 0) as (λ _. Small (lengths_of cfg room)) [
  | yes h ↦
      subst Small (due_is cfg room h)
      (record {
        messages = omega (arith, (room_most cfg room h).1);
        owners = (room_most cfg room h).1;
        stores = all_stores_small cfg room h;
        boards = all_boards_small cfg room h;
        elements = each_elements_small cfg room h;
      })
  | no some ↦
      subst Small (nothing_is cfg room some)
      (record { messages = omega arith; owners = omega arith; stores = omega arith; boards = omega arith; elements = omega arith })
]
