-- Questions of a rig of several boards, as its inner functions put them.
use Rattle.std.specs.Prelude.{ℕ, ◌*◌, ◌≤◌, Bool, true, ◌&&◌, ◌≡◌, List, [], ◌∷◌, ◌++◌, eqb}
use Rattle.config.specs.declared.Config.{Config}
use Rattle.config.specs.declared.Room.{Room}
use Rattle.config.specs.Config.{board_length}
use Rattle.config.specs.Questions.{ask, first_no}
use Rattle.config.specs.Room.{room_questions, room_within}
use Rattle.protocol.specs.Network.{board_exists}
use Rattle.protocol.specs.Rig.{code_of}
use Rattle.boards.specs.declared.Call.{Call}
use Rattle.boards.specs.declared.Rig.{Rig}
use Rattle.boards.specs.declared.Sizes.{Sizes}
use Rattle.boards.specs.Questions.{rig_within, sized_by}

-- questions 1 to 5, 21 and 22 are answered yes
abbrev pub Accepted : Config → Room → Type 0
Accepted cfg room = first_no (room_questions cfg room) ≡ 0

-- what they tell of the room alone
abbrev pub RoomAccepted : Room → Type 0
RoomAccepted room = (room_within room ≡ true) × (room.m ≤ 512)

-- questions of a making, by the lengths of what is handed in
abbrev pub start_no : Config → Room → ℕ → Sizes → ℕ
start_no cfg room start x = first_no (room_questions cfg room ++ ask 6 (eqb start (room.boards * board_length cfg) && sized_by cfg room x) ∷ [])

-- the lengths of what is handed in to an event
abbrev pub all_long : Config → Room → ℕ → ℕ → Sizes → Bool
all_long cfg room board read x = eqb board (board_length cfg) && eqb read (board_length cfg) && sized_by cfg room x

-- questions 1 to 5, 21 and 22, and then another
abbrev pub first_six : Config → Room → Call → Bool → ℕ
first_six cfg room a six = first_no (room_questions cfg room ++ ask 22 (board_exists room a.board (code_of a.code)) ∷ ask 6 six ∷ [])

abbrev pub lengths_no : Config → Room → Call → ℕ → ℕ → Sizes → ℕ
lengths_no cfg room a board read x = first_six cfg room a (all_long cfg room board read x)

-- with those of the rig
abbrev pub asked_no : Config → Room → Rig → Call → ℕ → ℕ → Sizes → List ℕ → ℕ
asked_no cfg room r a board read x owners = first_six cfg room a (all_long cfg room board read x && rig_within cfg room r owners)
