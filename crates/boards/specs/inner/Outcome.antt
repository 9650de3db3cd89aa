-- A rig of several boards, and one board of it.
use Rattle.std.specs.Prelude.{ℕ, set}
use Rattle.config.specs.declared.Refusal.{Refusal}
use Rattle.parties.specs.declared.Answer.{Answer}
use Rattle.events.specs.declared.Rig as one
use Rattle.boards.specs.declared.Rig.{Rig}
use Rattle.boards.specs.declared.Turn.{Turn}
use Rattle.boards.specs.View.{board_by}

-- the parties of a rig of one board in a place of a rig, with so many records in flight
abbrev pub put_at : Rig → ℕ → one.Rig → ℕ → Rig
put_at r i x count = record { boards = set r.boards i (board_by x); count = count }

-- a refusal, with the rig as it was
abbrev pub unturned_by : Refusal → Rig → Turn
unturned_by why r = record { answer = Answer.No why; rig = r }
