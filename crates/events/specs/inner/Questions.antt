-- Question 6 of an event, but for what the parties keep: by the lengths of the buffers.
use Rattle.std.specs.Prelude.{ℕ, Bool, ◌&&◌, eqb, leb}
use Rattle.config.specs.declared.Config.{Config}
use Rattle.config.specs.Config.{board_length}
use Rattle.events.specs.declared.Sizes.{Sizes}
use Rattle.events.specs.Questions.{sized_by}

-- of an event: the board handed in, the buffer lent for a read, the others, and how many records are in flight
abbrev pub sized_to_event : Config → ℕ → ℕ → ℕ → ℕ → Sizes → Bool
sized_to_event cfg m count board read x =
    eqb board (board_length cfg)
    && eqb read (board_length cfg)
    && sized_by cfg m x.messages x.stores x.boards x.elements
    && leb count m
