-- Document 02: several boards share the M messages in flight, and "The configuration gives each board a guaranteed share of them."
use Rattle.std.specs.Prelude.{ℕ, ◌+◌, ◌-◌, Bool, cond, ◌&&◌, List, [], ◌∷◌, ◌++◌, eqb, leb, length, get_or}
use Rattle.laws.specs.Below.{all_below, sum_below}
use Rattle.laws.specs.Owners.{count_of}
use Rattle.config.specs.declared.Config.{Config}
use Rattle.config.specs.declared.Room.{Room}
use Rattle.config.specs.Config.{rig_questions}
use Rattle.config.specs.Questions.{Question, ask, within}

-- the most boards: "Up to 8 boards, numbered from 1"
abbrev pub most_boards : ℕ
most_boards = 8

-- the share of board b: that of board 1 stands first
abbrev pub share_of : Room → ℕ → ℕ
share_of room b = get_or room.shares (b - 1) 0

-- "the shares' sum": of the boards that there are
unfoldable pub shares_sum : Room → ℕ
shares_sum room = sum_below room.boards (λ i. share_of room (i + 1))

-- "are there 1 to 8 boards with shares adding to at most M"
unfoldable pub room_within : Room → Bool
room_within room = within 1 most_boards room.boards && leb (shares_sum room) room.m

-- "22, .., placed after 21": its first half, which is of the configuration
unfoldable pub room_questions : Config → Room → List Question
room_questions cfg room = rig_questions cfg room.m ++ ask 22 (room_within room) ∷ []

-- "the messages beyond the shares, summed over all boards", where the boards of the messages in flight are these
unfoldable pub beyond : Room → List ℕ → ℕ
beyond room owners = sum_below room.boards (λ i. count_of (i + 1) owners - share_of room (i + 1))

-- "Number 13 is now given exactly if the messages beyond the shares, summed over all boards, would exceed M less the shares' sum"
unfoldable pub fits_room : Room → List ℕ → Bool
fits_room room owners = leb (beyond room owners) (room.m - shares_sum room)

-- what the board in place i, from 0, lacks to its share; nothing if it is board b
abbrev pub lacking : Room → ℕ → List ℕ → ℕ → ℕ
lacking room b owners i = cond (eqb (i + 1) b) 0 (share_of room (i + 1) - count_of (i + 1) owners)

-- the places kept free for the boards other than b
unfoldable pub kept_free : Room → ℕ → List ℕ → ℕ
kept_free room b owners = sum_below room.boards (lacking room b owners)

-- each of some numbers is that of one of so many boards
abbrev pub all_within : ℕ → List ℕ → Bool
all_within boards owners = all_below (length owners) (λ i. within 1 boards (get_or owners i 0))

-- each message's board is one that there is
unfoldable pub owners_within : Room → List ℕ → Bool
owners_within room owners = all_within room.boards owners
