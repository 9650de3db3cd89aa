-- Document 02: "Each board has its own single-board history, taken from the events that name it, under any mix of events." "One board's proof
-- serves all eight."
use Prim.Native.Nat.{ℕ, ◌≤◌}
use mathlib.Core.Path.{◌≡◌}
use mathlib.Core.Bool.{Bool, true}
use mathlib.Core.List.{List, [], Memᴰ}
use borrow.Author.Tests.{leb-true}
use lib.ListN.{length}
use Rattle.config.specs.declared.Config.{Config}
use Rattle.config.specs.declared.Room.{Room}
use Rattle.config.specs.Config.{Valid, board_length}
use Rattle.config.specs.Questions.{within}
use Rattle.tag.specs.declared.Tag.{Tag}
use Rattle.protocol.specs.Board.{Atomic, Call, Event}
use Rattle.protocol.specs.Boards as boards
use Rattle.protocol.specs.Boards.{Board, BoardAtomic, BoardCall, BoardEvent, BoardNetwork, BoardNetworkExecution, Filled, IsBoard, decode, encode, fits_in, order}
use Rattle.protocol.specs.Endings.{EndsOne}
use Rattle.protocol.specs.Laws.{Coding, TagOrder}
use Rattle.protocol.specs.Network.{Network, NetworkExecution, On, events_of, fresh, fresh_network, network_run}
use Rattle.protocol.proofs.Boards.{coding, tag_order}
use Rattle.protocol.proofs.NetworkCalls.{calls_run}
use Rattle.protocol.proofs.NetworkRuns.{board_runs}
use Rattle.protocol.proofs.Theorem as theorem

-- Values and elements of any types; a key that orders tags; a code; a configuration with k at least 1; boards that share the messages in flight, each
-- with a starting board.
module _ {Value Element : Type 0} (cfg : Config) (key : Tag → ℕ) (tags : TagOrder cfg key)
    (IsBoard : Value → Type 0) (encode : Value → ℕ → Element) (decode : List (ℕ × Element) → Value) (coding : Coding cfg IsBoard encode decode)
    (positive : 1 ≤ cfg.k) (room : Room) (starts : ℕ → Value) (b : ℕ) (exists : within 1 room.boards b ≡ true) (start_is_board : IsBoard (starts b))
  where
    -- The events that name board b, in every execution of the network, have a history with an order that fits.
    pub network_atomic : {n : Network Value Element} {events : List (On (Event Value))}
        → NetworkExecution key encode decode cfg IsBoard room starts n events → Atomic key (starts b) (events_of b events)
    network_atomic runs =
        theorem.atomic cfg key tags IsBoard encode decode coding positive (starts b) start_is_board
        (board_runs key encode decode cfg IsBoard room starts b exists runs)

    -- Each answer of theirs that names a client ends exactly one operation of that client on that board.
    pub network_ends_one : {n : Network Value Element} {events : List (On (Event Value))}
        → NetworkExecution key encode decode cfg IsBoard room starts n events → EndsOne (events_of b events)
    network_ends_one runs =
        theorem.ends_one cfg key tags IsBoard encode decode coding positive (starts b) start_is_board
        (board_runs key encode decode cfg IsBoard room starts b exists runs)

    -- The same of every list of calls, refused ones included.
    pub network_atomic_calls : (fits : Value → Bool) (calls : List (On (Call Value)))
        → ((x : On (Call Value)) → Memᴰ x calls → x.it.code ≡ 1 → fits x.it.board ≡ true → IsBoard x.it.board)
        → Atomic key (starts b) (events_of b (network_run key encode decode cfg fits room (fresh_network cfg room encode starts) calls))
    network_atomic_calls fits calls boards =
        network_atomic (calls_run key encode decode cfg fits room IsBoard starts calls boards (fresh_network cfg room encode starts) [] fresh).1

    pub network_ends_one_calls : (fits : Value → Bool) (calls : List (On (Call Value)))
        → ((x : On (Call Value)) → Memᴰ x calls → x.it.code ≡ 1 → fits x.it.board ≡ true → IsBoard x.it.board)
        → EndsOne (events_of b (network_run key encode decode cfg fits room (fresh_network cfg room encode starts) calls))
    network_ends_one_calls fits calls boards =
        network_ends_one (calls_run key encode decode cfg fits room IsBoard starts calls boards (fresh_network cfg room encode starts) [] fresh).1

-- With the documents' tags and code: for every valid configuration, whatever boards there are and however the messages in flight are shared, each
-- board's history has an order that fits.
module _ (cfg : Config) (valid : Valid cfg) (room : Room) (starts : ℕ → Board) (b : ℕ) (exists : within 1 room.boards b ≡ true)
    (is_board : IsBoard cfg (starts b))
  where
    pub boards_atomic : {n : BoardNetwork} {events : List (On BoardEvent)} → BoardNetworkExecution cfg room starts n events
        → BoardAtomic cfg (starts b) (events_of b events)
    boards_atomic =
        network_atomic cfg (order cfg) (tag_order cfg valid) (IsBoard cfg) (encode cfg) (decode cfg) (coding cfg valid) valid.k_low room starts b exists
        is_board

    pub boards_end_one : {n : BoardNetwork} {events : List (On BoardEvent)} → BoardNetworkExecution cfg room starts n events → EndsOne (events_of b events)
    boards_end_one =
        network_ends_one cfg (order cfg) (tag_order cfg valid) (IsBoard cfg) (encode cfg) (decode cfg) (coding cfg valid) valid.k_low room starts b exists
        is_board

    -- of every list of calls, with writes of V bytes with zeros past the length: a length above V is refused
    pub boards_atomic_calls : (calls : List (On BoardCall))
        → ((x : On BoardCall) → Memᴰ x calls → x.it.code ≡ 1 → (length x.it.board.bytes ≡ board_length cfg) × Filled x.it.board)
        → BoardAtomic cfg (starts b) (events_of b (boards.network_run cfg room (boards.fresh_network cfg room starts) calls))
    boards_atomic_calls calls handed =
        network_atomic_calls cfg (order cfg) (tag_order cfg valid) (IsBoard cfg) (encode cfg) (decode cfg) (coding cfg valid) valid.k_low room starts b exists
        is_board (fits_in cfg) calls
        (λ x i one fits. record {
          whole = (handed x i one).0;
          fits = leb-true x.it.board.length (board_length cfg) fits;
          filled = (handed x i one).1;
        })
