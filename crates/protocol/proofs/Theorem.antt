-- Demand 3 over the model: "Every list's history has an order that fits." The definitions are those of specs/Board.antt (histories and what
-- fits), specs/Rig.antt (the rig's events) and specs/Laws.antt (what is asked of the order of tags and of the code).
use Prim.Native.Nat.{ℕ, ◌≤◌}
use mathlib.Core.Path.{◌≡◌, refl}
use mathlib.Core.Bool.{Bool, true}
use mathlib.Core.List.{List, [], Memᴰ}
use Rattle.config.specs.declared.Config.{Config}
use Rattle.tag.specs.declared.Tag.{Tag}
use Rattle.record.specs.Message.{Message}
use Rattle.protocol.specs.Board.{Call, Event, Atomic}
use Rattle.protocol.specs.Endings.{EndsOne}
use Rattle.protocol.specs.Hosts.{Hosted}
use Rattle.protocol.specs.Parties.{Parties}
use Rattle.protocol.specs.Rig.{Rig, fresh_rig, run, Execution, fresh}
use Rattle.protocol.specs.Laws.{TagOrder, Coding}
use Rattle.protocol.proofs.World.{Setting, know}
use Rattle.protocol.proofs.Hosts.{hosted_invariant}
use Rattle.protocol.proofs.Move.{Invariant, invariant}
use Rattle.protocol.proofs.Order.{ordered}
use Rattle.protocol.proofs.Endings as endings
use Rattle.protocol.proofs.Calls.{calls_run}

-- Values and elements of any types; a key that orders tags; a code; a configuration with k at least 1; a starting board.
module _ {Value Element : Type 0} (cfg : Config) (key : Tag → ℕ) (tags : TagOrder cfg key)
    (IsBoard : Value → Type 0) (encode : Value → ℕ → Element) (decode : List (ℕ × Element) → Value) (coding : Coding cfg IsBoard encode decode)
    (positive : 1 ≤ cfg.k) (start : Value) (start_is_board : IsBoard start)
  where
    abbrev setting : Setting
    setting =
        record {
          Value = Value;
          Element = Element;
          cfg = cfg;
          key = key;
          encode = encode;
          decode = decode;
          IsBoard = IsBoard;
          tags = tags;
          coding = coding;
          positive = positive;
          start = start;
          start_is_board = start_is_board;
        }

    by_invariant : {r : Rig Value Element} {events : List (Event Value)} → Invariant setting r events → Atomic key start events
    unfolding know
    by_invariant a =
        let found = ordered setting a.good.log a.recorded (λ n. refl) in
        record { order = found.0; fits = found.1; tags_rise = found.2 }

    -- The events of every execution, in which any event may have been refused for any reason, have a history with an order that fits.
    pub atomic : {r : Rig Value Element} {events : List (Event Value)} → Execution key encode decode cfg IsBoard start r events
        → Atomic key start events
    atomic runs = by_invariant (invariant setting runs)

    -- The same of every run of hosts, of the list of the clients' calls.
    pub hosted_atomic : {p : Parties Value Element} {sent : List (Message Element)} {events : List (Event Value)}
        → Hosted key encode decode cfg IsBoard start p sent events → Atomic key start events
    hosted_atomic runs = by_invariant (hosted_invariant setting runs)

    -- Each answer that names a client ends exactly one operation of that client, begun before: written a write, read a read, spent either.
    pub ends_one : {r : Rig Value Element} {events : List (Event Value)} → Execution key encode decode cfg IsBoard start r events → EndsOne events
    ends_one runs =
        let a = invariant setting runs in
        endings.ends_one setting a.good.log a.recorded

    pub hosted_ends_one : {p : Parties Value Element} {sent : List (Message Element)} {events : List (Event Value)}
        → Hosted key encode decode cfg IsBoard start p sent events → EndsOne events
    hosted_ends_one runs =
        let a = hosted_invariant setting runs in
        endings.ends_one setting a.good.log a.recorded

    -- The same of every list of calls, with M the most that may be in flight: refused ones included, the events that the model answers to
    -- them have a history with an order that fits. A board that fits is a board.
    pub atomic_calls : (fits : Value → Bool) (most : ℕ) (calls : List (Call Value))
        → ((a : Call Value) → Memᴰ a calls → a.code ≡ 1 → fits a.board ≡ true → IsBoard a.board)
        → Atomic key start (run key encode decode cfg fits most (fresh_rig cfg encode start) calls)
    atomic_calls fits most calls boards =
        atomic (calls_run key encode decode cfg IsBoard fits start most calls boards (fresh_rig cfg encode start) [] fresh).1
