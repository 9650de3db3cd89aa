-- An answer judged, and counted unless it is of kind 9: the first half of a client's step, as the code takes it.
use Rattle.std.specs.Prelude.{ℕ, ◌+◌, ◌-◌, ◌^◌, Bool, true, false, cond, not, ◌&&◌, eqb, Option, Some, None}
use Rattle.config.specs.declared.Config.{Config}
use Rattle.config.specs.Number.{server_number}
use Rattle.tag.specs.Tag.{key, same}
use Rattle.record.specs.declared.Header.{Header}
use Rattle.protocol.specs.Client.{is_cleared, judged}
use Rattle.protocol.specs.Tags.{higher}
use Rattle.client.specs.declared.count.Taken.{Taken}
use Rattle.client.specs.declared.Phase.{Phase}
use Rattle.client.specs.declared.Phase.TheVariants.{Idle, Asking, PreWriting, FinalisingWrite, FinalisingRead, Down}
use Rattle.client.specs.declared.State.{State}
use Rattle.client.specs.Servers.{member}

-- the set with server s in it or out of it, as told
unfoldable pub put_of : ℕ → ℕ → Bool → ℕ
put_of set s there = cond (member set s) (cond there set (set - 2 ^ s)) (cond there (set + 2 ^ s) set)

-- the answer is judged as of a kind, and its server is not counted yet
abbrev pub first_of : ℕ → ℕ → Header → Bool
first_of kind counted h = eqb (judged h.kind) kind && not (member counted (server_number h.server))

-- the phase awaits the answer
unfoldable pub awaits_of : Phase → Header → Bool
awaits_of Idle h = false
awaits_of (Asking writes best counted) h = first_of 2 counted h
awaits_of (PreWriting tag counted) h = first_of 4 counted h && same h.tag tag
awaits_of (FinalisingWrite tag counted) h = first_of 6 counted h && same h.tag tag
awaits_of (FinalisingRead tag counted sent) h = first_of 8 counted h && same h.tag tag
awaits_of Down h = false

-- the phase with the answer counted
unfoldable pub counting_of : Config → Phase → Header → Phase
counting_of cfg Idle h = Idle
counting_of cfg (Asking writes best counted) h =
    Asking writes (higher (key cfg) best h.tag) (put_of counted (server_number h.server) true)
counting_of cfg (PreWriting tag counted) h = PreWriting tag (put_of counted (server_number h.server) true)
counting_of cfg (FinalisingWrite tag counted) h = FinalisingWrite tag (put_of counted (server_number h.server) true)
counting_of cfg (FinalisingRead tag counted sent) h =
    FinalisingRead tag (put_of counted (server_number h.server) true) (put_of sent (server_number h.server) h.present)
counting_of cfg Down h = Down

-- how an awaited answer is taken: kind 9 is not counted
abbrev pub taken_of : Config → Phase → Header → Taken
taken_of cfg phase h = cond (is_cleared h.kind) Taken.Cleared (Taken.Counted (counting_of cfg phase h))

-- if the answer is of the client's operation, too
abbrev pub count_of : Config → State → Header → Option Taken
count_of cfg x h = cond (eqb h.operation x.operation && awaits_of x.phase h) (Some (taken_of cfg x.phase h)) None
