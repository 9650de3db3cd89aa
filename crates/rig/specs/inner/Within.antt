-- Question 6 of what the parties of one place keep.
use Rattle.std.specs.Prelude.{ℕ, Bool, true, cond, leb}
use Rattle.std.proofs.Math.Option.{some}
use Rattle.config.specs.declared.Config.{Config}
use Rattle.client.specs.declared.State as client
use Rattle.parties.specs.declared.Node.{Node}
use Rattle.parties.specs.Within.{client_in_place, server_in_place}

-- past n there is nothing to ask
abbrev pub unless : ℕ → ℕ → Bool → Bool
unless n i b = cond (leb n i) true b

-- the server of place i, if it is in use
abbrev pub server_yes : Config → ℕ → Node → Bool
server_yes cfg i x = unless cfg.n i (server_in_place cfg i (some x))

-- the client of place i
abbrev pub client_yes : Config → ℕ → client.State → Bool
client_yes cfg i x = unless cfg.c i (client_in_place cfg i (some x))
