-- Demand 3 for hosts, over the contracts of the calls: the history of every run of specs/Runs.antt has an order that fits. What fits is said by the single
-- board, and nothing that a host keeps. Assumes nothing.
use Prim.Native.Nat.{ℕ}
use mathlib.Core.List.{List}
use Rattle.config.specs.declared.Config.{Config}
use Rattle.config.specs.Config.{Valid}
use Rattle.protocol.specs.Boards.{Board, BoardAtomic, BoardEvent, IsBoard, starting_board}
use Rattle.protocol.specs.Endings.{EndsOne}
use Rattle.protocol.proofs.Boards.{hosted_atomic, hosted_ends_one}
use Rattle.host.specs.Config.{config_of}
use Rattle.host.specs.Runs.{Kept, Runs, begin_read, begin_write, client_step, made, server_step}
use Rattle.host.proofs.Clients.{read_comes, step_comes, write_comes}
use Rattle.host.proofs.Made.{config_valid, made_comes, start_board}
use Rattle.host.proofs.Servers.{server_comes}
use Rattle.host.proofs.Tied.{Comes}

module _ (config start : List ℕ) where
  abbrev cfg : Config
  cfg = config_of config

  abbrev origin : Board
  origin = starting_board cfg start

  -- what the making shows holds for the whole run
  grounds : {k : Kept} {events : List BoardEvent} → Runs config start k events → Valid cfg × IsBoard cfg origin
  grounds (made {k} asked bytes ofServers ofClients nothing) =
      let valid = config_valid config asked in
      (valid, start_board config start valid bytes (λ s h. (k.servers s, ofServers s h)))
  grounds (server_step runs s here message answer handed post) = grounds runs
  grounds (begin_write runs c here n board out bytes post) = grounds runs
  grounds (begin_read runs c here out post) = grounds runs
  grounds (client_step runs c here message out read outcome handed post) = grounds runs

  -- a run of hosts is one of the protocol's, with the same events
  comes : {k : Kept} {events : List BoardEvent} → Runs config start k events → Comes cfg origin k events
  comes (made asked bytes ofServers ofClients nothing) =
      made_comes config start (config_valid config asked) ofServers ofClients nothing
  comes (server_step runs s here message answer handed post) =
      let g = grounds runs in
      server_comes config origin g.0 g.1 (comes runs) s here message answer handed post
  comes (begin_write runs c here n board out bytes post) =
      let g = grounds runs in
      write_comes config origin g.0 g.1 (comes runs) c here n board out bytes post
  comes (begin_read runs c here out post) =
      let g = grounds runs in
      read_comes config origin g.0 g.1 (comes runs) c here out post
  comes (client_step runs c here message out read outcome handed post) =
      let g = grounds runs in
      step_comes config origin g.0 g.1 (comes runs) c here message out read outcome handed post

  -- The history of every run of hosts has an order that fits; in it, ended writes stand in rising tag order.
  pub atomic : {k : Kept} {events : List BoardEvent} → Runs config start k events → BoardAtomic cfg origin events
  atomic runs =
      let g = grounds runs in
      hosted_atomic cfg g.0 origin g.1 (comes runs).hosted

  -- Each answer that names a client ends exactly one operation of that client, begun before: written a write, read a read, spent either.
  pub ends_one : {k : Kept} {events : List BoardEvent} → Runs config start k events → EndsOne events
  ends_one runs =
      let g = grounds runs in
      hosted_ends_one cfg g.0 origin g.1 (comes runs).hosted
